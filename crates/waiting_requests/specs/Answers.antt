-- What a request is answered (Language Server Protocol 3.17, "Goto Definition Request", "Find References Request", "Hover
-- Request", "Document Symbols Request"): in an open document, from the latest assembly of the program that it is, or else of the
-- first open program that touches it (this project).
use Rattle.std.specs.Prelude.{ℕ, Bool, ◌==◌, List, [], Option, Some, None, find, is_some, slice_get, if◌then◌else◌}
use Rattle.std.specs.Option.{option_and_then, option_or}
use Rattle.document_store.specs.Store.{Store, document_of, number_of}
use Rattle.file_uri.specs.Paths.{path_of}
use Rattle.lsp_messages.specs.declared.outgoing.SymbolAnswer.{SymbolAnswer}
use Rattle.lsp_messages.specs.declared.outgoing.SymbolAnswer.TheVariants as said
use Rattle.symbol_answers.specs.Answers as symbols
use Rattle.waiting_requests.specs.declared.request.Question.{Question}
use Rattle.waiting_requests.specs.declared.request.Question.TheVariants.{Definition, References, Hover, Symbols}
use Rattle.waiting_requests.specs.declared.request.Request.{Request}
use Rattle.waiting_requests.specs.Names.{Names, touches}

-- ---- the document

-- a document of the path of a number is open
abbrev pub is_open : Store → (number : ℕ) → Bool
is_open store number = is_some (option_and_then (document_of store) (slice_get store.paths number))

-- a number, where a document of its path is open
abbrev pub where_open : Store → (number : ℕ) → Option ℕ
where_open store number = if is_open store number then Some number else None

-- the number of a path, where a document of it is open
abbrev pub open_number : Store → (path : List ℕ) → Option ℕ
open_number store path = option_and_then (where_open store) (number_of store.paths path)

-- the number of the path that a URI names, where a document of it is open
abbrev pub document_asked : Store → (uri : List ℕ) → Option ℕ
document_asked store uri = option_and_then (open_number store) (path_of uri)

-- ---- the program

-- the program at the path of a number
abbrev pub program_at : List Names → (path : ℕ) → Option Names
program_at programs path = find (λ names. names.path == path) programs

-- the first program that touches it
abbrev pub program_touching : List Names → (path : ℕ) → Option Names
program_touching programs path = find (touches path) programs

-- the program from whose assembly a question in that document is answered
abbrev pub program_for : List Names → (path : ℕ) → Option Names
program_for programs path = option_or (program_at programs path) (program_touching programs path)

-- ---- the answer

-- where the document is not open
abbrev pub closed_answer : Question → SymbolAnswer
closed_answer (Definition at) = said.Nothing
closed_answer (References at declarations) = said.Places []
closed_answer (Hover at) = said.Nothing
closed_answer Symbols = said.Nothing

-- where it is open, and no program has it
abbrev pub no_answer : Question → SymbolAnswer
no_answer (Definition at) = said.Nothing
no_answer (References at declarations) = said.Places []
no_answer (Hover at) = said.Nothing
no_answer Symbols = said.Symbols []

-- from what an assembly tells
abbrev pub answer_from : Store → Names → (path : ℕ) → Question → SymbolAnswer
answer_from store names path (Definition at) = symbols.definition store names.occurrences path at
answer_from store names path (References at declarations) = symbols.references store names.occurrences path at declarations
answer_from store names path (Hover at) = symbols.hover names.rows names.sections store names.occurrences path at
answer_from store names path Symbols = symbols.document_symbols names.rows store path

-- from what that program tells, if there is one
abbrev pub answer_by : Store → Option Names → (path : ℕ) → Question → SymbolAnswer
answer_by store None path question = no_answer question
answer_by store (Some names) path question = answer_from store names path question

-- in the open document of the path of a number
abbrev pub answer_at : Store → List Names → (path : ℕ) → Question → SymbolAnswer
answer_at store programs path question = answer_by store (program_for programs path) path question

-- in the document that was found, if it is open
abbrev pub answer_where : Store → List Names → Question → Option ℕ → SymbolAnswer
answer_where store programs question None = closed_answer question
answer_where store programs question (Some path) = answer_at store programs path question

-- what a request is answered
abbrev pub answer_of : Store → List Names → Request → SymbolAnswer
answer_of store programs request = answer_where store programs request.question (document_asked store request.uri)
