-- What `bulk` writes (this project): six lines, from the figures of a fresh assembly of the program as it is opened, and of one of it
-- behind its ten edits.
use Rattle.std.specs.Prelude.{ℕ, ℤ, pos, List, [], ◌∷◌, ◌++◌, ◌+◌, codes, map, Option, Some, None, unwrap_or, chars}
use Rattle.document_store.specs.Store.{Store, OpenDocument, File, Readable}
use Rattle.group_members.specs.Members.{member_of}
use Rattle.session_core.specs.DeclaredFigures.{Figures}
use Rattle.session_core.specs.ProgramFigures.{figures_of}
use Rattle.session_core.specs.Globals.{number_of}
use Rattle.bulk_script.specs.Texts.{edit_count, member_text, program_text}
use Rattle.bulk_script.specs.Messages.{program_uri}
use Rattle.bulk_script.specs.declared.lines.Outcome.{Outcome}
use Rattle.bulk_script.specs.Lines.{lines_of}
use Rattle.bulk_session.specs.Shelf.{root, folder_path, numbers, member_path}

-- how many statements the program may be given
abbrev pub budget : ℕ
budget = 100000

-- where the program is, and the number of its path: the one behind those of the members
abbrev pub program_path : List ℕ
program_path = root ++ codes "/BULK.hlasm"

abbrev pub program_number : ℕ
program_number = 10

-- the files of the members, each beside its path
abbrev pub member_files : List (Option File)
member_files = map (λ number. Some (Readable (chars (member_text number)))) numbers

abbrev pub member_paths : List (List ℕ)
member_paths = map member_path numbers

-- the open program in a version with a text
abbrev pub program_document : ℤ → (text : List ℕ) → OpenDocument
program_document version text = record { path = program_path; uri = program_uri; language = codes "hlasm"; version = version; text = text }

-- what there is: the members and the program
abbrev pub store_with : ℤ → (text : List ℕ) → Store
store_with version text = record {
  documents = program_document version text ∷ [];
  files = member_files ++ None ∷ [];
  paths = member_paths ++ program_path ∷ [];
}

-- the program's text behind so many edits, and what there is then: each edit makes the next version
abbrev pub text_behind : (count edits : ℕ) → List ℕ
text_behind count edits = chars (program_text count edits)

abbrev pub store_behind : (count edits : ℕ) → Store
store_behind count edits = store_with (pos (edits + 1)) (text_behind count edits)

-- the figures of a fresh assembly of that text, without SYSPARM, whose members are those of the folder
abbrev pub figures_behind : (count edits : ℕ) → Figures
figures_behind count edits =
    figures_of program_number (text_behind count edits) [] (member_of (store_behind count edits) (folder_path ∷ [])) budget

-- the total that the members make in an assembly
abbrev pub total_in : Figures → ℤ
total_in figures = unwrap_or (number_of (codes "TOT") figures.globals) (pos 0)

-- what assemblies before and behind the edits come to
abbrev pub outcome_of : (before behind : Figures) → Outcome
outcome_of before behind = record {
  points = before.summary.points;
  symbols = before.summary.symbols;
  diagnostics = before.summary.diagnostics;
  total = total_in before;
  total_behind = total_in behind;
}

-- what is written for a program of so many calls
unfoldable pub bulk_lines : (count : ℕ) → List ℕ
bulk_lines count = lines_of (outcome_of (figures_behind count 0) (figures_behind count edit_count))
