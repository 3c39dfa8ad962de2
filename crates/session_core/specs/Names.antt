-- What the open programs tell of names (this project).
use Rattle.std.specs.Prelude.{ℕ, List, [], ◌∷◌, Option, Some, None}
use Rattle.std.specs.List.{flat_map}
use Rattle.hl_base.specs.declared.place.PathId.{PathId}
use Rattle.document_store.specs.Store.{Store, OpenDocument}
use Rattle.library_folders.specs.declared.configuration.Configuration.{Configuration}
use Rattle.library_folders.specs.Folders.{parm_for}
use Rattle.program_names.specs.Names as assembled
use Rattle.waiting_requests.specs.Names.{Names}
use Rattle.session_core.specs.Diagnostics.{members_of}
use Rattle.session_core.specs.State.{State, libraries_of, programs, document_at}

-- What a program tells of names: what an assembly of its text tells, with the SYSPARM and the members of its group, where it may
-- be given so many statements. The statements that are named stand in the texts that are present.
unfoldable pub names_of : (root : Option (List ℕ)) → Configuration → Store → (budget : ℕ) → PathId → OpenDocument → Names
names_of root configuration store budget n document =
    assembled.names_of store n.0 document.text (parm_for root configuration document.path)
    (members_of root configuration store document) budget

-- what the program of the document of a number tells
abbrev pub names_told : (root : Option (List ℕ)) → Configuration → Store → (budget : ℕ) → PathId → Option OpenDocument → List Names
names_told root configuration store budget n None = []
names_told root configuration store budget n (Some document) = names_of root configuration store budget n document ∷ []

abbrev pub names_in : State → PathId → Option OpenDocument → List Names
names_in s n document = names_told s.root s.configuration s.store s.budget n document

abbrev pub names_at : State → PathId → List Names
names_at s n = names_in s n (document_at s.store n)

-- what the open programs among these documents and files tell, in order of opening
unfoldable pub names_over_all : (root : Option (List ℕ)) → Configuration → Store → (budget : ℕ) → List Names
names_over_all root configuration store budget =
    flat_map (λ n. names_told root configuration store budget n (document_at store n)) (programs (libraries_of root configuration) store)

-- what those of a session tell
abbrev pub program_names : State → List Names
program_names s = names_over_all s.root s.configuration s.store s.budget
