-- What a session knows between two events (this project).
use Rattle.std.specs.Prelude.{ℕ, ◌==◌, ◌&&◌, Bool, true, not, false, List, [], ◌∷◌, ◌++◌, Option, Some, None, codes}
use Rattle.std.specs.Prelude.{map, filter, find, unwrap_or, option_map, option_and_then, encode_utf8_all}
use Rattle.std.specs.List.{list_any}
use Rattle.std.specs.Str.{bytes_eq}
use Rattle.hl_base.specs.declared.place.PathId.{PathId}
use Rattle.file_uri.specs.Paths.{path_of}
use Rattle.document_store.specs.Store.{Store, OpenDocument, empty_store, number_of}
use Rattle.library_folders.specs.declared.configuration.Configuration.{Configuration}
use Rattle.library_folders.specs.declared.folders.Folder.{Folder}
use Rattle.library_folders.specs.Folders.{folders_of, is_member}
use Rattle.lsp_messages.specs.declared.outgoing.Diagnostic.{Diagnostic}
use Rattle.debug_sessions.specs.State.{Debuggers}
use Rattle.waiting_requests.specs.declared.request.Request.{Request}
use Rattle.session_core.specs.declared.state.Stage.{Stage}
use Rattle.session_core.specs.declared.state.Stage.TheVariants.{Fresh}
use Rattle.session_core.specs.declared.state.LastList.{LastList}

-- How far the session has come, the path of the folder that the client works in, how many statements a program may be given,
-- the configuration as it was last read, the documents and files, the programs whose list is still to be made, in order, what
-- was last published of each program since it was opened or became one, the debug sessions that are in use, and the requests
-- that wait until no program is queued, in order of arrival. A program is named by the number of its path.
pub record State : Type 0 where
  pub stage : Stage
  pub root : Option (List ℕ)
  pub budget : ℕ
  pub configuration : Configuration
  pub store : Store
  pub queue : List PathId
  pub published : List LastList
  pub debuggers : Debuggers
  pub waiting : List Request

-- where no configuration was read
abbrev pub no_configuration : Configuration
no_configuration = record { groups = []; programs = [] }

-- before the first message, where a program may be given so many statements
abbrev pub start : (budget : ℕ) → State
start budget = record {
  stage = Fresh;
  root = None;
  budget = budget;
  configuration = no_configuration;
  store = empty_store;
  queue = [];
  published = [];
  debuggers = [];
  waiting = [];
}

-- ---- what surrounds programs

-- what surrounds every program of a session, besides the documents and files
pub record Around : Type 0 where
  pub root : Option (List ℕ)
  pub configuration : Configuration
  pub budget : ℕ

abbrev pub around_of : State → Around
around_of s = record { root = s.root; configuration = s.configuration; budget = s.budget }

-- ---- library folders

-- the library folders of a configuration; without a root there is none
abbrev pub libraries_of : (root : Option (List ℕ)) → Configuration → List Folder
libraries_of None configuration = []
libraries_of (Some root) configuration = folders_of root configuration.groups

abbrev pub libraries : State → List Folder
libraries s = libraries_of s.root s.configuration

-- ---- programs

-- one number
abbrev pub is_number : PathId → PathId → Bool
is_number n m = n.0 == m.0

-- the number of a document's path
abbrev pub number_at : Store → OpenDocument → PathId
number_at store document = record { 0 = unwrap_or (number_of store.paths document.path) 0 }

-- the number of the path that a URI names, if a document of it was ever opened
abbrev pub number_named : Store → List ℕ → Option PathId
number_named store uri = option_map (λ n. record { 0 = n }) (option_and_then (number_of store.paths) (path_of uri))

-- the open document of a number
abbrev pub document_at : Store → PathId → Option OpenDocument
document_at store n = find (λ d. is_number (number_at store d) n) store.documents

-- a document is a program where its language is HLASM and it stands in no library folder
abbrev pub is_program : List Folder → OpenDocument → Bool
is_program folders document = bytes_eq (encode_utf8_all document.language) (codes "hlasm") && not (is_member folders document.path)

-- the open programs, in order of opening
abbrev pub programs : List Folder → Store → List PathId
programs folders store = map (number_at store) (filter (is_program folders) store.documents)

-- ---- the queue

-- no program is queued
abbrev pub is_idle : List PathId → Bool
is_idle [] = true
is_idle (n ∷ queue) = false

-- a program is queued
abbrev pub is_queued : List PathId → PathId → Bool
is_queued queue n = list_any (is_number n) queue

-- a queue with these programs too: one that is queued keeps its place, and the others follow in their order
abbrev pub with_programs : List PathId → List PathId → List PathId
with_programs queue others = queue ++ filter (λ n. not (is_queued queue n)) others

-- a queue without the program of a number
abbrev pub without : List PathId → Option PathId → List PathId
without queue None = queue
without queue (Some n) = filter (λ m. not (is_number m n)) queue

-- ---- what was published

-- a list without a report
abbrev pub is_empty : List Diagnostic → Bool
is_empty [] = true
is_empty (first ∷ others) = false

-- what was last published of a program
abbrev pub last_list : List LastList → PathId → Option LastList
last_list published n = find (λ (last : LastList). is_number last.path n) published

-- what was published of the other programs
abbrev pub without_list : List LastList → PathId → List LastList
without_list published n = filter (λ (last : LastList). not (is_number last.path n)) published

-- what was published without what was of a number
abbrev pub published_without : List LastList → Option PathId → List LastList
published_without published None = published
published_without published (Some n) = without_list published n

-- what was published, where this is the newest
abbrev pub with_list : List LastList → LastList → List LastList
with_list published last = without_list published last.path ++ last ∷ []
