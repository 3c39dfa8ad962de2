-- What the session knows between its messages (this project). No public clause cites this file.
use Rattle.std.specs.Prelude.{◌≡◌, ℕ, ℤ, pos, true, false, List, [], ◌∷◌, ◌++◌, ◌+◌, codes, map, Option, Some, None, is_some}
use Rattle.hl_base.specs.declared.place.PathId.{PathId}
use Rattle.io_edge.specs.LibraryCall.{LibraryCall}
use Rattle.document_store.specs.Store.{empty_store}
use Rattle.library_folders.specs.declared.configuration.Configuration.{Configuration}
use Rattle.library_reading.specs.Asked.{Came}
use Rattle.session_core.specs.declared.state.LastList.{LastList}
use Rattle.session_core.specs.declared.state.Stage.TheVariants.{Active}
use Rattle.session_core.specs.Message.{event}
use Rattle.session_core.specs.State.{State, no_configuration, last_list}
use Rattle.bulk_session.specs.Shelf.{root, answered}
use Rattle.bulk_session.specs.Bulk.{budget, program_number, member_files, member_paths, store_with, text_behind}

-- each of these calls of the library has its answer
abbrev pub AreAnswered : List LibraryCall → Type 0
AreAnswered calls = map answered calls ≡ calls

-- a body brought a session from one state to another, over calls that have their answers
pub record IsHeard (before : State) (body : List ℕ) (now : State) : Type 0 where
  pub calls : List LibraryCall
  pub sound : AreAnswered calls
  pub bodies : List (List ℕ)
  pub comes : event before body calls ≡ Came (record { state = now; bodies = bodies }) []

-- the number of the program
abbrev pub program : PathId
program = record { 0 = program_number }

-- what the two files of the configuration say
abbrev pub configuration : Configuration
configuration = record {
  groups = record { name = codes "BULK"; libraries = record { path = codes "lib"; optional = false } ∷ []; sysparm = [] } ∷ [];
  programs = record { program = codes "*"; group = codes "BULK" } ∷ [];
}

-- the client has begun, and is ready
abbrev pub begun : State
begun = record {
  stage = Active;
  root = Some root;
  budget = budget;
  configuration = no_configuration;
  store = empty_store;
  queue = [];
  published = [];
  debuggers = [];
  waiting = [];
}

abbrev pub ready : State
ready = record begun { configuration = configuration; store = record { documents = []; files = member_files; paths = member_paths } }

-- the program is open in a version with a text
abbrev pub state_with : (queue : List PathId) → List LastList → ℤ → (text : List ℕ) → State
state_with queue published version text = record {
  stage = Active;
  root = Some root;
  budget = budget;
  configuration = configuration;
  store = store_with version text;
  queue = queue;
  published = published;
  debuggers = [];
  waiting = [];
}

-- it is behind so many edits, and its list is still to be made
pub record IsQueued (state : State) (count edits : ℕ) : Type 0 where
  pub published : List LastList
  pub is : state ≡ state_with (program ∷ []) published (pos (edits + 1)) (text_behind count edits)

-- its list was made
pub record IsListed (state : State) (count edits : ℕ) : Type 0 where
  pub published : List LastList
  pub is : state ≡ state_with [] published (pos (edits + 1)) (text_behind count edits)
  pub listed : is_some (last_list published program) ≡ true
