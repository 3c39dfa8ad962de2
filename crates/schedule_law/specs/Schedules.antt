-- Sessions that hear messages, with Turns between them at any moments (this project).
use Rattle.std.specs.Prelude.{◌≡◌, ◌&&◌, ℕ, Bool, false, List, [], ◌∷◌, Option, Some, None, Result, Ok, Err}
use Rattle.serde_json.specs.Data.{Data}
use Rattle.json_view.specs.Texts.{reading}
use Rattle.document_store.specs.Store.{OpenDocument}
use Rattle.hl_base.specs.declared.place.PathId.{PathId}
use Rattle.io_edge.specs.LibraryCall.{LibraryCall}
use Rattle.lsp_messages.specs.declared.incoming.LspIn.{LspIn}
use Rattle.lsp_messages.specs.declared.incoming.LspIn.TheVariants.{Initialize, Shutdown, Definition, References, Hover, DocumentSymbol, Initialized, Exit, DidOpen, DidChange, DidClose, DidSave, DidChangeConfiguration, DidChangeWatchedFiles, Cancel, Dap}
use Rattle.lsp_messages.specs.declared.incoming.Refusal.{Refusal}
use Rattle.lsp_messages.specs.Messages.{message_of}
use Rattle.waiting_requests.specs.Requests.{waits}
use Rattle.session_core.specs.declared.state.LastList.{LastList}
use Rattle.session_core.specs.Diagnostics.{list_of}
use Rattle.session_core.specs.Message.{message}
use Rattle.session_core.specs.Refusals.{is_active, is_ended}
use Rattle.session_core.specs.State.{State}
use Rattle.session_core.specs.Step.{Step, Goes}
use Rattle.session_core.specs.Turn.{turn}

-- what may come to a session: a message, or the moment for a Turn
pub data Event : Type 0 where
  Message : (body : List ℕ) → Event
  Turn : Event

-- the messages among events, in order
abbrev pub messages : List Event → List (List ℕ)
messages [] = []
messages (Message body ∷ events) = body ∷ messages events
messages (Turn ∷ events) = messages events

-- a message has led to this state, which is not the session's end, and these of the calls of the library to come are left
pub record GoesOn (step : Step) (next : State) (left : List LibraryCall) : Type 0 where
  pub bodies : List (List ℕ)
  pub goes : step ≡ Goes next bodies left
  pub alive : is_ended next.stage ≡ false

-- events lead a session, over these calls of the library to come, from one state to another, and it goes on after each of them;
-- these calls are left
abbrev pub Leads : State → List LibraryCall → List Event → State → List LibraryCall → Type 0
Leads s calls [] now left = (now ≡ s) × (left ≡ calls)
Leads s calls (Turn ∷ events) now left = Leads (turn s).state calls events now left
Leads s calls (Message body ∷ events) now left =
    (next : State) × (rest : List LibraryCall) × GoesOn (message s body calls) next rest × Leads next rest events now left

-- ---- a shutdown whose id waits

-- a shutdown is refused because a request of its id waits
abbrev pub is_held_up : State → Result LspIn Refusal → Bool
is_held_up s (Ok (Initialize id root)) = false
is_held_up s (Ok (Shutdown id)) = is_active s.stage && waits s.waiting id
is_held_up s (Ok (Definition id uri at)) = false
is_held_up s (Ok (References id uri at declarations)) = false
is_held_up s (Ok (Hover id uri at)) = false
is_held_up s (Ok (DocumentSymbol id uri)) = false
is_held_up s (Ok Initialized) = false
is_held_up s (Ok Exit) = false
is_held_up s (Ok (DidOpen uri language version text)) = false
is_held_up s (Ok (DidChange uri version edits)) = false
is_held_up s (Ok (DidClose uri)) = false
is_held_up s (Ok DidSave) = false
is_held_up s (Ok DidChangeConfiguration) = false
is_held_up s (Ok (DidChangeWatchedFiles changes)) = false
is_held_up s (Ok (Cancel id)) = false
is_held_up s (Ok (Dap session message)) = false
is_held_up s (Err refusal) = false

abbrev pub is_value_held_up : State → Option Data → Bool
is_value_held_up s None = false
is_value_held_up s (Some value) = is_held_up s (message_of value)

-- so it is with the shutdown that a body is
abbrev pub is_body_held_up : State → (body : List ℕ) → Bool
is_body_held_up s body = is_value_held_up s (reading body)

-- among events that lead a session, no shutdown is refused because a request of its id waits
abbrev pub NoneIsHeldUp : State → List LibraryCall → List Event → Type 0
NoneIsHeldUp s calls [] = Unit {0}
NoneIsHeldUp s calls (Turn ∷ events) = NoneIsHeldUp (turn s).state calls events
NoneIsHeldUp s calls (Message body ∷ events) =
    (is_body_held_up s body ≡ false)
    × ((next : State) (rest : List LibraryCall) → GoesOn (message s body calls) next rest → NoneIsHeldUp next rest events)

-- ---- what is the same

-- what a session knows beside its queue, what it has published and which requests wait: how far it has come, the folder and the
-- budget, the configuration, the documents and the files, and the debug sessions
abbrev pub known : State → State
known s = record s { queue = []; published = []; waiting = [] }

-- the list of a document of its version as they are
abbrev pub list_now : State → PathId → OpenDocument → LastList
list_now s n document = record { path = n; version = document.version; list = list_of s n document }
