-- Words of the laws of a session (this project).
use Rattle.std.specs.Prelude.{◌==◌, ℕ, ◌≤◌, ◌⊎◌, ◌&&◌, ◌||◌, ◌≡◌, [], Bool, true, false, not, List}
use Rattle.std.specs.Prelude.{length, Option, Some, None, Result, Ok, Err, is_err}
use Rattle.std.specs.Option.{option_map_or}
use Rattle.serde_json.specs.Data.{Data}
use Rattle.json_view.specs.Texts.{reading}
use Rattle.io_edge.specs.LibraryCall.{LibraryCall}
use Rattle.lsp_messages.specs.declared.incoming.LspIn.{LspIn}
use Rattle.lsp_messages.specs.declared.incoming.LspIn.TheVariants.{Initialize, Shutdown, Definition, References, Hover, DocumentSymbol}
use Rattle.lsp_messages.specs.declared.incoming.LspIn.TheVariants.{Initialized, Exit, DidOpen, DidChange, DidClose, DidSave}
use Rattle.lsp_messages.specs.declared.incoming.LspIn.TheVariants.{DidChangeConfiguration, DidChangeWatchedFiles, Cancel, Dap}
use Rattle.lsp_messages.specs.declared.incoming.Refusal.{Refusal}
use Rattle.lsp_messages.specs.Messages.{message_of}
use Rattle.hl_base.specs.declared.place.PathId.{PathId}
use Rattle.document_store.specs.Store.{OpenDocument}
use Rattle.document_store.specs.Changes.{opened, changed, closed}
use Rattle.trace_values.specs.declared.item.TraceItem.{TraceItem}
use Rattle.trace_arena.specs.Points.{Point}
use Rattle.dap_messages.specs.declared.requests.DapIn.{DapIn}
use Rattle.dap_messages.specs.declared.requests.DapRefusal.{DapRefusal}
use Rattle.dap_messages.specs.Requests.{request_of}
use Rattle.debug_sessions.specs.State.{session_of}
use Rattle.debug_sessions.specs.Laws.{reads_disconnect, trace_in}
use Rattle.session_core.specs.Refusals.{is_fresh, is_active, is_ended}
use Rattle.waiting_requests.specs.Requests.{waits, AreDistinct}
use Rattle.session_core.specs.Diagnostics.{list_of}
use Rattle.session_core.specs.State.{State, around_of, is_idle, libraries, document_at, is_program, is_queued, last_list}
use Rattle.session_core.specs.Step.{Step, Goes, Stopped, Other}
use Rattle.session_core.specs.Turn.{is_published}

-- a message is refused: it is none, its method is not known, a parameter is bad, it may not stand here, its id is that of a
-- request that waits, or the store refuses it
abbrev pub is_refused : State → Result LspIn Refusal → Bool
is_refused s (Err refusal) = true
is_refused s (Ok (Initialize id root)) = not (is_fresh s.stage) || waits s.waiting id
is_refused s (Ok (Shutdown id)) = not (is_active s.stage) || waits s.waiting id
is_refused s (Ok (DidOpen uri language version text)) = is_err (opened s.store uri language version text)
is_refused s (Ok (DidChange uri version edits)) = is_err (changed s.store uri version edits)
is_refused s (Ok (DidClose uri)) = is_err (closed s.store uri)
is_refused s (Ok Initialized) = false
is_refused s (Ok (Definition id uri at)) = not (is_active s.stage) || waits s.waiting id
is_refused s (Ok (References id uri at declarations)) = not (is_active s.stage) || waits s.waiting id
is_refused s (Ok (Hover id uri at)) = not (is_active s.stage) || waits s.waiting id
is_refused s (Ok (DocumentSymbol id uri)) = not (is_active s.stage) || waits s.waiting id
is_refused s (Ok Exit) = false
is_refused s (Ok DidSave) = false
is_refused s (Ok DidChangeConfiguration) = false
is_refused s (Ok (DidChangeWatchedFiles changes)) = false
is_refused s (Ok (Cancel id)) = false
is_refused s (Ok (Dap session message)) = false

-- the body is refused: it is no JSON, or the message that it is is refused
abbrev pub is_refused_value : State → Option Data → Bool
is_refused_value s None = true
is_refused_value s (Some value) = is_refused s (message_of value)

abbrev pub is_refused_body : State → List ℕ → Bool
is_refused_body s body = is_refused_value s (reading body)

-- a message is on files: the client is ready, so that the configuration is read, or files have changed
abbrev pub is_on_files : Result LspIn Refusal → Bool
is_on_files (Err refusal) = false
is_on_files (Ok (Initialize id root)) = false
is_on_files (Ok (Shutdown id)) = false
is_on_files (Ok (Definition id uri at)) = false
is_on_files (Ok (References id uri at declarations)) = false
is_on_files (Ok (Hover id uri at)) = false
is_on_files (Ok (DocumentSymbol id uri)) = false
is_on_files (Ok Initialized) = true
is_on_files (Ok Exit) = false
is_on_files (Ok (DidOpen uri language version text)) = false
is_on_files (Ok (DidChange uri version edits)) = false
is_on_files (Ok (DidClose uri)) = false
is_on_files (Ok DidSave) = false
is_on_files (Ok DidChangeConfiguration) = false
is_on_files (Ok (DidChangeWatchedFiles changes)) = true
is_on_files (Ok (Cancel id)) = false
is_on_files (Ok (Dap session message)) = false

abbrev pub is_value_on_files : Option Data → Bool
is_value_on_files None = false
is_value_on_files (Some value) = is_on_files (message_of value)

abbrev pub is_body_on_files : List ℕ → Bool
is_body_on_files body = is_value_on_files (reading body)

-- the library was asked nothing: all calls to come are left
abbrev pub LeavesCalls : Step → List LibraryCall → Type 0
LeavesCalls (Goes t bodies rest) calls = rest ≡ calls
LeavesCalls Stopped calls = ⊥
LeavesCalls Other calls = ⊥

-- nothing has changed but that one body may be written, and the library was asked nothing
abbrev pub Keeps : Step → State → List LibraryCall → Type 0
Keeps (Goes t bodies rest) s calls = (t ≡ s) × (length bodies ≤ 1) × (rest ≡ calls)
Keeps Stopped s calls = ⊥
Keeps Other s calls = ⊥

-- ---- debug sessions

-- what is said to a debug session: its number, and the message as it is read
pub record DebugSaid : Type 0 where
  pub number : ℕ
  pub read : Result DapIn DapRefusal

-- what a message says to a debug session, if it is to one
abbrev pub debug_said : Result LspIn Refusal → Option DebugSaid
debug_said (Err refusal) = None
debug_said (Ok (Initialize id root)) = None
debug_said (Ok (Shutdown id)) = None
debug_said (Ok (Definition id uri at)) = None
debug_said (Ok (References id uri at declarations)) = None
debug_said (Ok (Hover id uri at)) = None
debug_said (Ok (DocumentSymbol id uri)) = None
debug_said (Ok Initialized) = None
debug_said (Ok Exit) = None
debug_said (Ok (DidOpen uri language version text)) = None
debug_said (Ok (DidChange uri version edits)) = None
debug_said (Ok (DidClose uri)) = None
debug_said (Ok DidSave) = None
debug_said (Ok DidChangeConfiguration) = None
debug_said (Ok (DidChangeWatchedFiles changes)) = None
debug_said (Ok (Cancel id)) = None
debug_said (Ok (Dap session message)) = Some (record { number = session; read = request_of message })

abbrev pub value_debug_said : Option Data → Option DebugSaid
value_debug_said None = None
value_debug_said (Some value) = debug_said (message_of value)

-- what a body says to one
abbrev pub body_debug_said : List ℕ → Option DebugSaid
body_debug_said body = value_debug_said (reading body)

-- it is said to the session of a number
abbrev pub is_to : (number : ℕ) → DebugSaid → Bool
is_to number said = said.number == number

-- and disconnects it
abbrev pub is_end_of : (number : ℕ) → DebugSaid → Bool
is_end_of number said = is_to number said && reads_disconnect said.read

-- a body is a message to the debug session of a number
abbrev pub is_body_debugging : (number : ℕ) → List ℕ → Bool
is_body_debugging number body = option_map_or (is_to number) (body_debug_said body) false

-- and disconnects it
abbrev pub is_body_disconnecting : (number : ℕ) → List ℕ → Bool
is_body_disconnecting number body = option_map_or (is_end_of number) (body_debug_said body) false

-- the debug session of a number is as it was: its launch, its place, its breakpoints and how many messages it has sent
abbrev pub HasDebugger : (number : ℕ) → (before now : State) → Type 0
HasDebugger number s t = session_of number t.debuggers ≡ session_of number s.debuggers

abbrev pub KeepsDebugger : (number : ℕ) → State → Step → Type 0
KeepsDebugger number s (Goes t bodies rest) = HasDebugger number s t
KeepsDebugger number s Stopped = Unit {0}
KeepsDebugger number s Other = Unit {0}

-- the debug session of a number has a launch of this trace
abbrev pub HasTrace : (number : ℕ) → List (Point TraceItem) → State → Type 0
HasTrace number trace s = trace_in number s.debuggers ≡ Some trace

-- where the session goes on, that has still
abbrev pub KeepsTrace : (number : ℕ) → List (Point TraceItem) → Step → Type 0
KeepsTrace number trace (Goes t bodies rest) = HasTrace number trace t
KeepsTrace number trace Stopped = Unit {0}
KeepsTrace number trace Other = Unit {0}

-- ---- lists

-- what was last published of the document of a number is its list, of its version and its text as they are, with the members
-- as they are
abbrev pub is_listed : State → PathId → OpenDocument → Bool
is_listed s n document = is_published (last_list s.published n) document.version (list_of s n document)

-- Lists are fresh: every open program is listed, unless it is queued.
abbrev pub AreFresh : State → Type 0
AreFresh s = (n : PathId) (document : OpenDocument) → document_at s.store n ≡ Some document → is_program (libraries s) document ≡ true
    → is_queued s.queue n ≡ false → is_listed s n document ≡ true

-- every open program is queued
abbrev pub AllQueued : State → Type 0
AllQueued s = (n : PathId) (document : OpenDocument) → document_at s.store n ≡ Some document → is_program (libraries s) document ≡ true
    → is_queued s.queue n ≡ true

-- where the session goes on and is not at its end, lists are fresh
abbrev pub LeavesFresh : Step → Type 0
LeavesFresh (Goes t bodies rest) = is_ended t.stage ≡ false → AreFresh t
LeavesFresh Stopped = Unit {0}
LeavesFresh Other = Unit {0}

-- where the session goes on, the documents, the files and what surrounds every program are as they were, or every open program
-- is queued
abbrev pub KeepsOrQueues : State → Step → Type 0
KeepsOrQueues s (Goes t bodies rest) = ((t.store ≡ s.store) × (around_of t ≡ around_of s)) ⊎ AllQueued t
KeepsOrQueues s Stopped = Unit {0}
KeepsOrQueues s Other = Unit {0}

-- ---- requests that wait

-- where no program is queued, no request waits
abbrev pub AreAnswered : State → Type 0
AreAnswered s = is_idle s.queue ≡ true → s.waiting ≡ []

-- no two requests that wait have one id
abbrev pub HaveTheirIds : State → Type 0
HaveTheirIds s = AreDistinct s.waiting

-- where the session goes on, that is so
abbrev pub LeavesSo : (State → Type 0) → Step → Type 0
LeavesSo IsSo (Goes t bodies rest) = IsSo t
LeavesSo IsSo Stopped = Unit {0}
LeavesSo IsSo Other = Unit {0}
