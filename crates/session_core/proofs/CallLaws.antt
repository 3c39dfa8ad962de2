-- Which messages ask the library nothing.
use Rattle.std.proofs.Common.{◌≡◌, ℕ, Bool, true, false, cond, List, [], ◌∷◌, Option, Some, None, Result, Ok, Err, refl}
use Rattle.serde_json.specs.Data.{Data}
use Rattle.json_view.specs.Texts.{reading}
use Rattle.io_edge.specs.LibraryCall.{LibraryCall}
use Rattle.library_reading.specs.Asked.{Asked, Came, Lacks, Differs, Asking, answered, behind}
use Rattle.lsp_messages.specs.declared.incoming.LspIn.{LspIn}
use Rattle.lsp_messages.specs.declared.incoming.LspIn.TheVariants.{Initialize, Shutdown, Definition, References, Hover, DocumentSymbol, Initialized, Exit, DidOpen, DidChange, DidClose, DidSave, DidChangeConfiguration, DidChangeWatchedFiles, Cancel, Dap}
use Rattle.lsp_messages.specs.declared.incoming.Refusal.{Refusal}
use Rattle.lsp_messages.specs.Messages.{is_response, message_of}
use Rattle.session_core.specs.Laws.{is_on_files, is_value_on_files, is_body_on_files, LeavesCalls}
use Rattle.session_core.specs.Message.{message, event, served, received, asked, effect_of, concluded, is_passed_over, unless_refused}
use Rattle.session_core.specs.Refusals.{Refused, refusal, is_ended}
use Rattle.session_core.specs.State.{State}
use Rattle.session_core.specs.Step.{Effect, quiet, step_of}

-- the library is asked nothing
abbrev LeavesAll : Asking Effect → Type 0
LeavesAll event = (calls : List LibraryCall) → LeavesCalls (step_of (event calls)) calls

leaves_cond : (b : Bool) (one other : Asking Effect) → LeavesAll one → LeavesAll other → LeavesAll (cond b one other)
leaves_cond true one other leaves also = leaves
leaves_cond false one other leaves also = also

leaves_unless : (s : State) (why : Option Refused) (event : Asking Effect) → LeavesAll event → LeavesAll (unless_refused s why event)
leaves_unless s None event leaves = leaves
leaves_unless s (Some why) event leaves = λ calls. refl

leaves_told : (s : State) (told : Result LspIn Refusal) → is_on_files told ≡ false → LeavesAll (effect_of s told)
leaves_told s (Err refusal) other = λ calls. refl
leaves_told s (Ok (Initialize id root)) other = λ calls. refl
leaves_told s (Ok (Shutdown id)) other = λ calls. refl
leaves_told s (Ok (Definition id uri at)) other = λ calls. refl
leaves_told s (Ok (References id uri at declarations)) other = λ calls. refl
leaves_told s (Ok (Hover id uri at)) other = λ calls. refl
leaves_told s (Ok (DocumentSymbol id uri)) other = λ calls. refl
leaves_told s (Ok Initialized) other = cc
leaves_told s (Ok Exit) other = λ calls. refl
leaves_told s (Ok (DidOpen uri language version text)) other = λ calls. refl
leaves_told s (Ok (DidChange uri version edits)) other = λ calls. refl
leaves_told s (Ok (DidClose uri)) other = λ calls. refl
leaves_told s (Ok DidSave) other = λ calls. refl
leaves_told s (Ok DidChangeConfiguration) other = λ calls. refl
leaves_told s (Ok (DidChangeWatchedFiles changes)) other = cc
leaves_told s (Ok (Cancel id)) other = λ calls. refl
leaves_told s (Ok (Dap session message)) other = λ calls. refl

leaves_asked : (s : State) (told : Result LspIn Refusal) → is_on_files told ≡ false → LeavesAll (asked s told)
leaves_asked s told other =
    leaves_cond (is_passed_over s.stage told) (answered (quiet s)) _ (λ calls. refl)
    (leaves_unless s (refusal s.stage s.store s.waiting (Some told)) (effect_of s told) (leaves_told s told other))

leaves_received : (s : State) (value : Option Data) → is_value_on_files value ≡ false → LeavesAll (received s value)
leaves_received s None other = λ calls. refl
leaves_received s (Some value) other = leaves_cond (is_response value) (answered (quiet s)) (asked s (message_of value)) (λ calls. refl) (leaves_asked s (message_of value) other)

-- answers ask it nothing
leaves_behind : (first : Asked Effect) (calls : List LibraryCall) → LeavesCalls (step_of first) calls → LeavesCalls (step_of (behind first (λ z. answered (concluded z)))) calls
leaves_behind (Came effect rest) calls leaves = leaves
leaves_behind Lacks calls leaves = leaves
leaves_behind Differs calls leaves = leaves

leaves_event : (s : State) (body : List ℕ) → is_body_on_files body ≡ false → LeavesAll (event s body)
unfolding event
leaves_event s body other =
    leaves_cond (is_ended s.stage) (answered (quiet s)) (served s (reading body)) (λ calls. refl)
    (λ calls. leaves_behind (received s (reading body) calls) calls (leaves_received s (reading body) other calls))

pub message_leaves : (s : State) (body : List ℕ) (calls : List LibraryCall) → is_body_on_files body ≡ false → LeavesCalls (message s body calls) calls
message_leaves s body calls other = leaves_event s body other calls
