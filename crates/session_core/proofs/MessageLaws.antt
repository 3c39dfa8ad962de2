-- What a message that is refused leaves, and what stands behind the end.
use Rattle.std.proofs.Common.{◌≡◌, ℕ, ◌≤◌, Bool, true, false, not, ◌||◌, cond, List, [], ◌∷◌, ◌++◌, length, Option, Some, None, Result, Ok, Err, refl, sym, ap, ◌∙◌, subst, arith, codes}
use Rattle.std.proofs.lemmas.List.{append-nil}
use Rattle.std.specs.Prelude.{is_err}
use Rattle.serde_json.specs.Data.{Data}
use Rattle.json_view.specs.Texts.{reading}
use Rattle.io_edge.specs.LibraryCall.{LibraryCall}
use Rattle.library_reading.specs.Asked.{Asked, Came, Lacks, Differs, Asking, answered, behind}
use Rattle.lsp_messages.specs.declared.incoming.Id.{Id}
use Rattle.lsp_messages.specs.declared.incoming.LspIn.{LspIn}
use Rattle.lsp_messages.specs.declared.incoming.LspIn.TheVariants.{Initialize, Shutdown, Definition, References, Hover, DocumentSymbol, Initialized, Exit, DidOpen, DidChange, DidClose, DidSave, DidChangeConfiguration, DidChangeWatchedFiles, Cancel, Dap}
use Rattle.lsp_messages.specs.declared.incoming.Refusal.{Refusal}
use Rattle.lsp_messages.specs.Messages.{is_response, message_of}
use Rattle.document_store.specs.Store.{Store}
use Rattle.document_store.specs.Changes.{opened, changed, closed}
use Rattle.document_store.specs.declared.fault.StoreFault.{StoreFault}
use Rattle.session_core.specs.declared.connection.Connection.TheVariants as connections
use Rattle.session_core.specs.declared.state.Stage.{Stage}
use Rattle.session_core.specs.declared.state.Stage.TheVariants.{Fresh, Active, Closing, Ended}
use Rattle.session_core.specs.SessionView.{connection_of}
use Rattle.session_core.specs.Laws.{is_refused, is_refused_value, is_refused_body, Keeps, AreAnswered}
use Rattle.session_core.specs.Message.{message, event, served, received, asked, effect_of, concluded, is_passed_over, unless_refused}
use Rattle.session_core.specs.Refusals.{Refused, OutOfPlace, TooEarly, where_so, first_of, refusal, log_fault, is_fresh, is_active, is_closed, is_ended}
use Rattle.session_core.specs.State.{State}
use Rattle.session_core.specs.Step.{Effect, quiet, Goes, step_of}
use Rattle.session_core.specs.Turn.{answer_waiting}
use Rattle.session_core.proofs.AnswerLaws.{nothing_waits}
use Rattle.waiting_requests.specs.Requests.{waits}

-- the state is left, one body may be written, and the library is asked nothing
abbrev LeavesState : Asking Effect → State → Type 0
LeavesState event s = (calls : List LibraryCall) → Keeps (step_of (event calls)) s calls

keeps_quiet : (s : State) → LeavesState (answered (quiet s)) s
keeps_quiet s calls = (refl, omega arith, refl)

-- what keeps the state in either case keeps it
keeps_cond : (s : State) (b : Bool) (event other : Asking Effect) → LeavesState event s → LeavesState other s → LeavesState (cond b event other) s
keeps_cond s true event other keeps also = keeps
keeps_cond s false event other keeps also = also

-- what is refused keeps it
keeps_refused : (s : State) (why : Option Refused) (event : Asking Effect) → (why ≡ None → LeavesState event s) → LeavesState (unless_refused s why event) s
keeps_refused s None event keeps = keeps refl
keeps_refused s (Some why) event keeps = λ calls. (refl, omega arith, refl)

-- there is a reason
refused_early : (stage : Stage) (known : Bool) (id : Id) (others : List (Option Refused)) → (not (is_fresh stage) || known) ≡ true
    → first_of (where_so (not (is_fresh stage)) (OutOfPlace id) ∷ where_so known (OutOfPlace id) ∷ others) ≡ None → ⊥
refused_early Fresh true id others refused none = cc
refused_early Fresh false id others refused none = cc
refused_early Active known id others refused none = cc
refused_early Closing known id others refused none = cc
refused_early (Ended c) known id others refused none = cc

refused_late : (stage : Stage) (known : Bool) (id : Id) (others : List (Option Refused)) → (not (is_active stage) || known) ≡ true
    → first_of (where_so (is_fresh stage) (TooEarly id) ∷ where_so (is_closed stage) (OutOfPlace id) ∷ where_so known (OutOfPlace id) ∷ others) ≡ None → ⊥
refused_late Fresh known id others refused none = cc
refused_late Active true id others refused none = cc
refused_late Active false id others refused none = cc
refused_late Closing known id others refused none = cc
refused_late (Ended c) known id others refused none = cc

refused_by_fault : (method : List ℕ) (asked : Result Store StoreFault) → is_err asked ≡ true → first_of (log_fault method asked ∷ []) ≡ None → ⊥
refused_by_fault method (Ok store) refused none = cc
refused_by_fault method (Err fault) refused none = cc

-- a message that is refused has a reason, or what was read in its place does nothing
refused_keeps : (s : State) (told : Result LspIn Refusal) → is_refused s told ≡ true → refusal s.stage s.store s.waiting (Some told) ≡ None → LeavesState (effect_of s told) s
refused_keeps s (Err refusal) refused none = keeps_quiet s
refused_keeps s (Ok (Initialize id root)) refused none = absurd (refused_early s.stage (waits s.waiting id) id _ refused none)
refused_keeps s (Ok (Shutdown id)) refused none = absurd (refused_late s.stage (waits s.waiting id) id _ refused none)
refused_keeps s (Ok (DidOpen uri language version text)) refused none = absurd (refused_by_fault (codes "textDocument/didOpen") (opened s.store uri language version text) refused none)
refused_keeps s (Ok (DidChange uri version edits)) refused none = absurd (refused_by_fault (codes "textDocument/didChange") (changed s.store uri version edits) refused none)
refused_keeps s (Ok (DidClose uri)) refused none = absurd (refused_by_fault (codes "textDocument/didClose") (closed s.store uri) refused none)
refused_keeps s (Ok Initialized) refused none = cc
refused_keeps s (Ok (Definition id uri at)) refused none = absurd (refused_late s.stage (waits s.waiting id) id _ refused none)
refused_keeps s (Ok (References id uri at declarations)) refused none = absurd (refused_late s.stage (waits s.waiting id) id _ refused none)
refused_keeps s (Ok (Hover id uri at)) refused none = absurd (refused_late s.stage (waits s.waiting id) id _ refused none)
refused_keeps s (Ok (DocumentSymbol id uri)) refused none = absurd (refused_late s.stage (waits s.waiting id) id _ refused none)
refused_keeps s (Ok Exit) refused none = cc
refused_keeps s (Ok DidSave) refused none = cc
refused_keeps s (Ok DidChangeConfiguration) refused none = cc
refused_keeps s (Ok (DidChangeWatchedFiles changes)) refused none = cc
refused_keeps s (Ok (Cancel id)) refused none = cc
refused_keeps s (Ok (Dap session message)) refused none = cc

asked_kept : (s : State) (told : Result LspIn Refusal) → is_refused s told ≡ true → LeavesState (asked s told) s
asked_kept s told refused =
    keeps_cond s (is_passed_over s.stage told) _ _ (keeps_quiet s)
    (keeps_refused s (refusal s.stage s.store s.waiting (Some told)) (effect_of s told) (refused_keeps s told refused))

received_kept : (s : State) (value : Option Data) → is_refused_value s value ≡ true → LeavesState (received s value) s
received_kept s None refused = λ calls. (refl, omega arith, refl)
received_kept s (Some value) refused = keeps_cond s (is_response value) _ _ (keeps_quiet s) (asked_kept s (message_of value) refused)

-- answers keep it where none waits
keeps_behind : (s : State) (asked : Asked Effect) (calls : List LibraryCall) → AreAnswered s → Keeps (step_of asked) s calls
    → Keeps (step_of (behind asked (λ first. answered (concluded first)))) s calls
keeps_behind s (Came first rest) calls are (same, few, left) =
    let quiet_is : answer_waiting first.state ≡ quiet first.state = nothing_waits first.state (subst AreAnswered (sym same) are) in
    let bodies : first.bodies ++ (answer_waiting first.state).bodies ≡ first.bodies = ap (λ (z : Effect). first.bodies ++ z.bodies) quiet_is ∙ append-nil first.bodies in
    (ap (λ (z : Effect). z.state) quiet_is ∙ same, subst (λ z. length z ≤ 1) (sym bodies) few, left)
keeps_behind s Lacks calls are keeps = keeps
keeps_behind s Differs calls are keeps = keeps

event_kept : (s : State) (body : List ℕ) → AreAnswered s → is_refused_body s body ≡ true → LeavesState (event s body) s
unfolding event
event_kept s body are refused =
    keeps_cond s (is_ended s.stage) _ _ (keeps_quiet s)
    (λ calls. keeps_behind s (received s (reading body) calls) calls are (received_kept s (reading body) refused calls))

pub message_kept : (s : State) (body : List ℕ) (calls : List LibraryCall) → AreAnswered s → is_refused_body s body ≡ true → Keeps (message s body calls) s calls
message_kept s body calls are refused = event_kept s body are refused calls

event_ended : (s : State) (closed : Bool) (body : List ℕ) → connection_of s ≡ connections.Exit closed → event s body ≡ answered (quiet s)
unfolding event
event_ended s closed body ends = by_stage s.stage refl where
  by_stage : (stage : Stage) → s.stage ≡ stage → cond (is_ended stage) (answered (quiet s)) (served s (reading body)) ≡ answered (quiet s)
  by_stage Fresh e = let h = rw e at ends in cc
  by_stage Active e = let h = rw e at ends in cc
  by_stage Closing e = let h = rw e at ends in cc
  by_stage (Ended c) e = refl

pub message_ended : (s : State) (closed : Bool) (body : List ℕ) (calls : List LibraryCall) → connection_of s ≡ connections.Exit closed → message s body calls ≡ Goes s [] calls
message_ended s closed body calls ends = ap (λ (z : Asking Effect). step_of (z calls)) (event_ended s closed body ends)
