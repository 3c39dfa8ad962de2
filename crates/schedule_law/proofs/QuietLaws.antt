-- Before a session has begun no request waits.
use Rattle.std.proofs.Common.{◌≡◌, ℕ, true, false, List, [], Some, None, Result, Ok, refl, sym, ap, ◌∙◌, subst}
use Rattle.io_edge.specs.LibraryCall.{LibraryCall}
use Rattle.library_reading.specs.Asked.{Asked, Came, Lacks, Differs}
use Rattle.lsp_messages.specs.declared.incoming.LspIn.{LspIn}
use Rattle.lsp_messages.specs.declared.incoming.LspIn.TheVariants.{Initialize, Shutdown, Definition, References, Hover, DocumentSymbol, Initialized, Exit, DidOpen, DidChange, DidClose, DidSave, DidChangeConfiguration, DidChangeWatchedFiles, Cancel, Dap}
use Rattle.dap_messages.specs.Requests.{request_of}
use Rattle.dap_messages.specs.declared.requests.DapIn.{DapIn}
use Rattle.dap_messages.specs.declared.requests.DapRefusal.{DapRefusal}
use Rattle.document_store.specs.Changes.{opened, changed, closed}
use Rattle.waiting_requests.specs.Requests as requests
use Rattle.waiting_requests.specs.declared.request.Request.{Request}
use Rattle.session_core.specs.Debugging.{debugged}
use Rattle.session_core.specs.Message.{message, event, effect, after_change, after_closing}
use Rattle.session_core.specs.Refusals.{TooEarly, refusal, is_fresh}
use Rattle.session_core.specs.State.{State, start, number_named}
use Rattle.session_core.specs.Step.{Effect, step_of, Goes}
use Rattle.session_core.specs.Turn.{assemble_first, answer_waiting, turn}
use Rattle.session_core.proofs.AnswerLaws.{so_behind, first_none, where_none}
use Rattle.session_core.proofs.AsideLaws.{AreKept, kept_first, kept_change, kept_closing, kept_begun, kept_watched}
use Rattle.session_core.proofs.AskingLaws.{Whenever, HoldsOfEach, whenever_event}
use Rattle.session_core.proofs.FreshLaws.{not_both}
use Rattle.schedule_law.specs.Schedules.{GoesOn}

-- before the first request was answered none waits
abbrev pub IsQuiet : State → Type 0
IsQuiet s = is_fresh s.stage ≡ true → s.waiting ≡ []

pub quiet_start : (budget : ℕ) → IsQuiet (start budget)
quiet_start budget fresh = refl

-- ---- where stage and requests stay

quiet_kept : (s : State) (effect : Effect) → IsQuiet s → AreKept s effect → IsQuiet effect.state
quiet_kept s effect so kept fresh = kept.1.0 ∙ so (ap is_fresh (sym kept.1.1) ∙ fresh)

quiet_asked : (s : State) (asked : Asked Effect) → IsQuiet s → Whenever (AreKept s) asked → Whenever (λ effect. IsQuiet effect.state) asked
quiet_asked s (Came effect rest) so kept = quiet_kept s effect so kept
quiet_asked s Lacks so kept = tt
quiet_asked s Differs so kept = tt

quiet_behind : (s : State) → IsQuiet s → IsQuiet (answer_waiting s).state
quiet_behind s so = so_behind IsQuiet s so (λ fresh. refl)

-- ---- requests come later

quiet_later : (s : State) (waiting : List Request) → is_fresh s.stage ≡ false → IsQuiet (record s { waiting = waiting })
quiet_later s waiting begun fresh = absurd (not_both (is_fresh s.stage) fresh begun)

-- ---- events

quiet_debugged : (s : State) (number : ℕ) (read : Result DapIn DapRefusal) → IsQuiet s → IsQuiet (debugged s number read).state
unfolding debugged
quiet_debugged s number read so = so

quiet_effect : (s : State) (message : LspIn) (calls : List LibraryCall) → IsQuiet s → refusal s.stage s.store s.waiting (Some (Ok message)) ≡ None
    → Whenever (λ effect. IsQuiet effect.state) (effect s message calls)
quiet_effect s (Initialize id root) calls so none = λ fresh. cc
quiet_effect s (Shutdown id) calls so none = λ fresh. cc
quiet_effect s (Definition id uri at) calls so none = quiet_later s _ (where_none (is_fresh s.stage) (TooEarly id) (first_none _ _ none).0)
quiet_effect s (References id uri at declarations) calls so none = quiet_later s _ (where_none (is_fresh s.stage) (TooEarly id) (first_none _ _ none).0)
quiet_effect s (Hover id uri at) calls so none = quiet_later s _ (where_none (is_fresh s.stage) (TooEarly id) (first_none _ _ none).0)
quiet_effect s (DocumentSymbol id uri) calls so none = quiet_later s _ (where_none (is_fresh s.stage) (TooEarly id) (first_none _ _ none).0)
quiet_effect s Initialized calls so none = quiet_asked s (effect s Initialized calls) so (kept_begun s s.root calls)
quiet_effect s Exit calls so none = λ fresh. refl
quiet_effect s (DidOpen uri language version text) calls so none =
    quiet_kept s (after_change s (opened s.store uri language version text)) so (kept_change s (opened s.store uri language version text))
quiet_effect s (DidChange uri version edits) calls so none =
    quiet_kept s (after_change s (changed s.store uri version edits)) so (kept_change s (changed s.store uri version edits))
quiet_effect s (DidClose uri) calls so none =
    quiet_kept s (after_closing s (number_named s.store uri) (closed s.store uri)) so (kept_closing s (number_named s.store uri) (closed s.store uri))
quiet_effect s DidSave calls so none = so
quiet_effect s DidChangeConfiguration calls so none = so
quiet_effect s (DidChangeWatchedFiles changes) calls so none = quiet_asked s (effect s (DidChangeWatchedFiles changes) calls) so (kept_watched s changes calls)
quiet_effect s (Cancel id) calls so none = λ fresh. ap (λ (w : List Request). requests.without w id) (so fresh)
quiet_effect s (Dap session message) calls so none = quiet_debugged s session (request_of message) so

quiet_each : (s : State) → IsQuiet s → HoldsOfEach (λ effect. IsQuiet effect.state) s
quiet_each s so = record {
  nothing = so;
  refused = λ body. so;
  taken = λ message calls none. quiet_effect s message calls so none;
  behind = λ first still. quiet_behind first.state still;
}

quiet_step : (asked : Asked Effect) (next : State) (bodies : List (List ℕ)) (left : List LibraryCall) → Whenever (λ effect. IsQuiet effect.state) asked
    → step_of asked ≡ Goes next bodies left → IsQuiet next
quiet_step (Came effect rest) next bodies left so goes =
    let is : effect.state ≡ next = cc in
    subst IsQuiet is so
quiet_step Lacks next bodies left so goes = cc
quiet_step Differs next bodies left so goes = cc

pub quiet_message : (s : State) (body : List ℕ) (calls : List LibraryCall) (next : State) (left : List LibraryCall) → IsQuiet s → GoesOn (message s body calls) next left
    → IsQuiet next
quiet_message s body calls next left so goes =
    quiet_step (event s body calls) next goes.bodies left (whenever_event (λ effect. IsQuiet effect.state) s body calls (quiet_each s so)) goes.goes

pub quiet_turn : (s : State) → IsQuiet s → IsQuiet (turn s).state
quiet_turn s so = quiet_behind (assemble_first s).state (quiet_kept s (assemble_first s) so (kept_first s))
