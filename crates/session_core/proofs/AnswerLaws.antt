-- What answering the requests that wait leaves, and which requests wait.
use Rattle.std.proofs.Common.{◌≡◌, ℕ, Bool, true, false, cond, ◌||◌, List, [], ◌∷◌, ◌++◌, Option, Some, None, Result, Ok, Err, refl, sym, ap, ◌∙◌, subst}
use Rattle.serde_json.specs.Data.{Data}
use Rattle.json_view.specs.Texts.{reading}
use Rattle.io_edge.specs.LibraryCall.{LibraryCall}
use Rattle.library_reading.specs.Asked.{Asked, Came, Lacks, Differs, Asking, answered}
use Rattle.lsp_messages.specs.declared.incoming.Id.{Id}
use Rattle.lsp_messages.specs.declared.incoming.LspIn.{LspIn}
use Rattle.lsp_messages.specs.declared.incoming.LspIn.TheVariants.{Initialize, Shutdown, Definition, References, Hover, DocumentSymbol, Initialized, Exit, DidOpen, DidChange, DidClose, DidSave, DidChangeConfiguration, DidChangeWatchedFiles, Cancel, Dap}
use Rattle.lsp_messages.specs.declared.incoming.Refusal.{Refusal}
use Rattle.lsp_messages.specs.Messages.{is_response, message_of}
use Rattle.dap_messages.specs.Requests.{request_of}
use Rattle.dap_messages.specs.declared.requests.DapIn.{DapIn}
use Rattle.dap_messages.specs.declared.requests.DapRefusal.{DapRefusal}
use Rattle.document_store.specs.Changes.{opened, changed, closed}
use Rattle.waiting_requests.specs.Bodies.{replies_to}
use Rattle.waiting_requests.specs.Requests.{waits, AreDistinct}
use Rattle.waiting_requests.specs.declared.request.Question.{Question}
use Rattle.waiting_requests.specs.declared.request.Question.TheVariants as asks
use Rattle.waiting_requests.specs.declared.request.Request.{Request}
use Rattle.waiting_requests.proofs.WaitLaws.{distinct_added, distinct_cancelled}
use Rattle.session_core.specs.Debugging.{debugged}
use Rattle.session_core.specs.Laws.{AreAnswered, HaveTheirIds, LeavesSo}
use Rattle.session_core.specs.Message.{message, event, served, received, asked, effect, effect_of, concluded, is_passed_over, unless_refused, asks_later, after_change, after_closing}
use Rattle.session_core.specs.Names.{program_names}
use Rattle.session_core.specs.Refusals.{Refused, OutOfPlace, TooEarly, where_so, first_of, refusal, is_fresh, is_closed, is_ended}
use Rattle.session_core.specs.State.{State, start, is_idle, number_named}
use Rattle.session_core.specs.Step.{Effect, quiet, says, and_then, IsEffect, Step, Goes, step_of}
use Rattle.session_core.specs.Turn.{answer_waiting, answer_all, assemble_first, assemble_all, turn}
use Rattle.session_core.proofs.AskingLaws.{Whenever, whenever_any, whenever_behind, whenever_cond, whenever_event}
use Rattle.session_core.proofs.AsideLaws.{AreKept, kept_first, kept_all, kept_change, kept_closing, kept_begun, kept_watched}

-- ---- one step

-- what is so of a state, and of it where no request waits, is so behind answers
pub so_behind : (Holds : State → Type 0) (s : State) → Holds s → Holds (record s { waiting = [] }) → Holds (answer_waiting s).state
unfolding answer_waiting
so_behind Holds s so also = by_idle (is_idle s.queue) where
  by_idle : (b : Bool) → Holds (cond b (answer_all s) (quiet s)).state
  by_idle true = also
  by_idle false = so

-- where a program is queued, nothing is answered
pub answers_later : (s : State) → is_idle s.queue ≡ false → answer_waiting s ≡ quiet s
unfolding answer_waiting
answers_later s busy = ap (λ b. cond b (answer_all s) (quiet s)) busy

-- where none is, all are
pub answers_now : (s : State) → is_idle s.queue ≡ true → answer_waiting s ≡ answer_all s
unfolding answer_waiting
answers_now s idle = ap (λ b. cond b (answer_all s) (quiet s)) idle

-- where none waits, nothing is answered
pub answers_nothing : (s : State) → s.waiting ≡ [] → answer_waiting s ≡ quiet s
unfolding answer_waiting
answers_nothing s none = by_idle (is_idle s.queue) where
  by_idle : (b : Bool) → cond b (answer_all s) (quiet s) ≡ quiet s
  by_idle true =
      ap (λ w. record { state = record s { waiting = [] }; bodies = replies_to s.store (program_names s) w }) none
      ∙ ap (λ w. record { state = record s { waiting = w }; bodies = [] }) (sym none)
  by_idle false = refl

pub nothing_waits : (s : State) → AreAnswered s → answer_waiting s ≡ quiet s
nothing_waits s are = by_idle (is_idle s.queue) refl where
  by_idle : (b : Bool) → is_idle s.queue ≡ b → answer_waiting s ≡ quiet s
  by_idle true e = answers_nothing s (are e)
  by_idle false e = answers_later s e

-- ---- requests wait for programs

all_answered : (s : State) → AreAnswered (answer_waiting s).state
unfolding answer_waiting
all_answered s = by_idle (is_idle s.queue) refl where
  by_idle : (b : Bool) → is_idle s.queue ≡ b → AreAnswered (cond b (answer_all s) (quiet s)).state
  by_idle true e = λ idle. refl
  by_idle false e = λ idle. let both : true ≡ false = sym idle ∙ e in cc

pub answered_start : (budget : ℕ) → AreAnswered (start budget)
answered_start budget idle = refl

pub answered_turn : (s : State) → AreAnswered (turn s).state
answered_turn s = all_answered (assemble_first s).state

leaves_so : (IsSo : State → Type 0) (asked : Asked Effect) → Whenever (λ effect. IsSo effect.state) asked → LeavesSo IsSo (step_of asked)
leaves_so IsSo (Came effect rest) so = so
leaves_so IsSo Lacks so = tt
leaves_so IsSo Differs so = tt

answered_event : (s : State) (body : List ℕ) (calls : List LibraryCall) → AreAnswered s → Whenever (λ effect. AreAnswered effect.state) (event s body calls)
unfolding event
answered_event s body calls are =
    whenever_cond (λ effect. AreAnswered effect.state) (is_ended s.stage) (answered (quiet s)) (served s (reading body)) calls are
    (whenever_behind (λ _. Unit {0}) (λ effect. AreAnswered effect.state) (received s (reading body) calls) (λ first. answered (concluded first))
    (whenever_any (received s (reading body) calls)) (λ first rest _. all_answered first.state))

pub answered_message : (s : State) (body : List ℕ) (calls : List LibraryCall) → AreAnswered s → LeavesSo AreAnswered (message s body calls)
answered_message s body calls are = leaves_so AreAnswered (event s body calls) (answered_event s body calls are)

-- ---- requests have their ids

-- what was not refused has none of these reasons
pub first_none : (one : Option Refused) (others : List (Option Refused)) → first_of (one ∷ others) ≡ None → (one ≡ None) × (first_of others ≡ None)
first_none None others none = (refl, none)
first_none (Some why) others none = cc

pub where_none : (b : Bool) (why : Refused) → where_so b why ≡ None → b ≡ false
where_none true why none = cc
where_none false why none = refl

-- a request that was not refused has an id of its own
id_is_new : (early late known : Bool) (why other more : Refused) (others : List (Option Refused))
    → first_of (where_so early why ∷ where_so late other ∷ where_so known more ∷ others) ≡ None → known ≡ false
id_is_new early late known why other more others none =
    let one = first_none (where_so early why) (where_so late other ∷ where_so known more ∷ others) none in
    let two = first_none (where_so late other) (where_so known more ∷ others) one.1 in
    let three = first_none (where_so known more) others two.1 in
    where_none known more three.0

-- so with it no two have one id
with_its_id : (s : State) (id : Id) (uri : List ℕ) (question : Question) → HaveTheirIds s → waits s.waiting id ≡ false → HaveTheirIds (asks_later s id uri question).state
with_its_id s id uri question have new = distinct_added s.waiting (record { id = id; uri = uri; question = question }) have new

-- requests are as they were
same_ids : (s : State) (effect : Effect) → HaveTheirIds s → AreKept s effect → HaveTheirIds effect.state
same_ids s effect have kept = subst AreDistinct (sym kept.1.0) have

ids_asked : (s : State) (asked : Asked Effect) → HaveTheirIds s → Whenever (AreKept s) asked → Whenever (λ effect. HaveTheirIds effect.state) asked
ids_asked s (Came effect rest) have kept = same_ids s effect have kept
ids_asked s Lacks have kept = tt
ids_asked s Differs have kept = tt

ids_behind : (s : State) → HaveTheirIds s → HaveTheirIds (answer_waiting s).state
ids_behind s have = so_behind HaveTheirIds s have tt

ids_debugged : (s : State) (number : ℕ) (read : Result DapIn DapRefusal) → HaveTheirIds s → HaveTheirIds (debugged s number read).state
unfolding debugged
ids_debugged s number read have = have

ids_effect : (s : State) (message : LspIn) (calls : List LibraryCall) → HaveTheirIds s → refusal s.stage s.store s.waiting (Some (Ok message)) ≡ None
    → Whenever (λ effect. HaveTheirIds effect.state) (effect s message calls)
ids_effect s (Initialize id root) calls have none = have
ids_effect s (Shutdown id) calls have none = ids_behind (assemble_all s).state (same_ids s (assemble_all s) have (kept_all s))
ids_effect s (Definition id uri at) calls have none =
    with_its_id s id uri (asks.Definition at) have (id_is_new (is_fresh s.stage) (is_closed s.stage) (waits s.waiting id) (TooEarly id) (OutOfPlace id) (OutOfPlace id) _ none)
ids_effect s (References id uri at declarations) calls have none =
    with_its_id s id uri (asks.References at declarations) have (id_is_new (is_fresh s.stage) (is_closed s.stage) (waits s.waiting id) (TooEarly id) (OutOfPlace id) (OutOfPlace id) _ none)
ids_effect s (Hover id uri at) calls have none =
    with_its_id s id uri (asks.Hover at) have (id_is_new (is_fresh s.stage) (is_closed s.stage) (waits s.waiting id) (TooEarly id) (OutOfPlace id) (OutOfPlace id) _ none)
ids_effect s (DocumentSymbol id uri) calls have none =
    with_its_id s id uri asks.Symbols have (id_is_new (is_fresh s.stage) (is_closed s.stage) (waits s.waiting id) (TooEarly id) (OutOfPlace id) (OutOfPlace id) _ none)
ids_effect s Initialized calls have none = ids_asked s (effect s Initialized calls) have (kept_begun s s.root calls)
ids_effect s Exit calls have none = tt
ids_effect s (DidOpen uri language version text) calls have none = same_ids s (after_change s (opened s.store uri language version text)) have (kept_change s (opened s.store uri language version text))
ids_effect s (DidChange uri version edits) calls have none = same_ids s (after_change s (changed s.store uri version edits)) have (kept_change s (changed s.store uri version edits))
ids_effect s (DidClose uri) calls have none = same_ids s (after_closing s (number_named s.store uri) (closed s.store uri)) have (kept_closing s (number_named s.store uri) (closed s.store uri))
ids_effect s DidSave calls have none = have
ids_effect s DidChangeConfiguration calls have none = have
ids_effect s (DidChangeWatchedFiles changes) calls have none = ids_asked s (effect s (DidChangeWatchedFiles changes) calls) have (kept_watched s changes calls)
ids_effect s (Cancel id) calls have none = distinct_cancelled s.waiting id have
ids_effect s (Dap session message) calls have none = ids_debugged s session (request_of message) have

ids_event : (s : State) (body : List ℕ) (calls : List LibraryCall) → HaveTheirIds s → Whenever (λ effect. HaveTheirIds effect.state) (event s body calls)
ids_event s body calls have = whenever_event (λ effect. HaveTheirIds effect.state) s body calls (record {
  nothing = have;
  refused = λ line. have;
  taken = λ told more none. ids_effect s told more have none;
  behind = λ first still. ids_behind first.state still;
})

pub ids_message : (s : State) (body : List ℕ) (calls : List LibraryCall) → HaveTheirIds s → LeavesSo HaveTheirIds (message s body calls)
ids_message s body calls have = leaves_so HaveTheirIds (event s body calls) (ids_event s body calls have)

pub ids_start : (budget : ℕ) → HaveTheirIds (start budget)
ids_start budget = tt

pub ids_turn : (s : State) → HaveTheirIds s → HaveTheirIds (turn s).state
ids_turn s have = ids_behind (assemble_first s).state (same_ids s (assemble_first s) have (kept_first s))
