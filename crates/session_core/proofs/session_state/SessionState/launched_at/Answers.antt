use Rattle.std.proofs.Common.{◌≡◌, ◌<◌, length, Some, None, sym, ◌∙◌, subst}
use Rattle.document_store.specs.Shown.{IsShown}
use Rattle.session_core.specs.Debugging.{launched_at}
use Rattle.session_core.specs.Inside.{TellsTrace}
use Rattle.session_core.specs.State.{State, document_at}
use Rattle.session_core.proofs.LaunchLaws.{shown_of, launched_none, launched_other, launched_made}
use Rattle.session_core.proofs.TextLaws.{number_within}
use Rattle.session_core.proofs.session_state.SessionState.launched_at.Goals as goal

pub returns-in_default : goal.returns-in_default
returns-in_default g c =
    let fields = c.self.inside in
    let s : State = record { stage = fields.stage; root = fields.root; budget = fields.budget; configuration = fields.configuration; store = fields.store.store; queue = fields.queue.items; published = fields.published.items; debuggers = fields.debuggers; waiting = fields.waiting } in
    subst (λ (z : State). None ≡ launched_at z c.args.path) c.self.view_is (launched_none s c.args.path c.in_default.ensures)

pub is_program_shown-requires : goal.is_program_shown-requires
is_program_shown-requires g c = record { shown = shown_of _ _ _ c.in-Some.ensures }

pub returns-then-not-is_program_shown : goal.returns-then-not-is_program_shown
returns-then-not-is_program_shown g c =
    let fields = c.self.inside in
    let s : State = record { stage = fields.stage; root = fields.root; budget = fields.budget; configuration = fields.configuration; store = fields.store.store; queue = fields.queue.items; published = fields.published.items; debuggers = fields.debuggers; waiting = fields.waiting } in
    subst (λ (z : State). None ≡ launched_at z c.args.path) c.self.view_is
    (launched_other s c.args.path c.in-Some.document c.deref.result.now c.is_program_shown.result (c.deref.ensures.value ∙ c.self.invariant.folders_are)
    c.in-Some.ensures c.is_program_shown.ensures c.if-not-is_program_shown.true)

pub trace_at-requires : goal.trace_at-requires
trace_at-requires g c = record {
  given = subst (λ (z : State). c.args.path.0 < length z.store.paths) c.self.view_is
      (number_within c.self.inside.store.store c.args.path c.in-Some.document c.in-Some.ensures);
  shown = subst (λ (z : State). IsShown z.store.paths (document_at z.store c.args.path) (Some c.in-Some.document)) c.self.view_is c.in-Some.ensures;
}

pub returns : goal.returns
returns g c =
    let fields = c.self.inside in
    let s : State = record { stage = fields.stage; root = fields.root; budget = fields.budget; configuration = fields.configuration; store = fields.store.store; queue = fields.queue.items; published = fields.published.items; debuggers = fields.debuggers; waiting = fields.waiting } in
    subst (λ (z : State). Some c.in_ok-trace.trace ≡ launched_at z c.args.path) c.self.view_is
    (launched_made s c.args.path c.in-Some.document c.deref.result.now c.is_program_shown.result c.in_ok-trace.trace
    (c.deref.ensures.value ∙ c.self.invariant.folders_are) c.in-Some.ensures c.is_program_shown.ensures c.if-not-is_program_shown.false
    (subst (λ (z : State). TellsTrace z c.args.path c.in-Some.document c.in_ok-trace.trace) (sym c.self.view_is) c.in_ok-trace.ensures))
