use Rattle.std.proofs.Common.{◌≡◌, ◌<◌, length, Some, None, subst}
use Rattle.document_store.specs.Shown.{IsShown}
use Rattle.session_core.specs.Figures.{figures_at}
use Rattle.session_core.specs.State.{State, document_at}
use Rattle.session_core.proofs.FigureLaws.{figures_other, figures_absent, figures_found}
use Rattle.session_core.proofs.TextLaws.{number_within}
use Rattle.session_core.proofs.session_state.SessionState.figures_at.Goals as goal

pub returns-then-not-is_assembled : goal.returns-then-not-is_assembled
returns-then-not-is_assembled g c =
    figures_other c.args.self.now c.args.path c.is_assembled.result c.is_assembled.ensures c.if-not-is_assembled.true

pub returns-in_default : goal.returns-in_default
returns-in_default g c =
    let fields = c.self.inside in
    let s : State = record { stage = fields.stage; root = fields.root; budget = fields.budget; configuration = fields.configuration; store = fields.store.store; queue = fields.queue.items; published = fields.published.items; debuggers = fields.debuggers; waiting = fields.waiting } in
    subst (λ (z : State). None ≡ figures_at z c.args.path) c.self.view_is (figures_absent s c.args.path c.in_default.ensures)

pub figures_shown-requires : goal.figures_shown-requires
figures_shown-requires g c = record {
  given = subst (λ (z : State). c.args.path.0 < length z.store.paths) c.self.view_is
      (number_within c.self.inside.store.store c.args.path c.in-Some.document c.in-Some.ensures);
  shown = subst (λ (z : State). IsShown z.store.paths (document_at z.store c.args.path) (Some c.in-Some.document)) c.self.view_is c.in-Some.ensures;
}

pub returns : goal.returns
returns g c =
    let shows = subst (λ (z : State). IsShown z.store.paths (document_at z.store c.args.path) (Some c.in-Some.document)) c.self.view_is c.in-Some.ensures in
    figures_found c.args.self.now c.args.path c.in-Some.document c.is_assembled.result c.in_ok-figures.figures
    c.is_assembled.ensures c.if-not-is_assembled.false shows c.in_ok-figures.ensures
