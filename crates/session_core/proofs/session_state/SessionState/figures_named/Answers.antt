use Rattle.std.proofs.Common.{◌≡◌, Some, None, sym, ◌∙◌, subst}
use Rattle.std.specs.Str.{chars}
use Rattle.session_core.specs.State.{State, number_named}
use Rattle.session_core.proofs.ListLaws.{if_ok}
use Rattle.session_core.proofs.FigureLaws.{named_found, named_absent}
use Rattle.session_core.proofs.session_state.SessionState.figures_named.Goals as goal

pub returns-in-Some : goal.returns-in-Some
returns-in-Some g c =
    let uri = chars c.args.uri.now in
    if_ok c.figures_at.result (λ figures is.
    named_found c.args.self.now uri c.in-Some.path figures
    (subst (λ (z : State). Some c.in-Some.path ≡ number_named z.store uri) c.self.view_is (sym c.in-Some.is ∙ c.in_ok-number.ensures)) is)
    c.figures_at.ensures

pub returns-in-None : goal.returns-in-None
returns-in-None g c =
    let uri = chars c.args.uri.now in
    named_absent c.args.self.now uri (subst (λ (z : State). None ≡ number_named z.store uri) c.self.view_is (sym c.in-None.is ∙ c.in_ok-number.ensures))
