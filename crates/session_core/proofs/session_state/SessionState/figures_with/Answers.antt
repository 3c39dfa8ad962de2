use Rattle.std.proofs.Common.{◌<◌, length, Some, sym, ap, ◌∙◌, subst}
use Rattle.document_store.specs.Shown.{IsShown}
use Rattle.group_members.specs.Members.{Indexes}
use Rattle.session_core.specs.Figures.{figures_over, TellsFigures}
use Rattle.session_core.specs.State.{State, document_at}
use Rattle.session_core.proofs.ListLaws.{if_ok}
use Rattle.session_core.proofs.session_state.SessionState.figures_with.Goals as goal

pub figures_of-requires : goal.figures_of-requires
figures_of-requires g c = record {
  given = subst (λ (z : State). c.args.path.0 < length z.store.paths) (sym c.self.view_is) c.requires.given;
  index = subst (λ (z : State). Indexes z.store c.args.index.now) (sym c.self.view_is) c.requires.index;
  shown = subst (λ (z : State). IsShown z.store.paths (document_at z.store c.args.path) (Some c.args.document.now)) (sym c.self.view_is) c.requires.shown;
}

pub returns : goal.returns
returns g c =
    let fields = c.self.inside in
    let n = c.args.path in
    if_ok c.figures_of.result (λ figures made.
    subst (λ (z : State). TellsFigures z n c.args.document.now figures) c.self.view_is
    (λ document found shows.
    made document found shows ∙ ap (λ r. figures_over r fields.configuration fields.store.store fields.budget n document) c.as_ref.ensures.value))
    c.figures_of.ensures
