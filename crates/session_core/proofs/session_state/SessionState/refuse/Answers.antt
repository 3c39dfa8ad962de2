use Rattle.std.proofs.Common.{◌∙◌, Err, sym, subst}
use Rattle.session_core.specs.Message.{asked}
use Rattle.session_core.specs.Step.{Acts}
use Rattle.session_core.proofs.ListLaws.{if_ok}
use Rattle.session_core.proofs.session_state.SessionState.refuse.Goals as goal

pub returns-in-UnknownMethod : goal.returns-in-UnknownMethod
returns-in-UnknownMethod c =
    if_ok c.unknown_method.result (λ bodies step. (
      λ same. let both = sym c.in-UnknownMethod.is ∙ same in cc,
      subst (λ z. Acts (asked c.args.self.now (Err z)) c.unknown_method.new.self bodies) (sym c.in-UnknownMethod.is) step,
    )) c.unknown_method.ensures

pub returns-in-BadParams : goal.returns-in-BadParams
returns-in-BadParams c =
    if_ok c.bad_params.result (λ bodies step. (
      λ same. let both = sym c.in-BadParams.is ∙ same in cc,
      subst (λ z. Acts (asked c.args.self.now (Err z)) c.bad_params.new.self bodies) (sym c.in-BadParams.is) step,
    )) c.bad_params.ensures
