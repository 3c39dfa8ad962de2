use Rattle.std.proofs.Common.{IfOk, subst, ap, ◌∙◌}
use Rattle.std.specs.Prelude.{vec_items}
use Rattle.std.specs.Option.{option_map}
use Rattle.session_core.specs.Message.{settled}
use Rattle.session_core.specs.State.{State, libraries_of}
use Rattle.session_core.specs.Step.{IsEffect}
use Rattle.session_core.proofs.WatchingLaws.{whole_put}
use Rattle.session_core.proofs.session_state.SessionState.put_configuration.Goals as goal

pub invariant_of-self : goal.invariant_of-self
invariant_of-self c =
    whole_put _ _ _ _ _ _ _ c.forget_members.ensures.listed c.forget_members.ensures.index (ap (option_map vec_items) c.forget_members.ensures.names) c.requires.few c.documents_have_numbers.ensures
    (c.in_ok-folders.ensures ∙ ap (λ r. libraries_of r c.args.configuration) c.as_ref.ensures.value)

pub returns : goal.returns
returns c =
    subst (λ (z : State). IfOk c.settle.result (λ bodies. IsEffect (settled (record z { configuration = c.args.configuration; store = c.args.store.store })) c.settle.new.self bodies))
    c.self.view_is c.settle.ensures
