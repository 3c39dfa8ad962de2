use Rattle.std.proofs.Common.{ap, ◌∙◌}
use Rattle.std.specs.Prelude.{vec_items}
use Rattle.std.specs.Option.{option_map}
use Rattle.document_store.specs.Holdings.{Holdings}
use Rattle.session_core.proofs.WatchingLaws.{whole_empty}
use Rattle.session_core.proofs.session_state.SessionState.take_store.Goals as goal

pub invariant_of-self : goal.invariant_of-self
invariant_of-self c =
    whole_empty _ _ _ _ _ _ _ c.forget_members.ensures.listed c.forget_members.ensures.index (ap (option_map vec_items) c.forget_members.ensures.names)
    (ap (λ (h : Holdings). h.store) c.replace.ensures.after ∙ c.new.ensures) c.self.invariant.folders_are
