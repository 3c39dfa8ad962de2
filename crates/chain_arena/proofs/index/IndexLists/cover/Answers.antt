use Rattle.std.proofs.Common.{◌∙◌, refl, ap, arith}
use Rattle.chain_arena.specs.Lists.{list_at}
use Rattle.chain_arena.specs.Index.{Lists}
use Rattle.chain_arena.proofs.IndexLemmas.{IsIndex-grown, SameLists-grown}
use Rattle.chain_arena.proofs.index.IndexLists.cover.Goals as goal

pub invariant_of-self : goal.invariant_of-self
invariant_of-self c =
    IsIndex-grown _ _ _ _ _ _ c.extend_heads.ensures.same (λ x. refl) (λ x. refl) (omega arith) c.self.invariant.enough c.self.invariant

pub returns-clause-same : goal.returns-clause-same
returns-clause-same c = λ n.
    SameLists-grown _ _ _ _ c.extend_heads.ensures.same (λ x. refl) n ∙ ap (λ (u : Lists). list_at u.lists n) c.self.view_is
