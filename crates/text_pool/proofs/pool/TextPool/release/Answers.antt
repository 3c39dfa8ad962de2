use Rattle.std.proofs.Common.{◌-◌, ◌∙◌, refl, sym, ap, arith}
use Rattle.std.specs.FinMap as finite
use Rattle.slab.proofs.SlabLemmas.{Updates-with_value}
use Rattle.text_pool.proofs.PoolLemmas.{live_contains, owners_of-entry, pool_of-recounted, pool_of-removes}
use Rattle.text_pool.proofs.IndexLemmas.{IsIndexed-recounted, IsIndexed-removed}
use Rattle.text_pool.proofs.pool.TextPool.release.Goals as goal

pub index_mut-requires : goal.index_mut-requires
index_mut-requires c = live_contains _ _ _ c.self.view_is c.requires.live

pub invariant_of-self : goal.invariant_of-self
invariant_of-self c =
    let owners = owners_of-entry _ _ _ _ c.self.view_is c.index_mut.ensures.value in
    IsIndexed-recounted _ _ _ _ _ _ c.self.invariant c.index_mut.ensures.value
    (Updates-with_value _ _ _ (live_contains _ _ _ c.self.view_is c.requires.live)) refl refl
    (omega (arith, owners, c.owners.ensures, c.if-owners-gt1.true))

pub returns-then-owners-gt1-clause-others : goal.returns-then-owners-gt1-clause-others
returns-then-owners-gt1-clause-others c = λ _.
    pool_of-recounted _ _ _ _ _ _ _ c.self.view_is c.index_mut.ensures.value
    (Updates-with_value _ _ _ (live_contains _ _ _ c.self.view_is c.requires.live)) refl
    (ap (λ n. n - 1) (sym (owners_of-entry _ _ _ _ c.self.view_is c.index_mut.ensures.value)))

pub remove-entry-requires : goal.remove-entry-requires
remove-entry-requires c = live_contains _ _ _ c.self.view_is c.requires.live

pub invariant_of-self-2 : goal.invariant_of-self-2
invariant_of-self-2 c =
    IsIndexed-removed _ _ _ _ _ _ c.self.invariant c.remove-entry.ensures.value c.remove-entry.ensures.updates
    (λ text. c.remove.ensures.updates.0 text)

pub returns-clause-last : goal.returns-clause-last
returns-clause-last c = λ _.
    pool_of-removes _ _ _ c.remove-entry.ensures.updates ∙ ap (λ p. finite.remove p c.args.id.0) c.self.view_is
