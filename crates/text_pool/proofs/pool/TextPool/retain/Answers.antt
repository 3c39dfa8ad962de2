use Rattle.std.proofs.Common.{◌+◌, refl, sym, ap, arith}
use Rattle.slab.proofs.SlabLemmas.{Updates-with_value}
use Rattle.text_pool.proofs.PoolLemmas.{live_contains, owners_of-entry, pool_of-recounted}
use Rattle.text_pool.proofs.IndexLemmas.{IsIndexed-recounted}
use Rattle.text_pool.proofs.pool.TextPool.retain.Goals as goal

pub index_mut-requires : goal.index_mut-requires
index_mut-requires c = live_contains _ _ _ c.self.view_is c.requires.live

pub overflow_add-index_mut : goal.overflow_add-index_mut
overflow_add-index_mut c =
    omega (arith, c.requires.room, owners_of-entry _ _ _ _ c.self.view_is c.index_mut.ensures.value)

pub invariant_of-self : goal.invariant_of-self
invariant_of-self c =
    IsIndexed-recounted _ _ _ _ _ _ c.self.invariant c.index_mut.ensures.value
    (Updates-with_value _ _ _ (live_contains _ _ _ c.self.view_is c.requires.live)) refl refl (omega arith)

pub returns : goal.returns
returns c =
    pool_of-recounted _ _ _ _ _ _ _ c.self.view_is c.index_mut.ensures.value
    (Updates-with_value _ _ _ (live_contains _ _ _ c.self.view_is c.requires.live)) refl
    (ap (λ n. n + 1) (sym (owners_of-entry _ _ _ _ c.self.view_is c.index_mut.ensures.value)))
