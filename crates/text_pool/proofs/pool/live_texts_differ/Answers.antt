use Rattle.std.proofs.Common.{◌<◌, ℕ, sym, ap, subst, ◌∙◌}
use Rattle.text_pool.specs.Pool.{text_of}
use Rattle.text_pool.proofs.PoolLemmas.{live_entry, text_of-entry, owners_of-entry}
use Rattle.text_pool.proofs.IndexLemmas.{same_bytes, same_stamp, same_number}
use Rattle.text_pool.proofs.pool.live_texts_differ.Goals as goal

pub returns-clause-differ : goal.returns-clause-differ
returns-clause-differ c = λ id other live other_live.
    let one = live_entry _ _ _ c.pool.view_is live in
    let two = live_entry _ _ _ c.pool.view_is other_live in (
      (λ same. same_number _ _ c.pool.invariant id other one.0 two.0 one.1 two.1
          (same_stamp one.0.key two.0.key (c.pool.invariant.marked id one.0 one.1) (c.pool.invariant.marked other two.0 two.1)
          (same_bytes _ _ (c.pool.invariant.utf8 id one.0 one.1) (c.pool.invariant.utf8 other two.0 two.1)
          (sym (text_of-entry _ _ _ _ c.pool.view_is one.1) ∙ same ∙ text_of-entry _ _ _ _ c.pool.view_is two.1)))),
      (λ same. ap (text_of c.args.pool.now) same),
    )

pub returns-clause-owned : goal.returns-clause-owned
returns-clause-owned c = λ id live.
    let one = live_entry _ _ _ c.pool.view_is live in
    subst (λ (n : ℕ). 0 < n) (sym (owners_of-entry _ _ _ _ c.pool.view_is one.1)) (c.pool.invariant.owned id one.0 one.1)
