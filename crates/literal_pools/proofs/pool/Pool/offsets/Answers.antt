use Rattle.std.proofs.Common.{sym, ◌∙◌, subst, IfOk, List, ℕ}
use Rattle.literal_pools.specs.Pools.{AreOffsets}
use Rattle.literal_pools.specs.Views.{spelled}
use Rattle.literal_pools.proofs.Texts.{lengths_joined, length-spelled}
use Rattle.literal_pools.proofs.pool.Pool.offsets.Goals as goal

pub returns : goal.returns
returns c =
    let pool = c.args.self.now in
    let shown = lengths_joined (spelled pool.texts.keys) pool.lengths.items (length-spelled pool.texts.keys ∙ pool.paired) in
    let P : List ℕ → Type 0 = λ ns. IfOk c.offsets.result (λ offsets. AreOffsets ns offsets.items) in
    subst P (c.as_slice.ensures.value ∙ sym shown) c.offsets.ensures
