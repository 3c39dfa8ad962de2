use Rattle.std.proofs.Common.{ap, sym, ◌∙◌, sum}
use Rattle.literal_pools.specs.Views.{spelled}
use Rattle.literal_pools.proofs.Texts.{lengths_joined, length-spelled}
use Rattle.literal_pools.proofs.pool.Pool.size.Goals as goal

pub returns : goal.returns
returns c =
    let pool = c.args.self.now in
    pool.summed ∙ sym (ap sum (lengths_joined (spelled pool.texts.keys) pool.lengths.items (length-spelled pool.texts.keys ∙ pool.paired)))
