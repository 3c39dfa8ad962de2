use Rattle.std.proofs.Common.{◌≡◌, ap, ◌∙◌, ◌==◌, length, vec_len, arith}
use Rattle.literal_pools.specs.Shown.{literals_of}
use Rattle.literal_pools.specs.Views.{spelled}
use Rattle.literal_pools.proofs.Texts.{length_joined, length-spelled}
use Rattle.literal_pools.proofs.pool.Pool.is_empty.Goals as goal

pub returns : goal.returns
returns c =
    let pool = c.args.self.now in
    let joined = length_joined (spelled pool.texts.keys) pool.lengths.items (length-spelled pool.texts.keys ∙ pool.paired) in
    let counted : vec_len pool.lengths ≡ length (literals_of pool) = omega (arith, joined, pool.lengths.ok.0) in
    c.is_empty.ensures ∙ ap (λ n. n == 0) counted
