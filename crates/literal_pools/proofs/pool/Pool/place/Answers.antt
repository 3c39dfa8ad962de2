use Rattle.std.proofs.Common.{◌∙◌}
use Rattle.literal_pools.proofs.Texts.{place_spelled}
use Rattle.literal_pools.proofs.pool.Pool.place.Goals as goal

pub returns : goal.returns
returns c =
    let pool = c.args.self.now in
    c.get_index_of.ensures.index ∙ place_spelled pool.texts.keys pool.lengths.items c.args.text.now pool.paired
