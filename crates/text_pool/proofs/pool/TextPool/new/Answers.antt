use Rattle.std.proofs.Common.{ap}
use Rattle.text_pool.specs.Entries.{pool_of, pool_from}
use Rattle.text_pool.proofs.pool.TextPool.new.Goals as goal

pub returns : goal.returns
unfolding pool_of
returns c = ap (pool_from 0) c.new.ensures.empty
