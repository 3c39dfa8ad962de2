use Rattle.std.proofs.Common.{sym}
use Rattle.text_pool.proofs.PoolLemmas.{live_contains, owners_of-entry}
use Rattle.text_pool.proofs.pool.TextPool.owners.Goals as goal

pub index-requires : goal.index-requires
index-requires c = live_contains _ _ _ c.self.view_is c.requires.live

pub returns : goal.returns
returns c = sym (owners_of-entry _ _ _ _ c.self.view_is c.index.ensures)
