use Rattle.std.proofs.Common.{refl}
use Rattle.text_pool.proofs.PoolLemmas.{get-remove-same, get-remove-other}
use Rattle.text_pool.proofs.CallerLemmas.{IsLive-none}
use Rattle.text_pool.proofs.laws.freed_numbers_are_free.Goals as goal

pub returns : goal.returns
returns c = λ pool id. (IsLive-none _ id (get-remove-same pool id id refl), λ other differ. get-remove-other pool id other differ)
