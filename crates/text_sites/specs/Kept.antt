-- How the text of a site is kept. No public clause cites this file. This project.
use Rattle.std.specs.Prelude.{ℕ, List, [], Option, Some, None}
use Rattle.text_pool.specs.Pool.{IsLive, text_of}
use Rattle.text_sites.specs.declared.site.PoolText.{PoolText}

-- the text of a number of the pool, or the empty one
abbrev pub text_in : Option PoolText → List ℕ
text_in None = []
text_in (Some kept) = text_of kept.pool.now kept.id.0

-- the number is live
abbrev pub IsThere : Option PoolText → Type 0
IsThere None = Unit {0}
IsThere (Some kept) = IsLive kept.pool.now kept.id.0
