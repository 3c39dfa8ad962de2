-- The literals as contracts see them. This project.
use Rattle.literal_pools.specs.Pools.{Pool as Literals}
use Rattle.literal_pools.specs.Views.{joined, spelled}
use Rattle.literal_pools.specs.declared.pool.Pool.{Pool}

-- the literals of a pool, in order of first use
abbrev pub literals_of : Pool → Literals
literals_of pool = joined (spelled pool.texts.keys) pool.lengths.items
