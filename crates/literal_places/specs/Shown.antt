-- The literals as contracts see them (this project).
use Rattle.std.specs.Prelude.{map}
use Rattle.literal_pools.specs.Shown as pool
use Rattle.literal_places.specs.declared.literals.ClosedPool.{ClosedPool}
use Rattle.literal_places.specs.declared.literals.Literals as declared
use Rattle.literal_places.specs.Places.{Literals, Closed}

abbrev pub closed_of : ClosedPool → Closed
closed_of one = record { base = one.base; offsets = one.offsets.items }

abbrev pub literals_of : declared.Literals → Literals
literals_of literals = record { current = pool.literals_of literals.current; closed = map closed_of literals.closed.items }
