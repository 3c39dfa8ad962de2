-- The literals of an assembly, and where they stand (HLASM Language Reference SC26-4940, "Literal pool"): each pool is current until
-- it is placed, and literals that are used then join the next one.
use Rattle.std.specs.Prelude.{ℕ, ◌+◌, List, [], ◌∷◌, ◌++◌, Option, Some, None, length, nat_le, option_map, slice_get, if◌then◌else◌}
use Rattle.section_table.specs.declared.table.Place.{Place}
use Rattle.literal_pools.specs.Pools as pools
use Rattle.literal_places.specs.declared.literals.LiteralUse.{LiteralUse}

-- a pool that is closed: where it begins, if it has a place, and where its literals stand behind that
pub record Closed : Type 0 where
  pub base : Option Place
  pub offsets : List ℕ

pub record Literals : Type 0 where
  pub current : pools.Pool
  pub closed : List Closed

-- no literal
abbrev pub empty : Literals
empty = record { current = []; closed = [] }

-- where literals stand in a pool of these lengths: those from a place on, which have the last of these lengths
abbrev pub offsets_from : (ns : List ℕ) (place : ℕ) → List ℕ → List ℕ
offsets_from ns place [] = []
offsets_from ns place (n ∷ rest) = pools.offset ns place n ∷ offsets_from ns (place + 1) rest

abbrev pub offsets_of : List ℕ → List ℕ
offsets_of ns = offsets_from ns 0 ns

-- a literal that is used is in the current pool
abbrev pub with_literal : pools.Literal → Literals → Literals
with_literal literal all = record { current = pools.with_literal all.current literal; closed = all.closed }

-- where a literal of the current pool is
abbrev pub use_of : List ℕ → Literals → Option LiteralUse
use_of text all = option_map (λ place. record { pool = length all.closed; place = place }) (pools.place_of all.current text)

-- the current pool is closed, with a place or without one
abbrev pub closed_at : Option Place → Literals → Literals
closed_at base all = record {
  current = [];
  closed = all.closed ++ record { base = base; offsets = offsets_of (pools.lengths all.current) } ∷ [];
}

-- a place so far behind another, if 32 bits count it
abbrev pub behind : Place → ℕ → Option Place
behind base offset =
    if nat_le (base.offset + offset) 4294967295 then Some (record { section = base.section; offset = base.offset + offset }) else None

abbrev pub behind_base : Option Place → Option ℕ → Option Place
behind_base None offset = None
behind_base (Some base) None = None
behind_base (Some base) (Some offset) = behind base offset

-- where a literal of a pool stands
abbrev pub place_in : Option Closed → ℕ → Option Place
place_in None place = None
place_in (Some pool) place = behind_base pool.base (slice_get pool.offsets place)

abbrev pub place_of : Literals → LiteralUse → Option Place
place_of all one = place_in (slice_get all.closed one.pool) one.place
