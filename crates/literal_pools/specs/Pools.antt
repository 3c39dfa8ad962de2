-- Literal pools (HLASM Language Reference SC26-4940, "Literals", "Literal pool", "LTORG instruction").
use Rattle.std.specs.Prelude.{◌≡◌, ℕ, ◌+◌, ◌%◌, ◌==◌, List, [], ◌∷◌, ◌++◌, Option, Some, None, length, map, nat_lt, position, slice_get, take, if◌then◌else◌}
use Rattle.std.specs.List.{sum_by}
use Rattle.std.specs.Str.{bytes_eq}

-- a literal: its text behind the `=`, and how many bytes it takes
pub record Literal : Type 0 where
  pub text : List ℕ
  pub length : ℕ

-- the literals of a pool, each once, in order of first use
abbrev pub Pool : Type 0
Pool = List Literal

abbrev pub text_of : Literal → List ℕ
text_of literal = literal.text

-- the lengths of the literals, in order of first use
abbrev pub lengths : Pool → List ℕ
lengths pool = map (λ (literal : Literal). literal.length) pool

-- the place of a literal of a text in the order of first use
abbrev pub place_of : Pool → List ℕ → Option ℕ
place_of pool text = position (bytes_eq text) (map text_of pool)

-- a literal that is used: one of a text that is there is the same, and keeps its length
abbrev pub used : Option ℕ → Pool → Literal → Pool
used (Some place) pool literal = pool
used None pool literal = pool ++ literal ∷ []

abbrev pub with_literal : Pool → Literal → Pool
with_literal pool literal = used (place_of pool literal.text) pool literal

-- The rank of a length: literals whose lengths are multiples of 8 stand first, then those of 4, then those of 2, then all
-- others. So in a pool that begins on a doubleword each literal stands on a boundary that fits its length.
abbrev pub rank : ℕ → ℕ
rank n = if n % 8 == 0 then 0 else (if n % 4 == 0 then 1 else (if n % 2 == 0 then 2 else 3))

-- the length, where its rank is this one
abbrev pub if_of_rank : (r n : ℕ) → ℕ
if_of_rank r n = if rank n == r then n else 0

-- the length, where its rank is one before this
abbrev pub if_before_rank : (r n : ℕ) → ℕ
if_before_rank r n = if nat_lt (rank n) r then n else 0

-- how many bytes literals of these lengths take whose rank is this one, and whose rank is one before this
abbrev pub bytes_of_rank : ℕ → List ℕ → ℕ
bytes_of_rank r ns = sum_by (if_of_rank r) ns

abbrev pub bytes_before_rank : ℕ → List ℕ → ℕ
bytes_before_rank r ns = sum_by (if_before_rank r) ns

-- where the literal of a place and a length stands in the pool, in bytes: behind all of the ranks before its own, and behind
-- those of its own rank that were used before it
abbrev pub offset : List ℕ → (place n : ℕ) → ℕ
offset ns place n = bytes_before_rank (rank n) ns + bytes_of_rank (rank n) (take place ns)

-- where the literals of these lengths stand, in order of first use
pub record AreOffsets (ns : List ℕ) (offsets : List ℕ) : Type 0 where
  pub as_many : length offsets ≡ length ns
  pub each : (place n : ℕ) → slice_get ns place ≡ Some n → slice_get offsets place ≡ Some (offset ns place n)
