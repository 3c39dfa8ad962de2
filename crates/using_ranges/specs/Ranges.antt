-- The ranges of addresses that base registers cover (HLASM Language Reference SC26-4940, "USING instruction" and "DROP
-- instruction"), and which of them an address is based on.
use Rattle.std.specs.Prelude.{◌≡◌, ℕ, zero, suc, ◌+◌, ◌*◌, ◌^◌, ◌<◌, ◌≤◌, ◌⊎◌, ◌==◌, ◌||◌, Bool, false, ℤ, pos, ◌+ℤ◌, ◌<ℤ◌, List, [], ◌∷◌, Option, Some, None, slice_index_or, if◌then◌else◌}
use Rattle.std.specs.Option.{IfSome, is_none}
use Rattle.trace_values.specs.declared.section.SectionId.{SectionId}
use Rattle.using_ranges.specs.declared.range.Range.{Range}

-- the ranges in force: that of each register, if it has one
abbrev pub Held : Type 0
Held = List (Option Range)

-- the range of a register
abbrev pub range_at : Held → ℕ → Option Range
range_at held register = slice_index_or held register None

-- an address stands before an end, if there is one
abbrev pub IsBefore : ℤ → Option ℤ → Type 0
IsBefore offset end = IfSome end (λ e. offset <ℤ e)

-- a range has an address at this displacement: the range is in the address's section, the address stands so many bytes
-- behind where it begins, fewer than 4,096, and before its end
pub record IsWithin (range : Range) (section : Option SectionId) (offset : ℤ) (displacement : ℕ) : Type 0 where
  pub section_is : range.section ≡ section
  pub offset_is : range.start +ℤ pos (4096 * range.pages + displacement) ≡ offset
  pub near : displacement < 4096
  pub before_end : IsBefore offset range.end

-- the range of a register has an address at this displacement
abbrev pub Covers : Held → Option SectionId → ℤ → (register displacement : ℕ) → Type 0
Covers held section offset register displacement =
    (range : Range) × (range_at held register ≡ Some range) × IsWithin range section offset displacement

-- the register and displacement that an address is based on: among all that cover it those of the least displacement,
-- and among these the one of the greatest register
pub record IsCover (held : Held) (section : Option SectionId) (offset : ℤ) (register displacement : ℕ) : Type 0 where
  pub covers : Covers held section offset register displacement
  pub best : (other more : ℕ) → Covers held section offset other more → (displacement < more) ⊎ ((displacement ≡ more) × (other ≤ register))

-- the last place of a register in a list, counted from this number
abbrev pub last_place : ℕ → List ℕ → ℕ → Option ℕ
last_place from [] register = None
last_place from (x ∷ xs) register = later (last_place (from + 1) xs register) (x == register) where
  later : Option ℕ → Bool → Option ℕ
  later (Some place) here = Some place
  later None here = if here then Some from else None

-- The range that a register has after a USING that names these registers: the range of its last place there, which
-- begins 4,096 bytes further for each register before it, and the range that it had where it is not named.
abbrev pub named_range : (section : Option SectionId) (start : ℤ) (end : Option ℤ) → Option ℕ → Option Range → Option Range
named_range section start end None had = had
named_range section start end (Some place) had = Some (record { section = section; start = start; pages = place; end = end })

-- the ranges after a USING
pub record IsUsing (old new : Held) (section : Option SectionId) (start : ℤ) (end : Option ℤ) (registers : List ℕ) : Type 0 where
  pub ranges : (register : ℕ) → register < 16 → range_at new register ≡ named_range section start end (last_place 0 registers register) (range_at old register)

-- a register has no range
abbrev pub is_unused : Held → ℕ → Bool
is_unused held register = is_none (range_at held register)

-- a register is among these
abbrev pub is_among : ℕ → List ℕ → Bool
is_among register [] = false
is_among register (x ∷ xs) = x == register || is_among register xs

-- the number whose bits say of which of the numbers below one it holds: bit 0 is of 0
unfoldable pub mask_of : (ℕ → Bool) → ℕ → ℕ
mask_of holds zero = 0
mask_of holds (suc n) = mask_of holds n + (if holds n then 2 ^ n else 0)

-- the ranges after a DROP of these registers
pub record IsDropped (old new : Held) (registers : List ℕ) : Type 0 where
  pub ranges : (register : ℕ) → register < 16 → range_at new register ≡ (if is_among register registers then None else range_at old register)

-- among the registers below this number, the best that an address is based on
unfoldable pub IsBestBelow : Held → Option SectionId → ℤ → ℕ → Option (ℕ × ℕ) → Type 0
IsBestBelow held section offset bound None = (r d : ℕ) → r < bound → Covers held section offset r d → ⊥
IsBestBelow held section offset bound (Some best) = (best.0 < bound) × Covers held section offset best.0 best.1
    × ((other more : ℕ) → other < bound → Covers held section offset other more → (best.1 < more) ⊎ ((best.1 ≡ more) × (other ≤ best.0)))
