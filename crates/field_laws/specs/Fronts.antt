-- Where the operand field of a statement stands in its lines (HLASM Language Reference SC26-4940, "Operand entry", "Alternate
-- format for continuation lines").
use Rattle.std.specs.Prelude.{◌≡◌, ℕ, Bool, true, false, ◌==◌, ◌&&◌, List, [], ◌∷◌, ◌++◌, slice_index, if◌then◌else◌}
use Rattle.hlasm_statements.specs.Columns.{Placed, is_blank}
use Rattle.hlasm_statements.specs.Fields.{ends_field}

-- the characters of a field up to here, the nearest first: those of a front, and then those that stand before it
abbrev pub up_to : (before : List ℕ) → (front : List Placed) → List ℕ
up_to before [] = before
up_to before (p ∷ front) = up_to (p.char ∷ before) front

-- whether the field ends at a character that stands behind these ones of it: at a blank outside quotes, and, where parentheses
-- keep their blanks, outside parentheses
abbrev pub ends_at : (keeps : Bool) (before : List ℕ) → Placed → Bool
ends_at keeps before p = is_blank p.char && ends_field keeps p.char before

-- nothing follows, or what follows begins with a character at which the field ends
abbrev pub BeginsWithEnd : (keeps : Bool) (before : List ℕ) → List Placed → Type 0
BeginsWithEnd keeps before [] = Unit {0}
BeginsWithEnd keeps before (p ∷ rest) = ends_at keeps before p ≡ true

-- the front of a source that stands behind these characters of the field, up to the first at which the field ends, and what
-- is left
pub record IsFront (keeps : Bool) (before : List ℕ) (source front rest : List Placed) : Type 0 where
  pub whole : source ≡ front ++ rest
  pub goes_on : (these : List Placed) (p : Placed) (others : List Placed) → front ≡ these ++ p ∷ others → ends_at keeps (up_to before these) p ≡ false
  pub ends : BeginsWithEnd keeps (up_to before front) rest

-- a field is the front of a source
abbrev pub IsFrontOf : (keeps : Bool) (source field : List Placed) → Type 0
IsFrontOf keeps source field = (rest : List Placed) × IsFront keeps [] source field rest

-- whether the field so far ends in a comma
abbrev pub ends_in_comma : (before : List ℕ) → Bool
ends_in_comma before = slice_index before 0 == 44

-- what stands behind a line of which some was read
abbrev pub behind_line : ℕ → List Placed → List Placed
behind_line line [] = []
behind_line line (p ∷ rest) = if p.line == line then behind_line line rest else p ∷ rest

-- nothing follows, or the field does not end in a comma
abbrev pub IsOver : (before : List ℕ) → List Placed → Type 0
IsOver before [] = Unit {0}
IsOver before (p ∷ rest) = ends_in_comma before ≡ false

-- The fronts of a source in the alternate format, behind these characters of the field. Where the field ends in a comma and a
-- character follows at which it ends, the rest of that line is remarks, and the next front begins in the next line; it has no
-- character where that whole line is remarks.
pub data AreFronts (keeps : Bool) : (before : List ℕ) (source : List Placed) (fronts : List (List Placed)) → Type 0 where
  last : (before : List ℕ) (source front rest : List Placed) → IsFront keeps before source front rest → IsOver (up_to before front) rest → AreFronts keeps before source (front ∷ [])
  more : (before : List ℕ) (source front : List Placed) (p : Placed) (rest : List Placed) (fronts : List (List Placed)) → IsFront keeps before source front (p ∷ rest) →
      ends_in_comma (up_to before front) ≡ true → AreFronts keeps (up_to before front) (behind_line p.line rest) fronts → AreFronts keeps before source (front ∷ fronts)

-- fronts one behind the other
abbrev pub in_a_row : List (List Placed) → List Placed
in_a_row [] = []
in_a_row (front ∷ fronts) = front ++ in_a_row fronts

-- a field is the fronts of a source
abbrev pub AreFrontsOf : (keeps : Bool) (source field : List Placed) → Type 0
AreFrontsOf keeps source field = (fronts : List (List Placed)) × AreFronts keeps [] source fronts × (field ≡ in_a_row fronts)
