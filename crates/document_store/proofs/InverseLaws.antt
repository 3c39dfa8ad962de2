-- A place of a text is the place of its position and of its column.
use Rattle.std.proofs.Common.{◌≡◌, ◌∙◌, ℕ, zero, suc, ◌+◌, ◌-◌, ◌<◌, ◌≤◌, List, [], ◌∷◌, length, take, refl, inl, inr, ap, arith, length-take}
use Rattle.std.proofs.lemmas.Bool.{cases_lt}
use Rattle.std.proofs.lemmas.Bool.Decides.{nat_tests}
use Rattle.std.proofs.lemmas.Option.{slice_get-get_or, slice_get_past}
use Rattle.hl_base.specs.Texts.{lines, unit_width, units}
use Rattle.hl_base.proofs.UnitLaws.{units-cons}
use Rattle.hl_base.specs.declared.edit.Position.{Position}
use Rattle.document_store.specs.Positions.{Spot, characters_before, line_of, end_of, spot_of, spot_of_column, position_at}
use Rattle.document_store.proofs.LineLemmas.{whole_lines-some}
use Rattle.document_store.proofs.FromLemmas.{length-lines_whole}
use Rattle.document_store.proofs.PlaceLemmas.{characters_before-le, characters_before-behind, characters_before-next, spot_of-there, spot_of-past}

width_positive : (c : ℕ) → 0 < unit_width c
width_positive c = grind (arith, nat_tests)

-- as many characters stand before the unit behind the first of them
pub characters_before-units : (line : List ℕ) (n : ℕ) → n ≤ length line → characters_before (units (take n line)) line ≡ n
characters_before-units [] n h = omega arith
characters_before-units (c ∷ rest) zero h = characters_before-behind (c ∷ rest) 0 c 0 (omega arith, refl) (width_positive c)
characters_before-units (c ∷ rest) (suc n) h =
    let wide : units (take (suc n) (c ∷ rest)) ≡ unit_width c + units (take n rest) = units-cons c (take n rest) in
    let less : units (take (suc n) (c ∷ rest)) - unit_width c ≡ units (take n rest) = omega arith in
    let next : characters_before (units (take (suc n) (c ∷ rest))) (c ∷ rest) ≡ 1 + characters_before (units (take (suc n) (c ∷ rest)) - unit_width c) rest =
    characters_before-next (c ∷ rest) 0 c (units (take (suc n) (c ∷ rest))) (omega arith, refl) (omega arith) in
    let later : characters_before (units (take n rest)) rest ≡ n = characters_before-units rest n (omega arith) in
    next ∙ ap (λ k. 1 + characters_before k rest) less ∙ omega arith

-- a place that the text has
pub record IsInside (text : List ℕ) (spot : Spot) : Type 0 where
  pub line : spot.line < length (lines text)
  pub before : spot.before ≤ length (line_of text spot.line)

-- it is the place of its position
pub spot_of-position_at : (text : List ℕ) (spot : Spot) → IsInside text spot → spot_of text (position_at text spot) ≡ spot
spot_of-position_at text spot inside =
    spot_of-there text (position_at text spot) inside.line
    ∙ ap (λ n. record { line = spot.line; before = n }) (characters_before-units (line_of text spot.line) spot.before inside.before)

-- a column whose line is there
pub spot_of_column-there : (text : List ℕ) (line column : ℕ) → line < length (lines text) → spot_of_column text line column ≡ record { line = line; before = length (take (column - 1) (line_of text line)) }
spot_of_column-there text line column h = rw (slice_get-get_or (lines text) line [] h) refl

pub spot_of_column-past : (text : List ℕ) (line column : ℕ) → length (lines text) ≤ line → spot_of_column text line column ≡ end_of text
spot_of_column-past text line column h = rw (slice_get_past (lines text) line h) refl

-- a column that the line has
pub spot_of_column-within : (text : List ℕ) (line column : ℕ) → line < length (lines text) → column ≤ length (line_of text line) + 1 → spot_of_column text line column ≡ record { line = line; before = column - 1 }
spot_of_column-within text line column h within =
    let count : length (take (column - 1) (line_of text line)) ≡ column - 1 = omega (arith, length-take (column - 1) (line_of text line)) in
    spot_of_column-there text line column h ∙ ap (λ n. record { line = line; before = n }) count

-- and the place of its column
pub spot_of_column-of : (text : List ℕ) (spot : Spot) → IsInside text spot → spot_of_column text spot.line (spot.before + 1) ≡ spot
spot_of_column-of text spot inside =
    let same : spot.before + 1 - 1 ≡ spot.before = omega arith in
    spot_of_column-within text spot.line (spot.before + 1) inside.line (omega (arith, inside.before))
    ∙ ap (λ n. record { line = spot.line; before = n }) same

-- every place found is one that the text has
IsInside-along : (text : List ℕ) (spot found : Spot) → found ≡ spot → IsInside text spot → IsInside text found
IsInside-along text spot found e inside = rw e inside

IsInside-end_of : (text : List ℕ) → IsInside text (end_of text)
IsInside-end_of text =
    let some = whole_lines-some text in
    record { line = omega (arith, ap length some.is, length-lines_whole text); before = omega arith }

pub IsInside-spot_of : (text : List ℕ) (at : Position) → IsInside text (spot_of text at)
IsInside-spot_of text at = elim (cases_lt at.line (length (lines text))) [
  | inl there ↦ IsInside-along text _ _ (spot_of-there text at there) (record { line = there; before = characters_before-le (line_of text at.line) at.character })
  | inr past ↦ IsInside-along text _ _ (spot_of-past text at past) (IsInside-end_of text)
]

pub IsInside-spot_of_column : (text : List ℕ) (line column : ℕ) → IsInside text (spot_of_column text line column)
IsInside-spot_of_column text line column = elim (cases_lt line (length (lines text))) [
  | inl there ↦ IsInside-along text _ _ (spot_of_column-there text line column there) (record { line = there; before = omega (arith, length-take (column - 1) (line_of text line)) })
  | inr past ↦ IsInside-along text _ _ (spot_of_column-past text line column past) (IsInside-end_of text)
]
