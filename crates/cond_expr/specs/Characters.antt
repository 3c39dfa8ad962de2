-- Texts of character expressions: their greatest length, duplication and substrings (HLASM Language Reference
-- SC26-4940, "Character (SETC) expressions", "Duplication factor", "Substring notation").
use Rattle.std.specs.Prelude.{ℕ, zero, suc, ◌-◌, ◌==◌, ◌||◌, List, [], ◌∷◌, ◌++◌, length, take, drop, ℤ, pos, negsuc, Option, Some, None, nat_lt, if◌then◌else◌}
use Rattle.cond_expr.specs.Outcome.{Outcome, Gives, gives}
use Rattle.cond_expr.specs.Troubles.{outside, too_long}

-- a text, cut at 1,024 characters with a note
abbrev pub limited : List ℕ → Outcome (List ℕ)
limited text = if nat_lt 1024 (length text) then Gives (take 1024 text) (too_long ∷ []) else gives text

-- so many copies of a text behind one another
unfoldable pub repeated : ℕ → List ℕ → List ℕ
repeated zero text = []
repeated (suc copies) text = text ++ repeated copies text

-- a number, and 0 in place of one below 0
abbrev pub not_below_0 : ℤ → ℕ
not_below_0 (pos n) = n
not_below_0 (negsuc n) = 0

-- so many copies of a text, none where the factor is below 0
abbrev pub duplicated : ℤ → List ℕ → Outcome (List ℕ)
duplicated factor text = limited (repeated (not_below_0 factor) text)

-- how many characters stand before a character that is counted from 1; none where the count is below 1
abbrev pub characters_before : ℤ → Option ℕ
characters_before (pos zero) = None
characters_before (pos (suc before)) = Some before
characters_before (negsuc n) = None

-- so many characters of a text behind those before; the text's end cuts them
abbrev pub part : List ℕ → Option ℕ → ℕ → Outcome (List ℕ)
part text None count = Gives [] (outside ∷ [])
part text (Some before) count =
    if nat_lt before (length text) || (count == 0) then gives (take count (drop before text)) else Gives [] (outside ∷ [])

-- the substring of a text from a character on, with a count
abbrev pub substring : List ℕ → ℤ → ℤ → Outcome (List ℕ)
substring text start count = part text (characters_before start) (not_below_0 count)

-- how many characters are left behind those before, never below 0
abbrev pub left_behind : List ℕ → Option ℕ → ℕ
left_behind text None = 0
left_behind text (Some before) = length text - before

-- the substring of a text from a character to its end: the count is what is left
abbrev pub substring_to_end : List ℕ → ℤ → Outcome (List ℕ)
substring_to_end text start = part text (characters_before start) (left_behind text (characters_before start))
