-- The last pair of parentheses of a text (HLASM Language Reference SC26-4940, "Operand entry"). What stands before a character
-- is the list of the characters before it, the nearest first.
use Rattle.std.specs.Prelude.{ℕ, ◌==◌, ◌&&◌, Bool, not, List, [], ◌∷◌, length, drop, Option, Some, None, is_some, if◌then◌else◌}
use Rattle.std.specs.Option.{option_or}
use Rattle.hl_base.specs.Quoting.{depth, is_quoted}
use Rattle.operand_list.specs.SplitSublist.{elements_of}

-- whether a parenthesis (40) opens here that stands outside quotes and all others
abbrev pub opens : (c : ℕ) (before : List ℕ) → Bool
opens c before = (c == 40) && ((depth before == 0) && not (is_quoted c before))

-- how many characters stand before such a parenthesis, if it opens here
abbrev pub opened : (c : ℕ) (before : List ℕ) → Option ℕ
opened c before = if opens c before then Some (length before) else None

-- how many characters stand before the last such parenthesis of a text, which stands behind these characters
abbrev pub last_open : (before : List ℕ) → List ℕ → Option ℕ
last_open before [] = None
last_open before (c ∷ rest) = option_or (last_open (c ∷ before) rest) (opened c before)

-- whether what stands behind so many characters is a pair of parentheses with what they hold
abbrev pub is_closed : ℕ → List ℕ → Bool
is_closed at text = is_some (elements_of (drop at text))

abbrev pub pair_at : Option ℕ → List ℕ → Option ℕ
pair_at None text = None
pair_at (Some at) text = if is_closed at text then Some at else None

-- how many characters stand before the last pair of parentheses of a text, if it ends with one
abbrev pub last_pair : List ℕ → Option ℕ
last_pair text = pair_at (last_open [] text) text
