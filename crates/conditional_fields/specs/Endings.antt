-- Where the operand field of a generated statement ends (HLASM Language Reference SC26-4940, "Operand entry"): at a blank
-- outside quotes. What stands before a character is the list of the characters before it, the nearest first.
use Rattle.std.specs.Prelude.{ℕ, ◌==◌, ◌||◌, ◌&&◌, Bool, not, List, [], ◌∷◌, if◌then◌else◌}
use Rattle.hl_base.specs.Quoting.{is_quoted}

-- a blank or a tab outside quotes
abbrev pub ends_here : ℕ → List ℕ → Bool
ends_here c before = ((c == 32) || (c == 9)) && not (is_quoted c before)

-- what of a text, which stands behind these characters, belongs to the field
abbrev pub ended : (before : List ℕ) → List ℕ → List ℕ
ended before [] = []
ended before (c ∷ rest) = if ends_here c before then [] else c ∷ ended (c ∷ before) rest

-- what of a text belongs to the operand field
abbrev pub field_of : List ℕ → List ℕ
field_of text = ended [] text
