-- The commas of an operand field that separate its operands (HLASM Language Reference SC26-4940, "Operand entry").
use Rattle.std.specs.Prelude.{ℕ, ◌+◌, List, [], ◌∷◌, if◌then◌else◌}
use Rattle.operand_list.specs.Split.{is_separator}

-- how many commas of a text, which stands behind these characters of the field, stand outside quotes and parentheses
abbrev pub separators : (before : List ℕ) → List ℕ → ℕ
separators before [] = 0
separators before (c ∷ rest) = (if is_separator 0 c before then 1 else 0) + separators (c ∷ before) rest
