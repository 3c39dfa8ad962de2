-- The operands of a field. HLASM Language Reference SC26-4940, "Operand entry": commas outside quotes and parentheses
-- stand between operands. What stands before a character is the list of the characters before it, the nearest first.
use Rattle.std.specs.Prelude.{◌≡◌, ℕ, Bool, not, ◌&&◌, ◌==◌, List, [], ◌∷◌, ◌++◌, take, drop, if◌then◌else◌}
use Rattle.std.specs.Str.{chars}
use Rattle.std.specs.List.{onto_first}
use Rattle.hl_base.specs.Quoting.{is_quoted, depth, IsBehind}
use Rattle.operand_list.specs.declared.split.Parting.{Parting}

-- whether a character is a comma outside quotes, in so many open parentheses
abbrev pub is_separator : (level c : ℕ) (before : List ℕ) → Bool
is_separator level c before = (c == 44) && ((depth before == level) && not (is_quoted c before))

-- the texts between the separators of a text, which stands behind these characters: one more than there are separators
abbrev pub parts : (level : ℕ) (before : List ℕ) → List ℕ → List (List ℕ)
parts level before [] = [] ∷ []
parts level before (c ∷ rest) =
    if is_separator level c before then ([] ∷ parts level (c ∷ before) rest) else onto_first c (parts level (c ∷ before) rest)

-- the operands of a field: none where it is empty
abbrev pub operands_of : List ℕ → List (List ℕ)
operands_of [] = []
operands_of (c ∷ rest) = parts 0 [] (c ∷ rest)

-- ---- what the reader of characters keeps

-- the texts, where the first of them begins with what was read of it
abbrev pub with_front : List ℕ → List (List ℕ) → List (List ℕ)
with_front front [] = front ∷ []
with_front front (part ∷ rest) = (front ++ part) ∷ rest

-- what is read of the text that is read on
abbrev pub part_of : Parting → List ℕ
part_of parting = take parting.count (chars parting.from.now)

-- what is left behind it
abbrev pub left_of : Parting → List ℕ
left_of parting = drop parting.count (chars parting.from.now)

-- all texts, where some are read and this is left, behind these characters
abbrev pub whole_parts : (level : ℕ) (done : List (List ℕ)) (part before rest : List ℕ) → List (List ℕ)
whole_parts level done part before rest = done ++ with_front part (parts level before rest)

-- what was read and what is left are the texts of a text
pub record IsParted (level : ℕ) (parting : Parting) (rest : List ℕ) (whole : List (List ℕ)) : Type 0 where
  pub before : List ℕ
  pub behind : IsBehind parting.nesting before
  pub left : left_of parting ≡ rest
  pub same : whole_parts level parting.done (part_of parting) before rest ≡ whole
