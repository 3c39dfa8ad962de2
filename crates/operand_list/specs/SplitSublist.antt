-- The elements of a sublist. HLASM Language Reference SC26-4940, "Sublists in operands": it begins with a parenthesis
-- whose match is its last character, and commas within these parentheses alone stand between its elements.
use Rattle.std.specs.Prelude.{◌≡◌, ℕ, ◌==◌, List, [], ◌∷◌, ◌++◌, Option, Some, None, option_map, if◌then◌else◌}
use Rattle.hl_base.specs.Quoting.{depth, IsBehind}
use Rattle.operand_list.specs.declared.split.Parting.{Parting}
use Rattle.operand_list.specs.declared.split_elements.Stage.{Stage}
use Rattle.operand_list.specs.declared.split_elements.Stage.TheVariants.{Outside, Within, Closed, Broken}
use Rattle.operand_list.specs.Split.{left_of, part_of, parts, whole_parts}

-- nothing, where nothing follows
abbrev pub at_end : List ℕ → Option (List ℕ)
at_end [] = Some []
at_end (c ∷ rest) = None

-- what of a text, which stands behind these characters, stands before the first character with which no parenthesis is
-- open any more, where that is its last
abbrev pub closed_by : (before : List ℕ) → List ℕ → Option (List ℕ)
closed_by before [] = None
closed_by before (c ∷ rest) =
    if depth (c ∷ before) == 0 then at_end rest else option_map (λ inner. c ∷ inner) (closed_by (c ∷ before) rest)

-- what stands between the parentheses of a sublist; none where the text is no sublist
abbrev pub inner_of : List ℕ → Option (List ℕ)
inner_of [] = None
inner_of (c ∷ rest) = if c == 40 then closed_by (c ∷ []) rest else None

-- the elements of a sublist; none where the text is no sublist
abbrev pub elements_of : List ℕ → Option (List (List ℕ))
elements_of text = option_map (parts 1 (40 ∷ [])) (inner_of text)

-- ---- what the reader of characters keeps

-- the elements, where nothing follows
abbrev pub closed_elements : List (List ℕ) → List ℕ → Option (List (List ℕ))
closed_elements elements [] = Some elements
closed_elements elements (c ∷ rest) = None

-- what was read and what is left have these elements
abbrev pub IsListed : Stage → Parting → (rest : List ℕ) → Option (List (List ℕ)) → Type 0
IsListed Outside parting rest whole = IsBehind parting.nesting [] × (parting.done ≡ []) × (parting.count ≡ 0) × (left_of parting ≡ rest) × (elements_of rest ≡ whole)
IsListed Within parting rest whole =
    (before : List ℕ) × IsBehind parting.nesting before × (left_of parting ≡ rest)
    × (option_map (λ inner. whole_parts 1 parting.done (part_of parting) before inner) (closed_by before rest) ≡ whole)
IsListed Closed parting rest whole = closed_elements (parting.done ++ part_of parting ∷ []) rest ≡ whole
IsListed Broken parting rest whole = None ≡ whole
