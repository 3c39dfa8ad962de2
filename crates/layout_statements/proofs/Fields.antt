-- Fields without literals.
use Rattle.std.proofs.Common.{◌≡◌, ◌∙◌, ℕ, true, false, cond, List, [], ◌∷◌, ◌++◌, Some, None, refl, sym, ap, arith}
use Rattle.std.specs.Prelude.{◌==◌, option_map}
use Rattle.std.specs.List.{list_any, onto_first}
use Rattle.literal_operands.specs.Literals as whole
use Rattle.operand_list.specs.Split.{is_separator, parts, operands_of}
use Rattle.layout_statements.specs.Lists.{without_behind, literals, literal, listed}

other_first : (c : ℕ) (rest : List ℕ) → list_any (λ c. c == 61) (c ∷ rest) ≡ false → (c == 61) ≡ false
other_first c rest none = grind (arith, none)

other_rest : (c : ℕ) (rest : List ℕ) → list_any (λ c. c == 61) (c ∷ rest) ≡ false → list_any (λ c. c == 61) rest ≡ false
other_rest c rest none = grind (arith, none)

second_none : {X : Type 0} (xs ys : List X) → xs ++ ys ≡ [] → ys ≡ []
second_none [] ys none = none
second_none (x ∷ xs) ys none = absurd cc

-- an operand that begins with another character has none
unlisted : (c : ℕ) (rest : List ℕ) → (c == 61) ≡ false → listed (literal (c ∷ rest)) ≡ []
unlisted c rest other = ap (λ b. listed (option_map without_behind (cond b (Some (whole.literal rest)) None))) other

-- nor have operands of which the first gets such a character
onto-none : (c : ℕ) (texts : List (List ℕ)) → (c == 61) ≡ false → literals texts ≡ [] → literals (onto_first c texts) ≡ []
onto-none c [] other none = ap (λ found. found ++ []) (unlisted c [] other)
onto-none c (text ∷ texts) other none =
    ap (λ found. found ++ literals texts) (unlisted c text other) ∙ second_none (listed (literal text)) (literals texts) none

parts-none : (level : ℕ) (before text : List ℕ) → list_any (λ c. c == 61) text ≡ false → literals (parts level before text) ≡ []
parts-none level before [] none = refl
parts-none level before (c ∷ rest) none =
    let others = parts-none level (c ∷ before) rest (other_rest c rest none) in
    elim (is_separator level c before) as (λ b. literals (cond b ([] ∷ parts level (c ∷ before) rest) (onto_first c (parts level (c ∷ before) rest))) ≡ []) [
      | true ↦ others
      | false ↦ onto-none c (parts level (c ∷ before) rest) (other_first c rest none) others
    ]

-- a field in which no equals sign stands has none
pub no_literals : (text : List ℕ) → list_any (λ c. c == 61) text ≡ false → [] ≡ literals (operands_of text)
no_literals [] none = refl
no_literals (c ∷ rest) none = sym (parts-none 0 [] (c ∷ rest) none)
