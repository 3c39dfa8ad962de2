-- Operands that can all be read.
use Rattle.std.proofs.Common.{◌≡◌, ◌∙◌, Bool, ◌&&◌, true, false, List, [], ◌∷◌, ◌++◌, Option, cond, refl, sym, ap}
use Rattle.std.specs.List.{list_all}
use Rattle.constant_operands.specs.Operands.{Operand}
use Rattle.ordinary_symbols.specs.Known.{Knowledge}
use Rattle.trace_values.specs.declared.section.Reloc.{Reloc}
use Rattle.section_steps.specs.Constants.{all_legible}
use Rattle.section_steps.specs.Legible.{is_legible, legible}

and-left : (a b : Bool) → (a && b) ≡ true → a ≡ true
and-left true b e = refl
and-left false b e = e

and-right : (a b : Bool) → (a && b) ≡ true → b ≡ true
and-right true b e = e
and-right false b e = absurd cc

legible-is : (known : Knowledge) (here : Option Reloc) (one : Operand) → is_legible known here one ≡ true → legible known here one ≡ one ∷ []
unfolding is_legible legible
legible-is known here one is = ap (λ b. cond b (one ∷ []) []) is

-- where all can be read they are those that can be
pub all_are_legible : (known : Knowledge) (here : Option Reloc) (all : List Operand) → list_all (is_legible known here) all ≡ true →
    all ≡ all_legible known here all
all_are_legible known here [] is = refl
all_are_legible known here (one ∷ others) is =
    let first = and-left (is_legible known here one) (list_all (is_legible known here) others) is in
    let rest = and-right (is_legible known here one) (list_all (is_legible known here) others) is in
    ap (λ xs. one ∷ xs) (all_are_legible known here others rest)
    ∙ ap (λ xs. xs ++ all_legible known here others) (sym (legible-is known here one first))
