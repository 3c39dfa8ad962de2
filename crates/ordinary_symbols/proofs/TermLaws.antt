-- What sums with one relocatable term at most come to.
use Rattle.std.proofs.Common.{◌≡◌, ℕ, ◌+◌, ◌==◌, ◌&&◌, Bool, true, false, cond, not, List, [], ◌∷◌, ◌++◌, Option, Some, None, Result, Ok, Err, refl, sym, ap, ◌∙◌, find, arith, ℤ}
use Rattle.std.specs.Prelude.{◌+ℤ◌, ◌-ℤ◌}
use Rattle.std.specs.Option.{is_none}
use Rattle.std.proofs.lemmas.Bool.Decides.{nat_tests}
use Rattle.std.proofs.lemmas.List.{append-nil}
use Rattle.cond_expr.specs.Arithmetic.{fitting}
use Rattle.trace_values.specs.declared.section.SectionId.{SectionId}
use Rattle.trace_values.specs.declared.section.Reloc.{Reloc}
use Rattle.expression_grammar.specs.declared.tree.Operator.{Operator}
use Rattle.expression_grammar.specs.declared.tree.Operator.TheVariants.{Add, Subtract}
use Rattle.expression_grammar.specs.declared.tree.Sign.{Sign}
use Rattle.expression_grammar.specs.declared.tree.Sign.TheVariants.{Plus, Minus}
use Rattle.expression_grammar.specs.Trees.{Tree, Pair}
use Rattle.ordinary_symbols.specs.declared.fault.EvalFault.{EvalFault}
use Rattle.ordinary_symbols.specs.declared.fault.EvalFault.TheVariants.{NotSimple}
use Rattle.ordinary_symbols.specs.Known.{Knowledge}
use Rattle.ordinary_symbols.specs.Sections.{sections, times, once, listed, under, is_section, is_other, is_absolute, cancels, left_over, is_simple, counts_once}
use Rattle.ordinary_symbols.specs.SingleTerms.{ComesTo, Joins}
use Rattle.ordinary_symbols.specs.Values.{and_then, number, checked, joined, placed, value}

-- the number of two that are joined
joined_number : (k : Knowledge) (here : Option Reloc) (operator : Operator) (one other : Tree) (m n : ℤ) (r : Result ℤ EvalFault) →
    number k here one ≡ Ok m → number k here other ≡ Ok n →
    joined operator (is_absolute k here one && is_absolute k here other) m n ≡ r → number k here (Pair operator one other) ≡ r
joined_number k here operator one other m n r first second is =
    ap (λ x. and_then x (λ a. and_then (number k here other) (λ b. joined operator (is_absolute k here one && is_absolute k here other) a b))) first
    ∙ ap (λ x. and_then x (λ b. joined operator (is_absolute k here one && is_absolute k here other) m b)) second
    ∙ is

sum_nothing : (n : ℕ) → n + 0 ≡ n
sum_nothing n = omega arith

nothing_sum : (n : ℕ) → 0 + n ≡ n
nothing_sum n = omega arith

-- a sum whose second value is in no section
pub sum_before : (left right : Reloc) (number_of : ℤ) → right.section ≡ None → fitting (left.value +ℤ right.value) ≡ Some number_of →
    Joins Add left right (record { section = left.section; value = number_of })
sum_before left right number_of none fits k here one other first second = record {
  numbered = joined_number k here Add one other left.value right.value (Ok number_of) first.numbered second.numbered (ap checked fits);
  placed =
      ap (λ s. s ++ sections k here other) first.placed
      ∙ ap (λ s. listed left.section ++ s) (second.placed ∙ ap listed none)
      ∙ append-nil (listed left.section);
  counted = λ section sign.
      ap (λ n. n + times k here section sign other) (first.counted section sign)
      ∙ ap (λ n. once section sign left.section + n) (second.counted section sign ∙ ap (once section sign) none)
      ∙ sum_nothing (once section sign left.section);
}

-- a sum whose first value is in no section
pub sum_behind : (left right : Reloc) (number_of : ℤ) → left.section ≡ None → fitting (left.value +ℤ right.value) ≡ Some number_of →
    Joins Add left right (record { section = right.section; value = number_of })
sum_behind left right number_of none fits k here one other first second = record {
  numbered = joined_number k here Add one other left.value right.value (Ok number_of) first.numbered second.numbered (ap checked fits);
  placed =
      ap (λ s. s ++ sections k here other) (first.placed ∙ ap listed none)
      ∙ second.placed;
  counted = λ section sign.
      ap (λ n. n + times k here section sign other) (first.counted section sign ∙ ap (once section sign) none)
      ∙ nothing_sum (times k here section sign other)
      ∙ second.counted section sign;
}

-- a difference whose second value is in no section
pub difference_before : (left right : Reloc) (number_of : ℤ) → right.section ≡ None → fitting (left.value -ℤ right.value) ≡ Some number_of →
    Joins Subtract left right (record { section = left.section; value = number_of })
difference_before left right number_of none fits k here one other first second = record {
  numbered = joined_number k here Subtract one other left.value right.value (Ok number_of) first.numbered second.numbered (ap checked fits);
  placed =
      ap (λ s. s ++ sections k here other) first.placed
      ∙ ap (λ s. listed left.section ++ s) (second.placed ∙ ap listed none)
      ∙ append-nil (listed left.section);
  counted = λ section sign.
      ap (λ n. n + times k here section (under Minus sign) other) (first.counted section sign)
      ∙ ap (λ n. once section sign left.section + n) (second.counted section (under Minus sign) ∙ ap (once section (under Minus sign)) none)
      ∙ sum_nothing (once section sign left.section);
}

same_section : (s : SectionId) → is_section s s ≡ true
same_section s = grind (arith, nat_tests)

-- how often the only term in a section counts
once_plus : (s : SectionId) → once s Plus (Some s) ≡ 1
once_plus s = ap (λ b. cond b 1 0) (same_section s)

-- the section that is left over is that of the only term
left_is : (k : Knowledge) (here : Option Reloc) (tree : Tree) (v : Reloc) → ComesTo k here tree v → (section : Option SectionId) → v.section ≡ section →
    left_over k here tree None ≡ section
left_is k here tree v comes None is =
    ap (find (λ s. is_other None s && not (cancels k here tree s))) (comes.placed ∙ ap listed is)
left_is k here tree v comes (Some s) is =
    let plus : times k here s Plus tree ≡ 1 = comes.counted s Plus ∙ ap (once s Plus) is ∙ once_plus s in
    let minus : times k here s Minus tree ≡ 0 = comes.counted s Minus ∙ ap (once s Minus) is in
    let kept : cancels k here tree s ≡ false = ap (λ n. n == times k here s Minus tree) plus ∙ ap (λ n. 1 == n) minus in
    ap (find (λ t. is_other None t && not (cancels k here tree t))) (comes.placed ∙ ap listed is)
    ∙ ap (λ b. cond (not b) (Some s) None) kept

-- nothing else is left over
none_else : (k : Knowledge) (here : Option Reloc) (tree : Tree) (v : Reloc) (s : SectionId) → ComesTo k here tree v → v.section ≡ Some s →
    left_over k here tree (Some s) ≡ None
none_else k here tree v s comes is =
    ap (find (λ t. is_other (Some s) t && not (cancels k here tree t))) (comes.placed ∙ ap listed is)
    ∙ ap (λ b. cond (not b && not (cancels k here tree s)) (Some s) None) (same_section s)

simple_in : (k : Knowledge) (here : Option Reloc) (tree : Tree) (v : Reloc) (s : SectionId) → ComesTo k here tree v → v.section ≡ Some s →
    is_simple k here tree s ≡ true
simple_in k here tree v s comes is =
    let plus : times k here s Plus tree ≡ 1 = comes.counted s Plus ∙ ap (once s Plus) is ∙ once_plus s in
    let minus : times k here s Minus tree ≡ 0 = comes.counted s Minus ∙ ap (once s Minus) is in
    ap (λ n. (n == times k here s Minus tree + 1) && is_none (left_over k here tree (Some s))) plus
    ∙ ap (λ n. (1 == n + 1) && is_none (left_over k here tree (Some s))) minus
    ∙ ap (λ o. is_none o) (none_else k here tree v s comes is)

placed_in : (k : Knowledge) (here : Option Reloc) (tree : Tree) (v : Reloc) → ComesTo k here tree v → (section : Option SectionId) → v.section ≡ section →
    placed k here tree v.value section ≡ Ok (record { section = section; value = v.value })
placed_in k here tree v comes None is = refl
placed_in k here tree v comes (Some s) is =
    ap (λ b. cond b (Ok (record { section = Some s; value = v.value })) (Err NotSimple)) (simple_in k here tree v s comes is)

-- an expression has the value that it comes to
pub comes_to : (k : Knowledge) (here : Option Reloc) (tree : Tree) (v : Reloc) → ComesTo k here tree v → value k here tree ≡ Ok v
comes_to k here tree v comes =
    ap (λ x. and_then x (λ n. placed k here tree n (left_over k here tree None))) comes.numbered
    ∙ ap (placed k here tree v.value) (left_is k here tree v comes v.section refl)
    ∙ placed_in k here tree v comes v.section refl
