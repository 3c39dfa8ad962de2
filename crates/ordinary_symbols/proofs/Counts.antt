-- A sum has no more terms than parts; which section is left over in a sum.
use Rattle.std.proofs.Common.{◌≡◌, ℕ, ◌+◌, ◌≤◌, ◌==◌, ◌&&◌, Bool, true, false, cond, not, List, [], ◌∷◌, ◌++◌, Option, Some, None, refl, sym, ap, ◌∙◌, find, arith}
use Rattle.std.specs.Option.{option_or}
use Rattle.std.proofs.lemmas.List.Folds.{find-append}
use Rattle.trace_values.specs.declared.section.SectionId.{SectionId}
use Rattle.trace_values.specs.declared.section.Reloc.{Reloc}
use Rattle.expression_grammar.specs.declared.tree.Operator.TheVariants.{Add, Subtract, Multiply, Divide, And, Or, Xor}
use Rattle.expression_grammar.specs.declared.tree.Reference.TheVariants.{Value, Of}
use Rattle.expression_grammar.specs.declared.tree.Sign.{Sign}
use Rattle.expression_grammar.specs.declared.tree.Sign.TheVariants.{Plus, Minus}
use Rattle.expression_grammar.specs.Trees.{Tree, Number, Here, Ordinary, Variable, Signed, Pair, Paren, Not, Compared, Quoted, Duplicated, Substring, SubstringToEnd, Joined, size}
use Rattle.ordinary_symbols.specs.Known.{Knowledge}
use Rattle.ordinary_symbols.specs.Sections.{times, is_other, cancels, under, once, section_of, value_in, is_plus, is_section}

one_or_none : (b : Bool) → cond b 1 0 ≤ 1
one_or_none true = omega arith
one_or_none false = omega arith

once_le : (section : SectionId) (sign : Sign) (own : Option SectionId) → once section sign own ≤ 1
once_le section sign None = omega arith
once_le section sign (Some own) = one_or_none (is_plus sign && is_section own section)

pub times_le : (k : Knowledge) (here : Option Reloc) (section : SectionId) (sign : Sign) (tree : Tree) → times k here section sign tree ≤ size tree
times_le k here section sign (Ordinary Value symbol) = once_le section sign (section_of (value_in (k symbol.name)))
times_le k here section sign (Ordinary (Of attribute) symbol) = omega arith
times_le k here section sign Here = once_le section sign (section_of here)
times_le k here section sign (Signed before operand) = let one = times_le k here section (under before sign) operand in omega arith
times_le k here section sign (Pair Add left right) =
    let one = times_le k here section sign left in let other = times_le k here section sign right in omega arith
times_le k here section sign (Pair Subtract left right) =
    let one = times_le k here section sign left in let other = times_le k here section (under Minus sign) right in omega arith
times_le k here section sign (Pair Multiply left right) = omega arith
times_le k here section sign (Pair Divide left right) = omega arith
times_le k here section sign (Pair And left right) = omega arith
times_le k here section sign (Pair Or left right) = omega arith
times_le k here section sign (Pair Xor left right) = omega arith
times_le k here section sign (Paren inner) = let one = times_le k here section sign inner in omega arith
times_le k here section sign (Number form bits) = omega arith
times_le k here section sign (Variable asked symbol subscripts) = omega arith
times_le k here section sign (Not operand) = omega arith
times_le k here section sign (Compared comparison left right) = omega arith
times_le k here section sign (Quoted items) = omega arith
times_le k here section sign (Duplicated factor text) = omega arith
times_le k here section sign (Substring text start count) = omega arith
times_le k here section sign (SubstringToEnd text start) = omega arith
times_le k here section sign (Joined left right) = omega arith

-- a section is another than this one, and its terms do not cancel in the whole
abbrev pub is_left : Knowledge → Option Reloc → Option SectionId → Tree → SectionId → Bool
is_left k here but whole s = is_other but s && not (cancels k here whole s)

-- the first section that is left over in one of two operands
pub in_sum : (k : Knowledge) (here : Option Reloc) (but : Option SectionId) (whole : Tree) (one other both : Option SectionId) (left right : List SectionId) →
    both ≡ option_or one other → one ≡ find (is_left k here but whole) left → other ≡ find (is_left k here but whole) right →
    both ≡ find (is_left k here but whole) (left ++ right)
in_sum k here but whole one other both left right is first second =
    is
    ∙ ap (λ o. option_or o other) first
    ∙ ap (λ o. option_or (find (is_left k here but whole) left) o) second
    ∙ sym (find-append (is_left k here but whole) left right)
