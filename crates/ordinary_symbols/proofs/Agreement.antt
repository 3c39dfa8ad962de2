-- What is known of the symbols of an expression decides its value: where two agree on them, the value is the same.
use Rattle.std.proofs.Common.{◌≡◌, ◌≢◌, ℕ, ◌+◌, ◌&&◌, ◌==◌, Bool, true, false, cond, not, List, [], ◌∷◌, ◌++◌, Option, Some, None, Result, Ok, Err, refl, sym, ap, subst, ◌∙◌, find, ℤ}
use Rattle.std.specs.Option.{is_none, option_or, option_map_or}
use Rattle.std.proofs.lemmas.List.Folds.{find-append}
use Rattle.trace_values.specs.declared.section.SectionId.{SectionId}
use Rattle.trace_values.specs.declared.section.Reloc.{Reloc}
use Rattle.expression_grammar.specs.declared.tree.Attribute.{Attribute}
use Rattle.expression_grammar.specs.declared.tree.Operator.{Operator}
use Rattle.expression_grammar.specs.declared.tree.Operator.TheVariants.{Add, Subtract, Multiply, Divide, And, Or, Xor}
use Rattle.expression_grammar.specs.declared.tree.Reference.{Reference}
use Rattle.expression_grammar.specs.declared.tree.Reference.TheVariants.{Value, Of}
use Rattle.expression_grammar.specs.declared.tree.Sign.{Sign}
use Rattle.expression_grammar.specs.declared.tree.Sign.TheVariants.{Plus, Minus}
use Rattle.expression_grammar.specs.Trees.{Tree, Number, Here, Ordinary, Variable, Signed, Pair, Paren, Not, Compared, Quoted, Duplicated, Substring, SubstringToEnd, Joined}
use Rattle.ordinary_symbols.specs.declared.fault.EvalFault.{EvalFault}
use Rattle.ordinary_symbols.specs.declared.fault.EvalFault.TheVariants.{NotSimple}
use Rattle.ordinary_symbols.specs.declared.known.Known.{Known}
use Rattle.ordinary_symbols.specs.Known.{Knowledge, names, first_unknown, leftmost, length_of, equated_length}
use Rattle.ordinary_symbols.specs.Sections.{sections, times, under, once, listed, section_of, value_in, is_other, cancels, counts_once, left_over, is_absolute, is_simple}
use Rattle.ordinary_symbols.specs.Values.{and_then, number, number_of_symbol, signed, joined, placed, value}

-- two say the same of each symbol of an expression
abbrev pub Agree : Knowledge → Knowledge → Tree → Type 0
Agree k l (Ordinary asked symbol) = k symbol.name ≡ l symbol.name
Agree k l (Signed sign operand) = Agree k l operand
Agree k l (Pair operator left right) = Agree k l left × Agree k l right
Agree k l (Paren inner) = Agree k l inner
Agree k l other = Unit {0}

-- whatever one knows, the other knows too
abbrev pub Below : Knowledge → Knowledge → Type 0
Below k l = (name : List ℕ) (x : Known) → k name ≡ Some x → l name ≡ Some x

none_of_or : {X : Type 0} (o p : Option X) → option_or o p ≡ None → (o ≡ None) × (p ≡ None)
none_of_or None p is = (refl, is)
none_of_or (Some x) p is = absurd cc

or_of_none : {X : Type 0} (o p : Option X) → o ≡ None → p ≡ None → option_or o p ≡ None
or_of_none None p is too = too
or_of_none (Some x) p is too = absurd cc

-- the first unknown symbol of two expressions
pub first_unknown_pair : (k : Knowledge) (left right : Tree) (operator : Operator) →
    first_unknown k (Pair operator left right) ≡ option_or (first_unknown k left) (first_unknown k right)
first_unknown_pair k left right operator = find-append (λ name. is_none (k name)) (names left) (names right)

known_name : (k l : Knowledge) (name : List ℕ) (o : Option Known) → k name ≡ o → find (λ n. is_none (k n)) (name ∷ []) ≡ None → Below k l →
    (k name ≡ l name) × (find (λ n. is_none (l n)) (name ∷ []) ≡ None)
known_name k l name None is none below =
    let some : Some name ≡ None = sym (ap (λ o. cond (is_none o) (Some name) None) is) ∙ none in absurd cc
known_name k l name (Some x) is none below =
    (is ∙ sym (below name x is), ap (λ o. cond (is_none o) (Some name) None) (below name x is))

-- where one knows all symbols of an expression, and the other what it knows, they agree on it
pub ready_agrees : (k l : Knowledge) (tree : Tree) → Below k l → first_unknown k tree ≡ None → Agree k l tree × (first_unknown l tree ≡ None)
ready_agrees k l (Ordinary asked symbol) below none = known_name k l symbol.name (k symbol.name) refl none below
ready_agrees k l (Signed sign operand) below none = ready_agrees k l operand below none
ready_agrees k l (Pair operator left right) below none =
    let both = none_of_or (first_unknown k left) (first_unknown k right) (sym (first_unknown_pair k left right operator) ∙ none) in
    let one = ready_agrees k l left below both.0 in
    let other = ready_agrees k l right below both.1 in
    ((one.0, other.0), first_unknown_pair l left right operator ∙ or_of_none _ _ one.1 other.1)
ready_agrees k l (Paren inner) below none = ready_agrees k l inner below none
ready_agrees k l (Number form bits) below none = (tt, refl)
ready_agrees k l Here below none = (tt, refl)
ready_agrees k l (Variable asked symbol subscripts) below none = (tt, refl)
ready_agrees k l (Not operand) below none = (tt, refl)
ready_agrees k l (Compared comparison left right) below none = (tt, refl)
ready_agrees k l (Quoted items) below none = (tt, refl)
ready_agrees k l (Duplicated factor text) below none = (tt, refl)
ready_agrees k l (Substring text start count) below none = (tt, refl)
ready_agrees k l (SubstringToEnd text start) below none = (tt, refl)
ready_agrees k l (Joined left right) below none = (tt, refl)

-- the sections of the terms are the same
sections-agree : (k l : Knowledge) (here : Option Reloc) (tree : Tree) → Agree k l tree → sections k here tree ≡ sections l here tree
sections-agree k l here (Ordinary Value symbol) agree = ap (λ o. listed (section_of (value_in o))) agree
sections-agree k l here (Ordinary (Of attribute) symbol) agree = refl
sections-agree k l here (Signed sign operand) agree = sections-agree k l here operand agree
sections-agree k l here (Pair Add left right) agree =
    ap (λ s. s ++ sections k here right) (sections-agree k l here left agree.0) ∙ ap (λ s. sections l here left ++ s) (sections-agree k l here right agree.1)
sections-agree k l here (Pair Subtract left right) agree =
    ap (λ s. s ++ sections k here right) (sections-agree k l here left agree.0) ∙ ap (λ s. sections l here left ++ s) (sections-agree k l here right agree.1)
sections-agree k l here (Pair Multiply left right) agree = refl
sections-agree k l here (Pair Divide left right) agree = refl
sections-agree k l here (Pair And left right) agree = refl
sections-agree k l here (Pair Or left right) agree = refl
sections-agree k l here (Pair Xor left right) agree = refl
sections-agree k l here (Paren inner) agree = sections-agree k l here inner agree
sections-agree k l here (Number form bits) agree = refl
sections-agree k l here Here agree = refl
sections-agree k l here (Variable asked symbol subscripts) agree = refl
sections-agree k l here (Not operand) agree = refl
sections-agree k l here (Compared comparison left right) agree = refl
sections-agree k l here (Quoted items) agree = refl
sections-agree k l here (Duplicated factor text) agree = refl
sections-agree k l here (Substring text start count) agree = refl
sections-agree k l here (SubstringToEnd text start) agree = refl
sections-agree k l here (Joined left right) agree = refl

-- and each counts as often
times-agree : (k l : Knowledge) (here : Option Reloc) (section : SectionId) (sign : Sign) (tree : Tree) → Agree k l tree →
    times k here section sign tree ≡ times l here section sign tree
times-agree k l here section sign (Ordinary Value symbol) agree = ap (λ o. once section sign (section_of (value_in o))) agree
times-agree k l here section sign (Ordinary (Of attribute) symbol) agree = refl
times-agree k l here section sign (Signed before operand) agree = times-agree k l here section (under before sign) operand agree
times-agree k l here section sign (Pair Add left right) agree =
    ap (λ n. n + times k here section sign right) (times-agree k l here section sign left agree.0)
    ∙ ap (λ n. times l here section sign left + n) (times-agree k l here section sign right agree.1)
times-agree k l here section sign (Pair Subtract left right) agree =
    ap (λ n. n + times k here section (under Minus sign) right) (times-agree k l here section sign left agree.0)
    ∙ ap (λ n. times l here section sign left + n) (times-agree k l here section (under Minus sign) right agree.1)
times-agree k l here section sign (Pair Multiply left right) agree = refl
times-agree k l here section sign (Pair Divide left right) agree = refl
times-agree k l here section sign (Pair And left right) agree = refl
times-agree k l here section sign (Pair Or left right) agree = refl
times-agree k l here section sign (Pair Xor left right) agree = refl
times-agree k l here section sign (Paren inner) agree = times-agree k l here section sign inner agree
times-agree k l here section sign (Number form bits) agree = refl
times-agree k l here section sign Here agree = refl
times-agree k l here section sign (Variable asked symbol subscripts) agree = refl
times-agree k l here section sign (Not operand) agree = refl
times-agree k l here section sign (Compared comparison left right) agree = refl
times-agree k l here section sign (Quoted items) agree = refl
times-agree k l here section sign (Duplicated factor text) agree = refl
times-agree k l here section sign (Substring text start count) agree = refl
times-agree k l here section sign (SubstringToEnd text start) agree = refl
times-agree k l here section sign (Joined left right) agree = refl

find-alike : {X : Type 0} (p q : X → Bool) (xs : List X) → ((x : X) → p x ≡ q x) → find p xs ≡ find q xs
find-alike p q [] alike = refl
find-alike p q (x ∷ xs) alike = ap (λ b. cond b (Some x) (find p xs)) (alike x) ∙ ap (λ o. cond (q x) (Some x) o) (find-alike p q xs alike)

cancels-agree : (k l : Knowledge) (here : Option Reloc) (tree : Tree) (section : SectionId) → Agree k l tree → cancels k here tree section ≡ cancels l here tree section
cancels-agree k l here tree section agree =
    ap (λ n. n == times k here section Minus tree) (times-agree k l here section Plus tree agree)
    ∙ ap (λ n. times l here section Plus tree == n) (times-agree k l here section Minus tree agree)

left_over-agree : (k l : Knowledge) (here : Option Reloc) (tree : Tree) (but : Option SectionId) → Agree k l tree → left_over k here tree but ≡ left_over l here tree but
left_over-agree k l here tree but agree =
    ap (λ s. find (λ section. is_other but section && not (cancels k here tree section)) s) (sections-agree k l here tree agree)
    ∙ find-alike _ _ (sections l here tree) (λ section. ap (λ b. is_other but section && not b) (cancels-agree k l here tree section agree))

is_absolute-agree : (k l : Knowledge) (here : Option Reloc) (tree : Tree) → Agree k l tree → is_absolute k here tree ≡ is_absolute l here tree
is_absolute-agree k l here tree agree = ap is_none (left_over-agree k l here tree None agree)

is_simple-agree : (k l : Knowledge) (here : Option Reloc) (tree : Tree) (section : SectionId) → Agree k l tree → is_simple k here tree section ≡ is_simple l here tree section
is_simple-agree k l here tree section agree =
    ap (λ n. (n == times k here section Minus tree + 1) && is_none (left_over k here tree (Some section))) (times-agree k l here section Plus tree agree)
    ∙ ap (λ n. (times l here section Plus tree == n + 1) && is_none (left_over k here tree (Some section))) (times-agree k l here section Minus tree agree)
    ∙ ap (λ o. counts_once l here tree section && is_none o) (left_over-agree k l here tree (Some section) agree)

-- one and then another, where both parts are alike
and_then-alike : {A B : Type 0} (one two : Result A EvalFault) (next after : A → Result B EvalFault) → one ≡ two → ((a : A) → next a ≡ after a) →
    and_then one next ≡ and_then two after
and_then-alike one (Ok a) next after same alike = ap (λ r. and_then r next) same ∙ alike a
and_then-alike one (Err fault) next after same alike = ap (λ r. and_then r next) same

both-absolute : (k l : Knowledge) (here : Option Reloc) (left right : Tree) → Agree k l left → Agree k l right →
    (is_absolute k here left && is_absolute k here right) ≡ (is_absolute l here left && is_absolute l here right)
both-absolute k l here left right one other =
    ap (λ b. b && is_absolute k here right) (is_absolute-agree k l here left one) ∙ ap (λ b. is_absolute l here left && b) (is_absolute-agree k l here right other)

number-agree : (k l : Knowledge) (here : Option Reloc) (tree : Tree) → Agree k l tree → number k here tree ≡ number l here tree
number-agree k l here (Ordinary asked symbol) agree = ap (λ o. number_of_symbol asked symbol.name o) agree
number-agree k l here (Signed sign operand) agree = ap (λ r. and_then r (signed sign)) (number-agree k l here operand agree)
number-agree k l here (Pair operator left right) agree =
    and_then-alike (number k here left) (number l here left) _ _ (number-agree k l here left agree.0) (λ m.
    and_then-alike (number k here right) (number l here right) _ _ (number-agree k l here right agree.1) (λ n.
    ap (λ b. joined operator b m n) (both-absolute k l here left right agree.0 agree.1)))
number-agree k l here (Paren inner) agree = number-agree k l here inner agree
number-agree k l here (Number form bits) agree = refl
number-agree k l here Here agree = refl
number-agree k l here (Variable asked symbol subscripts) agree = refl
number-agree k l here (Not operand) agree = refl
number-agree k l here (Compared comparison left right) agree = refl
number-agree k l here (Quoted items) agree = refl
number-agree k l here (Duplicated factor text) agree = refl
number-agree k l here (Substring text start count) agree = refl
number-agree k l here (SubstringToEnd text start) agree = refl
number-agree k l here (Joined left right) agree = refl

placed-agree : (k l : Knowledge) (here : Option Reloc) (tree : Tree) (n : ℤ) (section : Option SectionId) → Agree k l tree →
    placed k here tree n section ≡ placed l here tree n section
placed-agree k l here tree n None agree = refl
placed-agree k l here tree n (Some section) agree =
    ap (λ b. cond b (Ok (record { section = Some section; value = n })) (Err NotSimple)) (is_simple-agree k l here tree section agree)

pub value-agree : (k l : Knowledge) (here : Option Reloc) (tree : Tree) → Agree k l tree → value k here tree ≡ value l here tree
value-agree k l here tree agree =
    and_then-alike (number k here tree) (number l here tree) _ _ (number-agree k l here tree agree) (λ n.
    ap (λ o. placed k here tree n o) (left_over-agree k l here tree None agree) ∙ placed-agree k l here tree n (left_over l here tree None) agree)

pub equated_length-agree : (k l : Knowledge) (tree : Tree) → Agree k l tree → equated_length k tree ≡ equated_length l tree
equated_length-agree k l (Ordinary Value symbol) agree = ap length_of agree
equated_length-agree k l (Ordinary (Of attribute) symbol) agree = refl
equated_length-agree k l (Signed sign operand) agree = equated_length-agree k l operand agree
equated_length-agree k l (Pair operator left right) agree = equated_length-agree k l left agree.0
equated_length-agree k l (Paren inner) agree = equated_length-agree k l inner agree
equated_length-agree k l (Number form bits) agree = refl
equated_length-agree k l Here agree = refl
equated_length-agree k l (Variable asked symbol subscripts) agree = refl
equated_length-agree k l (Not operand) agree = refl
equated_length-agree k l (Compared comparison left right) agree = refl
equated_length-agree k l (Quoted items) agree = refl
equated_length-agree k l (Duplicated factor text) agree = refl
equated_length-agree k l (Substring text start count) agree = refl
equated_length-agree k l (SubstringToEnd text start) agree = refl
equated_length-agree k l (Joined left right) agree = refl
