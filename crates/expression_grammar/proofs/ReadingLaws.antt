-- What is found at a place of a text, in the words of its callers.
use Rattle.std.proofs.Common.{◌≡◌, ℕ, suc, zero, ◌+◌, ◌<◌, ◌≤◌, List, [], ◌∷◌, ◌++◌, length, take, get_or, refl, sym, ap, ◌∙◌, subst, arith}
use Rattle.std.specs.Prelude.{Some, None}
use Rattle.expression_grammar.specs.declared.character.Grammar.{Grammar}
use Rattle.expression_grammar.specs.declared.fault.SyntaxFault.{SyntaxFault}
use Rattle.expression_grammar.specs.declared.fault.SyntaxFault.TheVariants.{At, OutOfMemory}
use Rattle.expression_grammar.specs.Trees.{Tree}
use Rattle.expression_grammar.specs.Spelling.{IsExpression, IsAt, Spells, most_parts}
use Rattle.expression_grammar.specs.Reading.{State, Want, accept, advance, Reaches}
use Rattle.expression_grammar.specs.Answers.{IsFault, Stops}
use Rattle.expression_grammar.proofs.Finds.{reaches-start, reaches-next, stops, ends-open, ends-whole}

-- a text, cut behind a character
pub record CutAt (all : List ℕ) (n c : ℕ) : Type 0 where
  pub rest : List ℕ
  pub both : all ≡ take n all ++ c ∷ rest

pub cut-at : (all : List ℕ) (n c : ℕ) → n < length all → c ≡ get_or all n c → CutAt all n c
cut-at [] n c h e = absurd (omega arith)
cut-at (x ∷ all) zero c h e = let same : c ≡ x = e in record { rest = all; both = ap (λ y. y ∷ all) (sym same) }
cut-at (x ∷ all) (suc n) c h e = let cut = cut-at all n c (omega arith) e in record { rest = cut.rest; both = ap (λ xs. x ∷ xs) cut.both }

pub take-next : (all : List ℕ) (n c : ℕ) → n < length all → c ≡ get_or all n c → take (suc n) all ≡ take n all ++ c ∷ []
take-next [] n c h e = absurd (omega arith)
take-next (x ∷ all) zero c h e = let same : c ≡ x = e in ap (λ y. y ∷ []) (sym same)
take-next (x ∷ all) (suc n) c h e = ap (λ xs. x ∷ xs) (take-next all n c (omega arith) e)

pub take-size : (all : List ℕ) (n : ℕ) → n ≤ length all → length (take n all) ≡ n
take-size all zero h = refl
take-size [] (suc n) h = absurd (omega arith)
take-size (x ∷ all) (suc n) h = ap suc (take-size all n (omega arith))

pub take-whole : (all : List ℕ) → take (length all) all ≡ all
take-whole [] = refl
take-whole (x ∷ all) = ap (λ xs. x ∷ xs) (take-whole all)

pub starts_here : (g : Grammar) (all : List ℕ) → Reaches g most_parts (take 0 all) (Want [])
starts_here g all = reaches-start g most_parts (omega arith)

-- no state follows here
pub stop_here : (g : Grammar) (all : List ℕ) (n c at : ℕ) (state : State) (fault : SyntaxFault) → n < length all → c ≡ get_or all n c → at ≡ n → Reaches g most_parts (take n all) state →
    Stops g state (record { at = at; code = c }) fault → IsFault (Spells g) all fault
stop_here g all n c at state (At count) h e a r s =
    let cut = cut-at all n c h e in
    let size : length (take n all) ≡ n = take-size all n (omega arith) in
    let none : advance g most_parts state (record { at = length (take n all); code = c }) ≡ None =
    ap (λ k. advance g most_parts state (record { at = k; code = c })) (size ∙ sym a) ∙ s.1 in
    let found : IsAt (Spells g) most_parts (take n all ++ c ∷ cut.rest) (length (take n all)) = stops g most_parts (take n all) c cut.rest state r none in
    let same : length (take n all) ≡ count = size ∙ sym a ∙ sym s.0 in
    subst (λ (xs : List ℕ). IsAt (Spells g) most_parts xs count) (sym cut.both) (subst (λ (k : ℕ). IsAt (Spells g) most_parts (take n all ++ c ∷ cut.rest) k) same found)
stop_here g all n c at state OutOfMemory h e a r s = tt

-- a state follows here
pub go_on_here : (g : Grammar) (all : List ℕ) (n c at m : ℕ) (state next : State) → n < length all → c ≡ get_or all n c → at ≡ n → m ≡ n + 1 → Reaches g most_parts (take n all) state →
    advance g most_parts state (record { at = at; code = c }) ≡ Some next → Reaches g most_parts (take m all) next
go_on_here g all n c at m state next h e a f r s =
    let size : length (take n all) ≡ n = take-size all n (omega arith) in
    let some : advance g most_parts state (record { at = length (take n all); code = c }) ≡ Some next =
    ap (λ k. advance g most_parts state (record { at = k; code = c })) (size ∙ sym a) ∙ s in
    let count : suc n ≡ m = omega arith in
    let same : take n all ++ c ∷ [] ≡ take m all = sym (take-next all n c h e) ∙ ap (λ k. take k all) count in
    subst (λ (xs : List ℕ). Reaches g most_parts xs next) same (reaches-next g most_parts (take n all) c state next r some)

pub end_some : (g : Grammar) (all : List ℕ) (n : ℕ) (state : State) (tree : Tree) → n ≡ length all → Reaches g most_parts (take n all) state → Some tree ≡ accept g state → IsExpression (Spells g) most_parts all tree
end_some g all n state tree e r a =
    let whole : take n all ≡ all = ap (λ k. take k all) e ∙ take-whole all in
    ends-whole g most_parts all state tree (subst (λ (xs : List ℕ). Reaches g most_parts xs state) whole r) (sym a)

pub end_none : (g : Grammar) (all : List ℕ) (n at : ℕ) (state : State) → n ≡ length all → at ≡ n → Reaches g most_parts (take n all) state → None ≡ accept g state → IsAt (Spells g) most_parts all at
end_none g all n at state e f r a =
    let whole : take n all ≡ all = ap (λ k. take k all) e ∙ take-whole all in
    subst (λ (k : ℕ). IsAt (Spells g) most_parts all k) (sym (f ∙ e)) (ends-open g most_parts all state (subst (λ (xs : List ℕ). Reaches g most_parts xs state) whole r) (sym a))
