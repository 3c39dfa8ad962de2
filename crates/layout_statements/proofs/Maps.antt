-- Lists that are read one after the other.
use Rattle.std.proofs.Common.{◌≡◌, ◌∙◌, ℕ, suc, ◌+◌, ◌<◌, ◌≤◌, ◌==◌, Bool, ◌||◌, true, false, List, [], ◌∷◌, ◌++◌, length, take, drop, get_or, map, refl, sym, ap, append_assoc, append-nil, add-one, drop-cons, arith}
use Rattle.std.specs.List.{list_any}
use Rattle.std.proofs.Math.ListN.{drop_of_length-le}
use Rattle.std.proofs.lemmas.Bool.{eqb-true}
use Rattle.std.proofs.lemmas.List.{map_push, map_more, take_more}
use Rattle.constant_operands.specs.declared.operand.ConstantUse.{ConstantUse}
use Rattle.constant_operands.specs.Operands.{operand}
use Rattle.layout_statements.specs.Lists.{Literal, constants, literal, literals, listed}

-- one more, as it is seen
pub mapped_more : {X Y Z : Type 0} (view : Z → Y) (f : X → Y) (made grown : List Z) (z : Z) (xs : List X) (i : ℕ) (x : X) →
    map view made ≡ map f (take i xs) → grown ≡ made ++ z ∷ [] → view z ≡ f x → i < length xs → x ≡ get_or xs i x →
    map view grown ≡ map f (take (i + 1) xs)
mapped_more view f made grown z xs i x so_far grows is h at =
    ap (map view) grows
    ∙ map_push view made z
    ∙ ap (λ ys. ys ++ view z ∷ []) so_far
    ∙ ap (λ y. map f (take i xs) ++ y ∷ []) (is ∙ ap f at)
    ∙ sym (map_more f xs i x h)

literals-push : (texts : List (List ℕ)) (text : List ℕ) → literals (texts ++ text ∷ []) ≡ literals texts ++ listed (literal text)
literals-push [] text = append-nil (listed (literal text))
literals-push (other ∷ texts) text =
    ap (λ rest. listed (literal other) ++ rest) (literals-push texts text)
    ∙ sym (append_assoc (listed (literal other)) (literals texts) (listed (literal text)))

-- the literal of one more operand
pub literals_more : (made grown : List Literal) (texts : List (List ℕ)) (i : ℕ) (text : List ℕ) →
    made ≡ literals (take i texts) → grown ≡ made ++ listed (literal text) → i < length texts → text ≡ get_or texts i text →
    grown ≡ literals (take (i + 1) texts)
literals_more made grown texts i text so_far grows h at =
    grows
    ∙ ap (λ front. front ++ listed (literal text)) so_far
    ∙ sym (literals-push (take i texts) text)
    ∙ ap (λ t. literals (take i texts ++ t ∷ [])) at
    ∙ ap literals (sym (take_more texts i text h))

-- the operands of DC or DS where there is none
pub constants-none : (used : ConstantUse) (texts : List (List ℕ)) → (length texts == 0) ≡ true → operand used [] ∷ [] ≡ constants used texts
constants-none used [] none = refl
constants-none used (text ∷ texts) none = absurd (omega (arith, eqb-true (length (text ∷ texts)) 0 none))

-- where there is one
pub constants-some : (used : ConstantUse) (texts : List (List ℕ)) → (length texts == 0) ≡ false → map (operand used) texts ≡ constants used texts
constants-some used [] some = absurd cc
constants-some used (text ∷ texts) some = refl

-- the next one, and then the others
pub any_more : (test : List ℕ → Bool) (texts : List (List ℕ)) (i : ℕ) (text : List ℕ) → i < length texts → text ≡ get_or texts i text →
    list_any test (drop i texts) ≡ (test text || list_any test (drop (i + 1) texts))
any_more test texts i text h is =
    ap (list_any test) (drop-cons texts i text h ∙ ap (λ t. t ∷ drop (suc i) texts) (sym is)) ∙ ap (λ k. test text || list_any test (drop k texts)) (sym (add-one i))

-- there is no further one
pub any_past : (test : List ℕ → Bool) (texts : List (List ℕ)) (i : ℕ) → length texts ≤ i → list_any test (drop i texts) ≡ false
any_past test texts i h = ap (list_any test) (drop_of_length-le texts h)
