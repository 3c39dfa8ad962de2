-- Values that are judged one after the other.
use Rattle.std.proofs.Common.{◌≡◌, ◌∙◌, ℕ, suc, ◌+◌, ◌<◌, ◌≤◌, Bool, true, false, ◌||◌, List, [], ◌∷◌, length, take, drop, get_or, refl, sym, ap, add-one, drop-cons}
use Rattle.std.specs.List.{list_any, sum_by}
use Rattle.std.proofs.Math.ListN.{drop_of_length-le}
use Rattle.std.proofs.lemmas.List.{take_more, take_all}
use Rattle.std.proofs.lemmas.List.Sums.{sum_by_push}

-- the next one, and then the others
pub any_more : (test : List ℕ → Bool) (texts : List (List ℕ)) (i : ℕ) (text : List ℕ) → i < length texts → text ≡ get_or texts i text →
    list_any test (drop i texts) ≡ (test text || list_any test (drop (i + 1) texts))
any_more test texts i text h is =
    ap (list_any test) (drop-cons texts i text h ∙ ap (λ t. t ∷ drop (suc i) texts) (sym is)) ∙ ap (λ k. test text || list_any test (drop k texts)) (sym (add-one i))

-- there is no further one
pub any_past : (test : List ℕ → Bool) (texts : List (List ℕ)) (i : ℕ) → length texts ≤ i → list_any test (drop i texts) ≡ false
any_past test texts i h = ap (list_any test) (drop_of_length-le texts h)

-- one more number
pub sum_more : (number : List ℕ → ℕ) (texts : List (List ℕ)) (i : ℕ) (text : List ℕ) → i < length texts → text ≡ get_or texts i text →
    sum_by number (take (i + 1) texts) ≡ sum_by number (take i texts) + number text
sum_more number texts i text h is =
    ap (sum_by number) (take_more texts i text h) ∙ sum_by_push number (take i texts) (get_or texts i text) ∙ ap (λ t. sum_by number (take i texts) + number t) (sym is)

pub sum_all : (number : List ℕ → ℕ) (texts : List (List ℕ)) (i : ℕ) → length texts ≤ i → sum_by number (take i texts) ≡ sum_by number texts
sum_all number texts i past = ap (sum_by number) (take_all i texts past)

pub sum_none : (number : List ℕ → ℕ) (texts : List (List ℕ)) → 0 ≡ sum_by number (take 0 texts)
sum_none number texts = refl
