-- The steps of the loop that numbers a text.
use Rattle.std.proofs.Common.{◌≡◌, ℕ, ◌<◌, ◌≤◌, List, ◌∷◌, length, get_or, drop, ap, sym, ◌∙◌, suc}
use Rattle.std.proofs.Math.Seq.{drop-cons}
use Rattle.std.proofs.Math.ListN.{drop_of_length-le}
use Rattle.kept_values.specs.Trees.{mixed, number_from}
use Rattle.kept_values.specs.Lists.{list_tree}

dropped : (xs : List ℕ) (n c : ℕ) → (n < length xs) × (c ≡ get_or xs n c) → drop n xs ≡ c ∷ drop (suc n) xs
dropped xs n c h = drop-cons xs n c h.0 ∙ ap (λ x. x ∷ drop (suc n) xs) (sym h.1)

-- one character more is read
pub one_more : (start number c result : ℕ) (xs : List ℕ) (n m : ℕ) → m ≡ suc n → (n < length xs) × (c ≡ get_or xs n c) → result ≡ mixed number c →
    number_from number (list_tree (drop n xs)) ≡ number_from start (list_tree xs) → number_from result (list_tree (drop m xs)) ≡ number_from start (list_tree xs)
one_more start number c result xs n m next at result_is so_far =
    ap (λ k. number_from result (list_tree (drop k xs))) next
    ∙ ap (λ r. number_from r (list_tree (drop (suc n) xs))) result_is
    ∙ ap (λ ys. number_from number (list_tree ys)) (sym (dropped xs n c at))
    ∙ so_far

-- all characters are read
pub at_end : (start number result : ℕ) (xs : List ℕ) (n : ℕ) → length xs ≤ n → result ≡ mixed number 0 →
    number_from number (list_tree (drop n xs)) ≡ number_from start (list_tree xs) → result ≡ number_from start (list_tree xs)
at_end start number result xs n past result_is so_far =
    result_is ∙ ap (λ ys. number_from number (list_tree ys)) (sym (drop_of_length-le xs past)) ∙ so_far
