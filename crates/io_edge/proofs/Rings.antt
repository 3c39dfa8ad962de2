-- A list that is read from a place on, and from its front again behind its end.
use Rattle.std.proofs.Common.{◌≡◌, ℕ, ◌+◌, ◌-◌, ◌<◌, ◌≤◌, List, [], ◌∷◌, ◌++◌, length, take, drop, get_or, zero, suc, refl, ap, sym, ◌∙◌, append_assoc, arith}
use Rattle.std.proofs.Math.Seq.{drop-cons, take-suc}
use Rattle.std.proofs.lemmas.List.{drop_all, take_all, append-nil}
use Rattle.io_edge.specs.MemorySource.{turned}

-- one place further on, the element that stood there comes last
pub ring-suc : (xs : List ℕ) (place : ℕ) → place < length xs →
    drop (suc place) xs ++ take (suc place) xs ≡ turned (drop place xs ++ take place xs)
ring-suc xs place within =
    rw (drop-cons xs place 0, take-suc xs place 0)
    (sym (append_assoc (drop (suc place) xs) (take place xs) (get_or xs place 0 ∷ [])))

-- behind the last element the first comes again
pub ring-again : (xs : List ℕ) (place : ℕ) → place ≤ length xs - 1 → length xs ≤ place + 1 →
    xs ++ [] ≡ turned (drop place xs ++ take place xs)
ring-again [] zero within last = refl
ring-again [] (suc place) within last = absurd (omega arith)
ring-again (x ∷ xs) place within last =
    let here : place < length (x ∷ xs) = omega arith in
    let past : length (x ∷ xs) ≤ suc place = omega arith in
    append-nil (x ∷ xs)
    ∙ sym (take_all (suc place) (x ∷ xs) past)
    ∙ ap (λ front. front ++ take (suc place) (x ∷ xs)) (sym (drop_all (suc place) (x ∷ xs) past))
    ∙ ring-suc (x ∷ xs) place here
