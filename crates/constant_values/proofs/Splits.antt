-- What stands before the first element that passes a test, and behind it.
use Rattle.std.proofs.Common.{◌≡◌, ◌∙◌, ℕ, suc, ◌+◌, ◌<◌, Bool, true, false, not, cond, List, [], ◌∷◌, length, take, drop, refl, sym, ap, arith, length-drop}
use Rattle.std.specs.List.{slice_split, onto_first, prefix_len}

-- there is one, and then others
pub split_some : (p : ℕ → Bool) (xs : List ℕ) (c : ℕ) (rest : List ℕ) → drop (prefix_len (λ x. not (p x)) xs) xs ≡ c ∷ rest →
    slice_split p xs ≡ take (prefix_len (λ x. not (p x)) xs) xs ∷ slice_split p rest
split_some p [] c rest is = cc
split_some p (x ∷ xs) c rest is = by (p x) refl (λ further. split_some p xs c rest further)
  where
    by : (b : Bool) → p x ≡ b →
        (drop (prefix_len (λ y. not (p y)) xs) xs ≡ c ∷ rest → slice_split p xs ≡ take (prefix_len (λ y. not (p y)) xs) xs ∷ slice_split p rest) →
        slice_split p (x ∷ xs) ≡ take (prefix_len (λ y. not (p y)) (x ∷ xs)) (x ∷ xs) ∷ slice_split p rest
    by true met others =
        let none : prefix_len (λ y. not (p y)) (x ∷ xs) ≡ 0 = ap (λ b. cond (not b) (1 + prefix_len (λ y. not (p y)) xs) 0) met in
        let whole : x ∷ xs ≡ c ∷ rest = sym (ap (λ n. drop n (x ∷ xs)) none) ∙ is in
        let tail : xs ≡ rest = cc in
        ap (λ b. cond b ([] ∷ slice_split p xs) (onto_first x (slice_split p xs))) met
        ∙ ap (λ ys. [] ∷ slice_split p ys) tail
        ∙ ap (λ n. take n (x ∷ xs) ∷ slice_split p rest) (sym none)
    by false unmet others =
        let next : 1 + prefix_len (λ y. not (p y)) xs ≡ suc (prefix_len (λ y. not (p y)) xs) = omega arith in
        let more : prefix_len (λ y. not (p y)) (x ∷ xs) ≡ suc (prefix_len (λ y. not (p y)) xs) =
        ap (λ b. cond (not b) (1 + prefix_len (λ y. not (p y)) xs) 0) unmet ∙ next in
        let further : drop (prefix_len (λ y. not (p y)) xs) xs ≡ c ∷ rest = sym (ap (λ n. drop n (x ∷ xs)) more) ∙ is in
        ap (λ b. cond b ([] ∷ slice_split p xs) (onto_first x (slice_split p xs))) unmet
        ∙ ap (onto_first x) (others further)
        ∙ ap (λ n. take n (x ∷ xs) ∷ slice_split p rest) (sym more)

-- there is none
pub split_none : (p : ℕ → Bool) (xs : List ℕ) → drop (prefix_len (λ x. not (p x)) xs) xs ≡ [] → slice_split p xs ≡ xs ∷ []
split_none p [] is = refl
split_none p (x ∷ xs) is = by (p x) refl (λ further. split_none p xs further)
  where
    by : (b : Bool) → p x ≡ b → (drop (prefix_len (λ y. not (p y)) xs) xs ≡ [] → slice_split p xs ≡ xs ∷ []) → slice_split p (x ∷ xs) ≡ (x ∷ xs) ∷ []
    by true met others =
        let none : prefix_len (λ y. not (p y)) (x ∷ xs) ≡ 0 = ap (λ b. cond (not b) (1 + prefix_len (λ y. not (p y)) xs) 0) met in
        let whole : x ∷ xs ≡ [] = sym (ap (λ n. drop n (x ∷ xs)) none) ∙ is in absurd cc
    by false unmet others =
        let next : 1 + prefix_len (λ y. not (p y)) xs ≡ suc (prefix_len (λ y. not (p y)) xs) = omega arith in
        let more : prefix_len (λ y. not (p y)) (x ∷ xs) ≡ suc (prefix_len (λ y. not (p y)) xs) =
        ap (λ b. cond (not b) (1 + prefix_len (λ y. not (p y)) xs) 0) unmet ∙ next in
        let further : drop (prefix_len (λ y. not (p y)) xs) xs ≡ [] = sym (ap (λ n. drop n (x ∷ xs)) more) ∙ is in
        ap (λ b. cond b ([] ∷ slice_split p xs) (onto_first x (slice_split p xs))) unmet
        ∙ ap (onto_first x) (others further)

-- what stands behind the first is less
pub behind_less : (n : ℕ) (xs : List ℕ) (c : ℕ) (rest : List ℕ) → drop n xs ≡ c ∷ rest → length rest < length xs
behind_less n xs c rest is = let sizes : length (drop n xs) ≡ length (c ∷ rest) = ap length is in omega (arith, length-drop n xs)
