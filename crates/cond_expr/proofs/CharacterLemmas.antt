-- Copies of a text, and what is cut off.
use Rattle.std.proofs.Common.{◌≡◌, ◌∙◌, ◌<◌, ◌≤◌, ◌+◌, ◌-◌, ◌*◌, ◌/◌, ℕ, zero, suc, min, ◌⊎◌, List, [], ◌∷◌, ◌++◌, length, take, true, cond, nat_lt, refl, sym, ap, inl, inr, append_assoc, length-append, arith}
use Rattle.std.proofs.lemmas.List.{append-nil, take-append-le}
use Rattle.std.proofs.lemmas.Bool.{cases_lt}
use Rattle.cond_expr.specs.Outcome.{Gives, gives}
use Rattle.cond_expr.specs.Troubles.{too_long}
use Rattle.cond_expr.specs.Characters.{repeated, limited}

pub repeated-empty : (n : ℕ) (text : List ℕ) → length text ≡ 0 → repeated n text ≡ []
unfolding repeated
repeated-empty zero text none = refl
repeated-empty (suc n) [] none = repeated-empty n [] none
repeated-empty (suc n) (c ∷ cs) none = absurd (omega arith)

pub repeated-add : (m n : ℕ) (text : List ℕ) → repeated (m + n) text ≡ repeated m text ++ repeated n text
unfolding repeated
repeated-add zero n text = let same : zero + n ≡ n = omega arith in ap (λ k. repeated k text) same
repeated-add (suc m) n text =
    let same : suc m + n ≡ suc (m + n) = omega arith in
    ap (λ k. repeated k text) same ∙ ap (λ rest. text ++ rest) (repeated-add m n text) ∙ sym (append_assoc text (repeated m text) (repeated n text))

-- one copy more
pub repeated-more : (n : ℕ) (text : List ℕ) → repeated (n + 1) text ≡ repeated n text ++ text
unfolding repeated
repeated-more n text = repeated-add n 1 text ∙ ap (λ last. repeated n text ++ last) (append-nil text)

pub length-repeated : (n : ℕ) (text : List ℕ) → length (repeated n text) ≡ n * length text
unfolding repeated
length-repeated zero text = omega arith
length-repeated (suc n) text =
    let both = length-append text (repeated n text) in let rest = length-repeated n text in
    omega (arith, both, rest)

-- what stands behind 1,024 characters is cut off
limited-append : (a b : List ℕ) → 1024 < length a → limited (a ++ b) ≡ limited a
limited-append a b long =
    let whole : 1024 < length (a ++ b) = omega (arith, length-append a b) in
    let first : nat_lt 1024 (length a) ≡ true = grind arith in
    let all : nat_lt 1024 (length (a ++ b)) ≡ true = grind arith in
    let within : 1024 ≤ length a = omega arith in
    ap (λ t. cond t (Gives (take 1024 (a ++ b)) (too_long ∷ [])) (gives (a ++ b))) all
    ∙ ap (λ text. Gives text (too_long ∷ [])) (take-append-le 1024 a b within)
    ∙ sym (ap (λ t. cond t (Gives (take 1024 a) (too_long ∷ [])) (gives a)) first)

-- more copies than pass 1,024 characters show nothing more
limited-more : (m n : ℕ) (text : List ℕ) → 1024 < length (repeated m text) → limited (repeated m text) ≡ limited (repeated (m + n) text)
limited-more m n text long = sym (ap limited (repeated-add m n text) ∙ limited-append (repeated m text) (repeated n text) long)

-- one copy more than 1,024 characters have whole ones is enough
pub limited-enough : (count : ℕ) (text : List ℕ) → (length text ≡ 0 → ⊥) →
    limited (repeated (min count (1024 / length text + 1)) text) ≡ limited (repeated count text)
limited-enough count text some = by (cases_lt count (1024 / length text + 1))
  where
    by : (count < 1024 / length text + 1) ⊎ (1024 / length text + 1 ≤ count) →
        limited (repeated (min count (1024 / length text + 1)) text) ≡ limited (repeated count text)
    by (inl few) = let same : min count (1024 / length text + 1) ≡ count = omega arith in ap (λ k. limited (repeated k text)) same
    by (inr many) =
        let enough = 1024 / length text + 1 in
        let same : min count enough ≡ enough = omega arith in
        let all : count ≡ enough + (count - enough) = omega arith in
        let long : 1024 < length (repeated enough text) = omega (arith, length-repeated enough text) in
        ap (λ k. limited (repeated k text)) same
        ∙ limited-more enough (count - enough) text long
        ∙ ap (λ k. limited (repeated k text)) (sym all)
