-- Lists that begin or end alike.
use Rattle.std.proofs.Common.{◌≡◌, ℕ, zero, suc, ◌-◌, ◌<◌, ◌≤◌, ◌⊎◌, inl, inr, List, [], ◌∷◌, ◌++◌, length, take, refl, sym, ◌∙◌, ap, arith, length-append}

-- Where two fronts of one list end: the one goes on to the other.
pub fronts : (a b c d : List ℕ) → a ++ b ≡ c ++ d → ((z : List ℕ) × (c ≡ a ++ z) × (b ≡ z ++ d)) ⊎ ((z : List ℕ) × (a ≡ c ++ z) × (d ≡ z ++ b))
fronts [] b c d e = inl (c, refl, e)
fronts (x ∷ a) b [] d e = inr (x ∷ a, refl, sym e)
fronts (x ∷ a) b (y ∷ c) d e =
    let first : x ≡ y = cc in
    let others : a ++ b ≡ c ++ d = cc in
    elim (fronts a b c d others) [
      | inl l ↦ inl (l.0, (let is = l.1 in cc), l.2)
      | inr r ↦ inr (r.0, (let is = r.1 in cc), r.2)
    ]

-- two lists that are nothing together
pub nil_front : (a b : List ℕ) → a ++ b ≡ [] → (a ≡ []) × (b ≡ [])
nil_front [] b e = (refl, e)
nil_front (x ∷ a) b e = absurd cc

-- fronts of one length of the same list
pub same_length : (a b c d : List ℕ) → length a ≡ length c → a ++ b ≡ c ++ d → (a ≡ c) × (b ≡ d)
same_length [] b [] d l e = (refl, e)
same_length [] b (y ∷ c) d l e = absurd (omega arith)
same_length (x ∷ a) b [] d l e = absurd (omega arith)
same_length (x ∷ a) b (y ∷ c) d l e =
    let others = same_length a b c d (omega arith) (let f : a ++ b ≡ c ++ d = cc in f) in
    ((let is = others.0 in cc), others.1)

-- a front that goes past the first of two lists
pub take-past : (f z : List ℕ) (k : ℕ) → length f ≤ k → take k (f ++ z) ≡ f ++ take (k - length f) z
take-past [] z k le = let e : k ≡ k - 0 = omega arith in ap (λ n. take n z) e
take-past (x ∷ f) z zero le = absurd (omega arith)
take-past (x ∷ f) z (suc k) le =
    let e : k - length f ≡ suc k - suc (length f) = omega arith in
    ap (λ t. x ∷ t) (take-past f z k (omega arith) ∙ ap (λ n. f ++ take n z) e)

-- the last element of a list that has one
pub last_of : (xs : List ℕ) → 0 < length xs → (ys : List ℕ) × (y : ℕ) × (xs ≡ ys ++ y ∷ [])
last_of [] some = absurd (omega arith)
last_of (x ∷ []) some = ([], x, refl)
last_of (x ∷ (z ∷ zs)) some =
    let others = last_of (z ∷ zs) (omega arith) in
    (x ∷ others.0, others.1, ap (λ t. x ∷ t) others.2)

-- lists with one last element
pub same_last : (xs ys : List ℕ) (x y : ℕ) → xs ++ x ∷ [] ≡ ys ++ y ∷ [] → (xs ≡ ys) × (x ≡ y)
same_last xs ys x y e =
    let size : length xs ≡ length ys = omega (arith, ap length e, length-append xs (x ∷ []), length-append ys (y ∷ [])) in
    let parts = same_length xs (x ∷ []) ys (y ∷ []) size e in
    (parts.0, (let last = parts.1 in cc))
