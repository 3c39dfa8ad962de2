-- Texts that are put together in two ways.
use Rattle.std.proofs.Common.{◌≡◌, ◌∙◌, ℕ, zero, suc, ◌+◌, List, [], ◌∷◌, ◌++◌, length, take, drop, refl, sym, ap, arith, append_assoc, zero-add}
use Rattle.std.specs.Prelude.{slice_index}
use Rattle.std.proofs.lemmas.List.{take-append-drop}

-- the first part of one ends within that of the other, or goes beyond it
pub data Split (a b c d : List ℕ) : Type 0 where
  inside : (e : List ℕ) → c ≡ a ++ e → b ≡ e ++ d → Split a b c d
  beyond : (x : ℕ) (e : List ℕ) → a ≡ c ++ x ∷ e → d ≡ x ∷ (e ++ b) → Split a b c d

split-cons : (x y : ℕ) (a b c d : List ℕ) → x ≡ y → Split a b c d → Split (x ∷ a) b (y ∷ c) d
split-cons x y a b c d h (inside e p q) = inside e (ap (λ z. z ∷ c) (sym h) ∙ ap (λ l. x ∷ l) p) q
split-cons x y a b c d h (beyond z e p q) = beyond z e (ap (λ l. x ∷ l) p ∙ ap (λ w. w ∷ (c ++ z ∷ e)) h) q

pub split : (a b c d : List ℕ) → a ++ b ≡ c ++ d → Split a b c d
split [] b c d h = inside c refl h
split (x ∷ a) b [] d h = beyond x a refl (sym h)
split (x ∷ a) b (y ∷ c) d h =
    let head : x ≡ y = cc in
    let tails : a ++ b ≡ c ++ d = cc in
    split-cons x y a b c d head (split a b c d tails)

-- a part that goes beyond another, and what follows
pub seen : (text u tail f e : List ℕ) (x c : ℕ) → text ≡ u ++ tail → u ≡ f ++ x ∷ e → x ≡ c → text ≡ f ++ c ∷ (e ++ tail)
seen text u tail f e x c t is same =
    t ∙ ap (λ l. l ++ tail) is ∙ append_assoc f (x ∷ e) tail ∙ ap (λ y. f ++ y ∷ (e ++ tail)) same

pub take_over : (before rest : List ℕ) (m : ℕ) → take (length before + m) (before ++ rest) ≡ before ++ take m rest
take_over [] rest m = ap (λ k. take k rest) (zero-add m)
take_over (x ∷ before) rest m =
    let next : length (x ∷ before) + m ≡ suc (length before + m) = omega arith in
    ap (λ k. take k (x ∷ (before ++ rest))) next ∙ ap (λ l. x ∷ l) (take_over before rest m)

-- a text is cut at a character that it has
pub record IsCut (text : List ℕ) (n c : ℕ) : Type 0 where
  pub parts : text ≡ take n text ++ c ∷ drop (suc n) text
  pub count : length (take n text) ≡ n

pub cut : (text : List ℕ) (n : ℕ) → slice_index text n ≡ 41 → IsCut text n 41
cut [] zero h = absurd (omega arith)
cut [] (suc n) h = absurd (omega arith)
cut (x ∷ text) zero h = record { parts = ap (λ y. y ∷ text) h; count = refl }
cut (x ∷ text) (suc n) h =
    let r = cut text n h in
    let parts = r.parts in
    let count = r.count in
    record { parts = ap (λ l. x ∷ l) parts; count = omega arith }

pub nil-not : (d z : List ℕ) (c : ℕ) → [] ≡ d ++ c ∷ z → ⊥
nil-not [] z c h = cc
nil-not (x ∷ d) z c h = cc

pub none-left : (z : List ℕ) → length z ≡ 0 → z ≡ []
none-left [] h = refl
none-left (x ∷ z) h = absurd (omega arith)

pub some-left : (z : List ℕ) → (length z ≡ 0 → ⊥) → z ≡ [] → ⊥
some-left z h e = h (ap length e)

pub rejoin : (text : List ℕ) (n : ℕ) → text ≡ take n text ++ drop n text
rejoin text n = sym (take-append-drop n text)
