-- What passes a test from the front of a list on, and what is behind it.
use Rattle.std.proofs.Common.{◌≡◌, ◌∙◌, ℕ, ◌+◌, ◌<◌, ◌≤◌, Bool, true, false, cond, not, Option, Some, None, List, [], ◌∷◌, ◌++◌, length, take, drop, zero, suc, refl, sym, ap, inl, inr, arith}
use Rattle.std.specs.Prelude.{take_while, ◌==◌, nat_lt, position}
use Rattle.std.specs.List.{prefix_len, position_or_len}
use Rattle.std.proofs.lemmas.Bool.{cases_Bool, true≢false, ltb-false}
use Rattle.std.proofs.lemmas.List.Sums.{prefix_len-le-length}
use Rattle.std.proofs.lemmas.List.Folds.{length-prefix_len}
use Rattle.hlasm_statements.specs.Shape.{skip_while}

pub one_more : (n : ℕ) → 1 + n ≡ suc n
one_more n = omega arith

pub take_while-pass : {X : Type 0} (p : X → Bool) (x : X) (xs : List X) → p x ≡ true → take_while p (x ∷ xs) ≡ x ∷ take_while p xs
take_while-pass p x xs passes = rw (passes, one_more (prefix_len p xs)) refl

pub take_while-stop : {X : Type 0} (p : X → Bool) (x : X) (xs : List X) → p x ≡ false → take_while p (x ∷ xs) ≡ []
take_while-stop p x xs stops = rw stops refl

pub skip_while-pass : {X : Type 0} (p : X → Bool) (x : X) (xs : List X) → p x ≡ true → skip_while p (x ∷ xs) ≡ skip_while p xs
skip_while-pass p x xs passes = rw (passes, one_more (prefix_len p xs)) refl

pub skip_while-stop : {X : Type 0} (p : X → Bool) (x : X) (xs : List X) → p x ≡ false → skip_while p (x ∷ xs) ≡ x ∷ xs
skip_while-stop p x xs stops = rw stops refl

-- where something is behind, it goes on there
pub skip_while-append : {X : Type 0} (p : X → Bool) (xs tail : List X) → 0 < length (skip_while p xs) → skip_while p (xs ++ tail) ≡ skip_while p xs ++ tail
skip_while-append p [] tail some = absurd (omega arith)
skip_while-append p (x ∷ xs) tail some = elim (cases_Bool (p x)) [
  | inl passes ↦
      skip_while-pass p x (xs ++ tail) passes
      ∙ skip_while-append p xs tail (omega (arith, ap length (skip_while-pass p x xs passes)))
      ∙ ap (λ ys. ys ++ tail) (sym (skip_while-pass p x xs passes))
  | inr stops ↦ skip_while-stop p x (xs ++ tail) stops ∙ ap (λ ys. ys ++ tail) (sym (skip_while-stop p x xs stops))
]

pub take_while-append : {X : Type 0} (p : X → Bool) (xs tail : List X) → 0 < length (skip_while p xs) → take_while p (xs ++ tail) ≡ take_while p xs
take_while-append p [] tail some = absurd (omega arith)
take_while-append p (x ∷ xs) tail some = elim (cases_Bool (p x)) [
  | inl passes ↦
      take_while-pass p x (xs ++ tail) passes
      ∙ ap (λ ys. x ∷ ys) (take_while-append p xs tail (omega (arith, ap length (skip_while-pass p x xs passes))))
      ∙ sym (take_while-pass p x xs passes)
  | inr stops ↦ take_while-stop p x (xs ++ tail) stops ∙ sym (take_while-stop p x xs stops)
]

-- where nothing is behind, it goes on in what follows
pub skip_while-append_all : {X : Type 0} (p : X → Bool) (xs tail : List X) → length (skip_while p xs) ≡ 0 → skip_while p (xs ++ tail) ≡ skip_while p tail
skip_while-append_all p [] tail none = refl
skip_while-append_all p (x ∷ xs) tail none = elim (cases_Bool (p x)) [
  | inl passes ↦
      skip_while-pass p x (xs ++ tail) passes
      ∙ skip_while-append_all p xs tail (omega (arith, ap length (skip_while-pass p x xs passes)))
  | inr stops ↦ absurd (omega (arith, ap length (skip_while-stop p x xs stops)))
]

pub take_while-append_all : {X : Type 0} (p : X → Bool) (xs tail : List X) → length (skip_while p xs) ≡ 0 → take_while p (xs ++ tail) ≡ take_while p xs ++ take_while p tail
take_while-append_all p [] tail none = refl
take_while-append_all p (x ∷ xs) tail none = elim (cases_Bool (p x)) [
  | inl passes ↦
      take_while-pass p x (xs ++ tail) passes
      ∙ ap (λ ys. x ∷ ys) (take_while-append_all p xs tail (omega (arith, ap length (skip_while-pass p x xs passes))))
      ∙ ap (λ ys. ys ++ take_while p tail) (sym (take_while-pass p x xs passes))
  | inr stops ↦ absurd (omega (arith, ap length (skip_while-stop p x xs stops)))
]

-- by their number
pub take_counted : {X : Type 0} (p : X → Bool) (xs : List X) (n : ℕ) → n ≡ length (take_while p xs) → take n xs ≡ take_while p xs
take_counted p xs n e = ap (λ k. take k xs) (e ∙ length-prefix_len p xs)

pub drop_counted : {X : Type 0} (p : X → Bool) (xs : List X) (n : ℕ) → n ≡ length (take_while p xs) → drop n xs ≡ skip_while p xs
drop_counted p xs n e = ap (λ k. drop k xs) (e ∙ length-prefix_len p xs)

-- a number that is not 0
pub above_zero : (n : ℕ) → (n == 0) ≡ false → 0 < n
above_zero zero h = absurd (true≢false h)
above_zero (suc n) h = omega arith

-- ---- how many pass a test at the front

pub length_found : {X : Type 0} (p : X → Bool) (xs : List X) (o : Option ℕ) (n : ℕ) → o ≡ position p xs → o ≡ Some n → n ≡ position_or_len p xs
length_found p xs o n is some = elim (cases_Bool (nat_lt (position_or_len p xs) (length xs))) [
  | inl within ↦
      let e : Some n ≡ Some (position_or_len p xs) = sym some ∙ is ∙ ap (λ b. cond b (Some (position_or_len p xs)) None) within in cc
  | inr past ↦
      let e : Some n ≡ None = sym some ∙ is ∙ ap (λ b. cond b (Some (position_or_len p xs)) None) past in absurd (cc)
]

pub length_all : {X : Type 0} (p : X → Bool) (xs : List X) (o : Option ℕ) → o ≡ position p xs → o ≡ None → length xs ≡ position_or_len p xs
length_all p xs o is none = elim (cases_Bool (nat_lt (position_or_len p xs) (length xs))) [
  | inl within ↦
      let e : None ≡ Some (position_or_len p xs) = sym none ∙ is ∙ ap (λ b. cond b (Some (position_or_len p xs)) None) within in absurd (cc)
  | inr past ↦
      let far : length xs ≤ position_or_len p xs = ltb-false _ _ past in
      omega (arith, far, prefix_len-le-length (λ x. not (p x)) xs)
]

-- what does not fail passes
pub prefix_len-twice : {X : Type 0} (p : X → Bool) (xs : List X) → prefix_len (λ x. not (not (p x))) xs ≡ prefix_len p xs
prefix_len-twice p [] = refl
prefix_len-twice p (x ∷ xs) = elim (cases_Bool (p x)) [
  | inl passes ↦ rw passes (ap (λ n. 1 + n) (prefix_len-twice p xs))
  | inr stops ↦ rw stops refl
]

pub prefix_len-pass : {X : Type 0} (p : X → Bool) (x : X) (xs : List X) → p x ≡ true → prefix_len p (x ∷ xs) ≡ suc (prefix_len p xs)
prefix_len-pass p x xs passes = rw (passes, one_more (prefix_len p xs)) refl

pub prefix_len-stop : {X : Type 0} (p : X → Bool) (x : X) (xs : List X) → p x ≡ false → prefix_len p (x ∷ xs) ≡ 0
prefix_len-stop p x xs stops = rw stops refl
