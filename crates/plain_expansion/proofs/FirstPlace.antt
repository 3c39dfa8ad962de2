-- The first of a list.
use Rattle.std.proofs.Common.{◌≡◌, ◌<◌, ℕ, zero, suc, ◌+◌, Bool, true, false, cond, List, [], ◌∷◌, Option, Some, None, refl, sym, ap, ◌∙◌, arith, slice_get}
use Rattle.std.specs.Prelude.{option_map}
use Rattle.plain_expansion.specs.Expansion.{first_where}
use Rattle.plain_expansion.specs.Laws.{IsFirst}

module _ (S : Type 0) (holds : S → Bool) where
  here : (s : S) (ss : List S) → holds s ≡ true → IsFirst holds (s ∷ ss) (Some 0)
  here s ss is = ((s, refl, is), λ n t less found. absurd (omega arith))

  later : (s : S) (ss : List S) (o : Option ℕ) → holds s ≡ false → IsFirst holds ss o → IsFirst holds (s ∷ ss) (option_map (λ n. n + 1) o)
  later s ss None is rest = λ n t found. at_none n t found
    where
      at_none : (n : ℕ) (t : S) → slice_get (s ∷ ss) n ≡ Some t → holds t ≡ false
      at_none zero t found = let one : s ≡ t = cc in ap holds (sym one) ∙ is
      at_none (suc n) t found = rest n t found
  later s ss (Some m) is rest = (at_place, below)
    where
      next : m + 1 ≡ suc m
      next = omega arith

      at_place : (t : S) × (slice_get (s ∷ ss) (m + 1) ≡ Some t) × (holds t ≡ true)
      at_place = (rest.0.0, ap (slice_get (s ∷ ss)) next ∙ rest.0.1, rest.0.2)

      below : (n : ℕ) (t : S) → n < m + 1 → slice_get (s ∷ ss) n ≡ Some t → holds t ≡ false
      below zero t less found = let one : s ≡ t = cc in ap holds (sym one) ∙ is
      below (suc n) t less found = let fewer : n < m = omega arith in rest.1 n t fewer found

  step : (s : S) (ss : List S) (b : Bool) → holds s ≡ b → IsFirst holds ss (first_where holds ss) →
      IsFirst holds (s ∷ ss) (cond b (Some 0) (option_map (λ n. n + 1) (first_where holds ss)))
  step s ss true is rest = here s ss is
  step s ss false is rest = later s ss (first_where holds ss) is rest

  pub first-is : (list : List S) → IsFirst holds list (first_where holds list)
  first-is [] = λ n s found. cc
  first-is (s ∷ ss) = step s ss (holds s) refl (first-is ss)
