-- The front of a text that belongs to the operand field.
use Rattle.std.proofs.Common.{◌≡◌, ℕ, ◌+◌, true, false, List, [], ◌∷◌, length, take, refl, sym, ap, add-one}
use Rattle.std.proofs.lemmas.Bool.{cases_Bool}
use Rattle.std.proofs.Common.{inl, inr}
use Rattle.conditional_fields.specs.Endings.{ended, ends_here}

-- it ends here
pub ended-here : (before rest : List ℕ) (c : ℕ) → ends_here c before ≡ true → length (ended before (c ∷ rest)) ≡ 0
ended-here before rest c h = rw h refl

-- it goes on
pub ended-on : (before rest : List ℕ) (c : ℕ) → ends_here c before ≡ false → length (ended before (c ∷ rest)) ≡ length (ended (c ∷ before) rest) + 1
ended-on before rest c h = rw h (sym (add-one (length (ended (c ∷ before) rest))))

-- it is a front
pub ended-front : (before text : List ℕ) → take (length (ended before text)) text ≡ ended before text
ended-front before [] = refl
ended-front before (c ∷ rest) = elim (cases_Bool (ends_here c before)) [
  | inl h ↦ rw h refl
  | inr h ↦ rw h (ap (λ xs. c ∷ xs) (ended-front (c ∷ before) rest))
]
