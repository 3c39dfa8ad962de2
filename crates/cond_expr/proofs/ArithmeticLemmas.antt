-- What checked arithmetic answers is the number where it fits.
use Rattle.std.proofs.Common.{◌≡◌, ◌<◌, ◌≤◌, Bool, true, false, ℤ, pos, negsuc, Option, Some, None, refl, ap, cond, arith, rules}
use Rattle.std.specs.Prelude.{FitsSigned}
use Rattle.std.specs.Int.{w32}
use Rattle.std.specs.Option.{SomeIff}
use Rattle.std.proofs.lemmas.Bool.{ltb-true, ltb-false}
use Rattle.cond_expr.specs.Arithmetic as arithmetic
use Rattle.cond_expr.specs.Arithmetic.{fits}

fits_by : (b : Bool) (n : ℤ) → fits n ≡ b → (r : Option ℤ) → (b ≡ true → FitsSigned w32 n) → (b ≡ false → FitsSigned w32 n → ⊥) →
    SomeIff r (FitsSigned w32 n) n → r ≡ cond b (Some n) None
fits_by true n is None within beyond answer = absurd (answer (within refl))
fits_by true n is (Some m) within beyond answer = ap Some answer.1
fits_by false n is None within beyond answer = refl
fits_by false n is (Some m) within beyond answer = absurd (beyond refl answer.0)

pub FitsSigned-fits : (n : ℤ) → fits n ≡ true → FitsSigned w32 n
FitsSigned-fits (pos n) is = let low : n < 2147483648 = ltb-true n 2147483648 is in search rules
FitsSigned-fits (negsuc n) is = let low : n < 2147483648 = ltb-true n 2147483648 is in search rules

pub fits-FitsSigned : (n : ℤ) → fits n ≡ false → FitsSigned w32 n → ⊥
fits-FitsSigned (pos n) is fit = let high : 2147483648 ≤ n = ltb-false n 2147483648 is in omega (arith, fit)
fits-FitsSigned (negsuc n) is fit = let high : 2147483648 ≤ n = ltb-false n 2147483648 is in omega (arith, fit)

pub fitting : (r : Option ℤ) (n : ℤ) → SomeIff r (FitsSigned w32 n) n → r ≡ arithmetic.fitting n
fitting r n is = fits_by (fits n) n refl r (FitsSigned-fits n) (fits-FitsSigned n) is
