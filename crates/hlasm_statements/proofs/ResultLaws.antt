-- What follows from what is so where a call succeeds.
use Rattle.std.proofs.Common.{◌≡◌, ◌∙◌, ℕ, sym}
use Rattle.std.specs.Prelude.{Result, Ok, Err, IfOk, OnOk, Option, Some, None, SomeIff}
use Rattle.std.proofs.lemmas.Option.{none-some}

pub OnOk-map : {T E : Type 0} {P Q : Type 0} (r : Result T E) → (P → Q) → OnOk r P → OnOk r Q
OnOk-map (Ok x) f h = f h
OnOk-map (Err e) f h = h

pub IfOk-map : {T E : Type 0} {P Q : T → Type 0} (r : Result T E) → ((x : T) → P x → Q x) → IfOk r P → IfOk r Q
IfOk-map (Ok x) f h = f x h
IfOk-map (Err e) f h = h

-- the number in an option that is there exactly where a fact holds
pub some_value : (P : Type 0) (o : Option ℕ) (v x : ℕ) → SomeIff o P v → o ≡ Some x → x ≡ v
some_value P None v x h e = absurd (none-some x e)
some_value P (Some y) v x h e = let same : y ≡ x = cc in sym same ∙ h.1
