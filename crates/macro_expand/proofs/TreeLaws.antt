-- How far one tree of questions, and then another, leads.
use Rattle.std.proofs.Common.{◌≡◌, ◌∙◌, Option, Some, None, refl, ap}
use Rattle.plain_expansion.specs.Questions.{Asking, done, needs, and_then, Led, Comes, Wants, led_by, led_on}

-- what follows on what was led to
abbrev pub led_then : {K V A B : Type 0} → (K → Option V) → (A → Asking K V B) → Led K A → Led K B
led_then told next (Comes result) = led_by told (next result)
led_then told next (Wants key) = Wants key

module _ {K V A B : Type 0} (told : K → Option V) (next : A → Asking K V B) where
  then_on : (key : K) (one : V → Led K A) (other : V → Led K B) (o : Option V) → ((v : V) → other v ≡ led_then told next (one v)) →
      led_on key other o ≡ led_then told next (led_on key one o)
  then_on key one other None same = refl
  then_on key one other (Some v) same = same v

  pub led_and_then : (tree : Asking K V A) → led_by told (and_then tree next) ≡ led_then told next (led_by told tree)
  led_and_then (done result) = refl
  led_and_then (needs key rest) =
      then_on key (λ v. led_by told (rest v)) (λ v. led_by told (and_then (rest v) next)) (told key) (λ v. led_and_then (rest v))

  -- a result that was led to, and a key that was
  pub then-comes : (tree : Asking K V A) (result : A) → led_by told tree ≡ Comes result → led_by told (and_then tree next) ≡ led_by told (next result)
  then-comes tree result is = led_and_then tree ∙ ap (led_then told next) is

  pub then-wants : (tree : Asking K V A) (key : K) → led_by told tree ≡ Wants key → led_by told (and_then tree next) ≡ Wants key
  then-wants tree key is = led_and_then tree ∙ ap (led_then told next) is
