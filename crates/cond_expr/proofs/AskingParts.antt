-- Evaluations along trees of questions, one part after the other.
use Rattle.std.proofs.Common.{◌≡◌, ◌∙◌, refl, List, ◌++◌, Bool, true, false, Option, Some, None, sym, ap}
use Rattle.std.specs.Prelude.{if◌then◌else◌}
use Rattle.std.specs.Option.{option_map_or}
use Rattle.hl_base.specs.declared.note.Note.{Note}
use Rattle.hl_base.specs.declared.set.Key.{Key}
use Rattle.hl_base.specs.declared.set.Answer.{Answer}
use Rattle.cond_expr.specs.declared.lookups.Found.{Found}
use Rattle.cond_expr.specs.declared.lookups.Found.TheVariants.{Ask}
use Rattle.cond_expr.specs.Outcome.{Outcome, Gives, Asks, noting, and_then as outcome_and_then}
use Rattle.cond_expr.specs.Asking.{Asking, done, needs, and_then, Noted, Answers, told, outcome, IsAsking}
use Rattle.cond_expr.specs.Frames.{Standing, found_of, found_told, found_by}

-- a value, with notes before those that are there
abbrev noted_behind : {V : Type 0} → List Note → Noted V → Asking (Noted V)
noted_behind notes noted = done (record { value = noted.value; notes = notes ++ noted.notes })

-- one evaluation, and then another that knows its value
abbrev pub then_noted : {V W : Type 0} → Asking (Noted V) → (V → Asking (Noted W)) → Asking (Noted W)
then_noted first next = and_then first (λ noted. and_then (next noted.value) (noted_behind noted.notes))

told_noting : {V : Type 0} (key : Key) (notes : List Note) (f g : Answer → Outcome V) (found : Option Answer) → ((answer : Answer) → f answer ≡ noting notes (g answer)) →
    told key f found ≡ noting notes (told key g found)
told_noting key notes f g None each = refl
told_noting key notes f g (Some answer) each = each answer

outcome_noting : {V : Type 0} (answers : Answers) (notes : List Note) (tree : Asking (Noted V)) →
    outcome answers (and_then tree (noted_behind notes)) ≡ noting notes (outcome answers tree)
outcome_noting answers notes (done noted) = refl
outcome_noting answers notes (needs key next) =
    told_noting key notes (λ a. outcome answers (and_then (next a) (noted_behind notes))) (λ a. outcome answers (next a)) (answers key)
    (λ a. outcome_noting answers notes (next a))

told_then : {V W : Type 0} (key : Key) (next : V → Outcome W) (f : Answer → Outcome W) (g : Answer → Outcome V) (found : Option Answer) →
    ((answer : Answer) → f answer ≡ outcome_and_then (g answer) next) → told key f found ≡ outcome_and_then (told key g found) next
told_then key next f g None each = refl
told_then key next f g (Some answer) each = each answer

outcome_then : {V W : Type 0} (answers : Answers) (first : Asking (Noted V)) (next : V → Asking (Noted W)) →
    outcome answers (then_noted first next) ≡ outcome_and_then (outcome answers first) (λ value. outcome answers (next value))
outcome_then answers (done noted) next = outcome_noting answers noted.notes (next noted.value)
outcome_then answers (needs key more) next =
    told_then key (λ value. outcome answers (next value)) (λ a. outcome answers (then_noted (more a) next)) (λ a. outcome answers (more a)) (answers key)
    (λ a. outcome_then answers (more a) next)

then_alike : {V W : Type 0} (first : Outcome V) (f g : V → Outcome W) → ((value : V) → f value ≡ g value) → outcome_and_then first f ≡ outcome_and_then first g
then_alike (Gives value notes) f g each = ap (noting notes) (each value)
then_alike (Asks key) f g each = refl

-- ---- the parts

-- a value that needs nothing
pub gives-asks : {V : Type 0} (value : V) (notes : List Note) → IsAsking (λ answers. Gives value notes)
gives-asks value notes = record { tree = done (record { value = value; notes = notes }); is = λ answers. refl }

-- one, and then another that knows its value
pub then-asks : {V W : Type 0} (first : Answers → Outcome V) (next : Answers → V → Outcome W) → IsAsking first → ((value : V) → IsAsking (λ answers. next answers value)) →
    IsAsking (λ answers. outcome_and_then (first answers) (next answers))
then-asks first next one other = record {
  tree = then_noted one.tree (λ value. (other value).tree);
  is = λ answers. ap (λ o. outcome_and_then o (next answers)) (one.is answers)
      ∙ then_alike (outcome answers one.tree) (next answers) (λ value. outcome answers (other value).tree) (λ value. (other value).is answers)
      ∙ sym (outcome_then answers one.tree (λ value. (other value).tree));
}

-- an answer
pub answer-asks : {V : Type 0} (key : Key) (next : Answer → Asking (Noted V)) (evaluation : Answers → Option Answer → Outcome V) →
    ((answers : Answers) (found : Option Answer) → evaluation answers found ≡ told key (λ answer. outcome answers (next answer)) found) →
    IsAsking (λ answers. evaluation answers (answers key))
answer-asks key next evaluation is = record { tree = needs key next; is = λ answers. is answers (answers key) }

-- one of two, by a test
pub test-asks : {V : Type 0} (b : Bool) (x y : Answers → Outcome V) → IsAsking x → IsAsking y → IsAsking (λ answers. if b then x answers else y answers)
test-asks true x y one other = one
test-asks false x y one other = other

-- what is made of something, if it is there
pub option-asks : {A V : Type 0} (found : Option A) (make : Answers → A → Outcome V) (nothing : Outcome V) → ((value : A) → IsAsking (λ answers. make answers value)) → IsAsking (λ answers. nothing) →
    IsAsking (λ answers. option_map_or (make answers) found nothing)
option-asks None make nothing some none = none
option-asks (Some value) make nothing some none = some value

told_found : {V : Type 0} (key : Key) (evaluation : Found → Outcome V) (f : Answer → Found) (g : Answer → Outcome V) (found : Option Answer) → evaluation (Ask key) ≡ Asks key →
    ((answer : Answer) → evaluation (f answer) ≡ g answer) → evaluation (found_told key f found) ≡ told key g found
told_found key evaluation f g None asks each = asks
told_found key evaluation f g (Some answer) asks each = each answer

found_is : {V : Type 0} (evaluation : Answers → Found → Outcome V) (asks : (answers : Answers) (key : Key) → evaluation answers (Ask key) ≡ Asks key)
    (stands : (standing : Standing) → IsAsking (λ answers. evaluation answers (found_of standing))) (answers : Answers) (tree : Asking Standing) →
    evaluation answers (found_by answers tree) ≡ outcome answers (and_then tree (λ standing. (stands standing).tree))
found_is evaluation asks stands answers (done standing) = (stands standing).is answers
found_is evaluation asks stands answers (needs key next) =
    told_found key (evaluation answers) (λ a. found_by answers (next a)) (λ a. outcome answers (and_then (next a) (λ standing. (stands standing).tree))) (answers key)
    (asks answers key) (λ a. found_is evaluation asks stands answers (next a))

-- what a variable symbol stands for
pub found-asks : {V : Type 0} (evaluation : Answers → Found → Outcome V) (tree : Asking Standing) → ((answers : Answers) (key : Key) → evaluation answers (Ask key) ≡ Asks key) →
    ((standing : Standing) → IsAsking (λ answers. evaluation answers (found_of standing))) → IsAsking (λ answers. evaluation answers (found_by answers tree))
found-asks evaluation tree asks stands = record {
  tree = and_then tree (λ standing. (stands standing).tree);
  is = λ answers. found_is evaluation asks stands answers tree;
}
