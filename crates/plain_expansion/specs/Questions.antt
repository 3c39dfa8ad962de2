-- What is worked out by asking, as a tree of questions. This project.
use Rattle.std.specs.Prelude.{◌≡◌, Option, Some, None}

-- a result that is there, or the key that is needed first, and what is left once it is answered
pub data Asking (K V A : Type 0) : Type 0 where
  done : (result : A) → Asking K V A
  needs : (key : K) (next : V → Asking K V A) → Asking K V A

-- one, and then another that knows its result
abbrev pub and_then : {K V A B : Type 0} → Asking K V A → (A → Asking K V B) → Asking K V B
and_then (done result) other = other result
and_then (needs key next) other = needs key (λ answer. and_then (next answer) other)

-- what it comes to where each key has an answer
abbrev pub result_by : {K V A : Type 0} → (K → V) → Asking K V A → A
result_by answer (done result) = result
result_by answer (needs key next) = result_by answer (next (answer key))

-- how far the answers that were given lead: to the end, or to the first key that has none
pub data Led (K A : Type 0) : Type 0 where
  Comes : (result : A) → Led K A
  Wants : (key : K) → Led K A

-- what lies behind a question, under the answer to it
abbrev pub led_on : {K V A : Type 0} → K → (V → Led K A) → Option V → Led K A
led_on key next None = Wants key
led_on key next (Some answer) = next answer

abbrev pub led_by : {K V A : Type 0} → (K → Option V) → Asking K V A → Led K A
led_by told (done result) = Comes result
led_by told (needs key next) = led_on key (λ answer. led_by told (next answer)) (told key)

-- some answers have all that others have
abbrev pub HasAll : {K V : Type 0} → (later told : K → Option V) → Type 0
HasAll {K} {V} later told = (key : K) (answer : V) → told key ≡ Some answer → later key ≡ Some answer

-- what has come to its end stays so, however many answers more there are
abbrev pub MoreChangesNothing : {K V A : Type 0} → Asking K V A → Type 0
MoreChangesNothing {K} {V} {A} tree = (told later : K → Option V) (result : A) → HasAll later told → led_by told tree ≡ Comes result →
    led_by later tree ≡ Comes result

-- it is the result where each answer that was given is the one that each key has
abbrev pub ComesToTheResult : {K V A : Type 0} → Asking K V A → Type 0
ComesToTheResult {K} {V} {A} tree = (answer : K → V) (told : K → Option V) (result : A) →
    ((key : K) (given : V) → told key ≡ Some given → given ≡ answer key) → led_by told tree ≡ Comes result → result ≡ result_by answer tree

-- what is asked was not answered
abbrev pub AsksOnlyTheMissing : {K V A : Type 0} → Asking K V A → Type 0
AsksOnlyTheMissing {K} {V} {A} tree = (told : K → Option V) (key : K) → led_by told tree ≡ Wants key → told key ≡ None

-- A tree comes to its end from these answers on, whatever is answered: each time with all that was answered before, and with
-- an answer to the key that it asks.
pub data Ends {K V A : Type 0} (tree : Asking K V A) : (K → Option V) → Type 0 where
  settled : (told : K → Option V) (result : A) → led_by told tree ≡ Comes result → Ends tree told
  unsettled : (told : K → Option V) (key : K) → led_by told tree ≡ Wants key →
      ((answer : V) (later : K → Option V) → HasAll later told → later key ≡ Some answer → Ends tree later) → Ends tree told

abbrev pub RestartsEnd : {K V A : Type 0} → Asking K V A → Type 0
RestartsEnd {K} {V} {A} tree = (told : K → Option V) → Ends tree told
