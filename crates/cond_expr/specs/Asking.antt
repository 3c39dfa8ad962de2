-- Evaluations as trees of questions, and what whoever answers them has of it (this project). What is evaluated asks for one
-- answer after the other; it is begun again with each, and comes to its value once it has all.
use Rattle.std.specs.Prelude.{◌≡◌, List, Option, Some, None}
use Rattle.hl_base.specs.declared.note.Note.{Note}
use Rattle.hl_base.specs.declared.set.Key.{Key}
use Rattle.hl_base.specs.declared.set.Answer.{Answer}
use Rattle.cond_expr.specs.Outcome.{Outcome, Gives, Asks}

-- a result that is there, or the key that is needed first, and what is left once it is answered
pub data Asking (A : Type 0) : Type 0 where
  done : (result : A) → Asking A
  needs : (key : Key) (next : Answer → Asking A) → Asking A

-- one, and then another that knows its result
abbrev pub and_then : {A B : Type 0} → Asking A → (A → Asking B) → Asking B
and_then (done result) other = other result
and_then (needs key next) other = needs key (λ answer. and_then (next answer) other)

-- a value with its notes
pub record Noted (V : Type 0) : Type 0 where
  pub value : V
  pub notes : List Note

-- the answers that were given
abbrev pub Answers : Type 0
Answers = Key → Option Answer

-- what comes behind a question, under the answer to it
abbrev pub told : {V : Type 0} → Key → (Answer → Outcome V) → Option Answer → Outcome V
told key next None = Asks key
told key next (Some answer) = next answer

-- how far the answers lead: to the end, or to the first that is missing
abbrev pub outcome : {V : Type 0} → Answers → Asking (Noted V) → Outcome V
outcome answers (done noted) = Gives noted.value noted.notes
outcome answers (needs key next) = told key (λ answer. outcome answers (next answer)) (answers key)

-- an evaluation under the answers given goes along a tree of questions
pub record IsAsking {V : Type 0} (evaluation : Answers → Outcome V) : Type 0 where
  pub tree : Asking (Noted V)
  pub is : (answers : Answers) → evaluation answers ≡ outcome answers tree

-- some answers have all that others have
abbrev pub HasAll : (later answers : Answers) → Type 0
HasAll later answers = (key : Key) (answer : Answer) → answers key ≡ Some answer → later key ≡ Some answer

-- what has a value keeps it, however many answers more there are
abbrev pub MoreChangesNothing : {V : Type 0} → (Answers → Outcome V) → Type 0
MoreChangesNothing {V} evaluation = (answers later : Answers) (value : V) (notes : List Note) →
    HasAll later answers → evaluation answers ≡ Gives value notes → evaluation later ≡ Gives value notes

-- what is asked was not answered
abbrev pub AsksWhatIsMissing : {V : Type 0} → (Answers → Outcome V) → Type 0
AsksWhatIsMissing evaluation = (answers : Answers) (key : Key) → evaluation answers ≡ Asks key → answers key ≡ None

-- An evaluation comes to a value from these answers on, whatever is answered: each time with all that was answered before,
-- and with an answer to the key that it asks.
pub data Ends {V : Type 0} (evaluation : Answers → Outcome V) : Answers → Type 0 where
  settled : (answers : Answers) (value : V) (notes : List Note) → evaluation answers ≡ Gives value notes → Ends evaluation answers
  unsettled : (answers : Answers) (key : Key) → evaluation answers ≡ Asks key →
      ((answer : Answer) (later : Answers) → HasAll later answers → later key ≡ Some answer → Ends evaluation later) → Ends evaluation answers
