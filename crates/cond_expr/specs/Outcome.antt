-- What an evaluation comes to: a value with its notes, or the first key that is needed and has no answer. This project.
use Rattle.std.specs.Prelude.{◌≡◌, List, [], ◌++◌, Option, Some, None, Result, Ok, Err}
use Rattle.hl_base.specs.declared.note.Note.{Note}
use Rattle.hl_base.specs.declared.set.Key.{Key}
use Rattle.cond_expr.specs.declared.stop.Stop.{Stop}
use Rattle.cond_expr.specs.declared.stop.Stop.TheVariants.{Asked, OutOfMemory}

pub data Outcome (V : Type 0) : Type 0 where
  Gives : (value : V) (notes : List Note) → Outcome V
  Asks : (key : Key) → Outcome V

-- a value without a note
abbrev pub gives : {V : Type 0} → V → Outcome V
gives value = Gives value []

-- these notes, and then those of the outcome
abbrev pub noting : {V : Type 0} → List Note → Outcome V → Outcome V
noting notes (Gives value more) = Gives value (notes ++ more)
noting notes (Asks key) = Asks key

-- one evaluation and then another, which knows the first one's value
abbrev pub and_then : {V W : Type 0} → Outcome V → (V → Outcome W) → Outcome W
and_then (Gives value notes) next = noting notes (next value)
and_then (Asks key) next = Asks key

-- the key that an evaluation asks
abbrev pub asked_by : {V : Type 0} → Outcome V → Option Key
asked_by (Gives value notes) = None
asked_by (Asks key) = Some key

-- How a call that evaluates tells its outcome: the value, with its notes behind those that were there; or the key that it
-- asks. Only want of memory is free.
abbrev pub Tells : {V : Type 0} → Outcome V → List Note → List Note → Result V Stop → Type 0
Tells (Gives value notes) before after (Ok result) = (result ≡ value) × (after ≡ before ++ notes)
Tells (Gives value notes) before after (Err (Asked key)) = ⊥
Tells (Gives value notes) before after (Err OutOfMemory) = Unit {0}
Tells (Asks wanted) before after (Ok result) = ⊥
Tells (Asks wanted) before after (Err (Asked key)) = key ≡ wanted
Tells (Asks wanted) before after (Err OutOfMemory) = Unit {0}
