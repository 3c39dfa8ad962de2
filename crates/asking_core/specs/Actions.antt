-- Actions and what is given, as moves and what is told. This project.
use Rattle.std.specs.Prelude.{ℕ}
use Rattle.kept_values.specs.Trees.{Tree}
use Rattle.asking_core.specs.declared.machine.Given.{Given}
use Rattle.asking_core.specs.declared.machine.Given.TheVariants as given
use Rattle.asking_core.specs.declared.machine.Action.{Action}
use Rattle.asking_core.specs.declared.machine.Action.TheVariants as action
use Rattle.asking_core.specs.Machines.{Told, Nothing, Answered, Returned, TooDeep, Move, Ask, Put, Count, Bump, Emit, Deepen, Rise, Enter, At, Leave, End}

-- what is told
abbrev pub told_of : {V : Type 0} → (V → Tree) → Given V → Told
told_of value given.Nothing = Nothing
told_of value (given.Answer v) = Answered (value v)
told_of value given.Returned = Returned
told_of value given.TooDeep = TooDeep

-- the move that an action is
abbrev pub move_of : {K V C I D J : Type 0} → (K → Tree) → (V → Tree) → (C → Tree) → (Tree → D) → (I → J) → Action K V C I → Move D J
move_of key value code call item (action.Ask k) = Ask (key k)
move_of key value code call item (action.Put k v) = Put (key k) (value v)
move_of key value code call item action.Count = Count
move_of key value code call item action.Bump = Bump
move_of key value code call item (action.Emit i) = Emit (item i.value)
move_of key value code call item action.Deepen = Deepen
move_of key value code call item action.Rise = Rise
move_of key value code call item (action.Enter c) = Enter (call (code c))
move_of key value code call item (action.At n) = At n
move_of key value code call item action.Leave = Leave
move_of key value code call item action.End = End

-- how often a step ticks
abbrev pub ticks_of : {K V C I : Type 0} → Action K V C I → ℕ
ticks_of action.Count = 1
ticks_of (action.Ask k) = 0
ticks_of (action.Put k v) = 0
ticks_of action.Bump = 0
ticks_of (action.Emit i) = 0
ticks_of action.Deepen = 0
ticks_of action.Rise = 0
ticks_of (action.Enter c) = 0
ticks_of (action.At n) = 0
ticks_of action.Leave = 0
ticks_of action.End = 0
