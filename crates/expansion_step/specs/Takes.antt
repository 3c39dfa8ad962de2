-- An action of code is the move of the model, and the call stands at the next place. This project.
use Rattle.std.specs.Prelude.{◌≡◌}
use Rattle.asking_core.specs.Machines.{Ask}
use Rattle.asking_core.specs.Actions.{move_of}
use Rattle.plain_expansion.specs.Language.{Language}
use Rattle.plain_expansion.specs.Engine as engine
use Rattle.plain_expansion.specs.Engine.{Ready, next_place}
use Rattle.expansion_step.specs.declared.stack.Stack.{Stack}
use Rattle.expansion_step.specs.declared.phase.Entrance.{Entrance}
use Rattle.expansion_step.specs.declared.phase.Opened.{Opened}
use Rattle.expansion_step.specs.declared.phase.Opened.TheVariants.{Asks, Begins}
use Rattle.expansion_step.specs.declared.phase.Taken.{Taken}
use Rattle.expansion_step.specs.Meaning.{Means, stack_by}
use Rattle.expansion_step.specs.Places.{phase_by, entrance_by}

-- from a place where nothing is waited for, and with the stack that is left
pub record Takes {L : Language} {T B N D S I C K V : Type 0} (m : Means L T B N D S I C K V) (r : Ready L.words L.Item) (x : Stack T N)
    (t : Taken T C K V I) : Type 0 where
  pub action : move_of m.key m.value m.code m.call_of m.reads.item t.action ≡ engine.move_of L r
  pub place : phase_by m (stack_by m x) t.phase ≡ next_place L r

-- a key is asked at the entry of a call
pub record AsksNext {L : Language} {T B N D S I C K V : Type 0} (m : Means L T B N D S I C K V) (r : Ready L.words L.Item)
    (e : Entrance C K V) (key : K) : Type 0 where
  pub action : Ask (m.key key) ≡ engine.move_of L r
  pub place : entrance_by m e ≡ next_place L r

-- at the entry of a call, with what is left of it
abbrev pub Opens : {L : Language} {T B N D S I C K V : Type 0} → Means L T B N D S I C K V → Ready L.words L.Item → Entrance C K V →
    Opened T N C K V I → Type 0
Opens m r e (Asks key) = AsksNext m r e key
Opens m r e (Begins x taken) = Takes m r x taken
