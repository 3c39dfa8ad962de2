-- The state that a world is in. This project.
use Rattle.std.specs.Prelude.{ℕ, List}
use Rattle.text_pool.specs.Members.{Member}
use Rattle.asking_core.specs.Counters.{round}
use Rattle.program_world.specs.World.{ProgramState}
use Rattle.program_world.specs.Puts.{held_by}
use Rattle.program_world.specs.declared.world.ProgramWorld.{ProgramWorld}

-- its parts, each by itself, where this says what members are found in what is present
abbrev pub state_of : {P : Type 0} → (P → List ℕ → Member) → ProgramWorld P → ProgramState
state_of members w = record {
  put = held_by w.puts;
  calls = round w.calls;
  depth = round w.depth;
  statement = w.statement;
  text = w.sources.text;
  parm = w.parm;
  members = members w.sources.present;
}
