use Rattle.std.proofs.Common.{◌≡◌, ◌<◌, take, length}
use Rattle.trace_arena.specs.Points.{points}
use Rattle.trace_cursor.specs.Places.{StandsAt}
use Rattle.program_assembly.specs.Statements.{generated}
use Rattle.program_assembly.specs.Views.{lines_of}
use Rattle.program_names.proofs.statements.generated.Given as goal

-- the cursor stands at the first point that was not passed, and the statements of those before it are there
abbrev pub invariant-loop : goal.invariant-loop
invariant-loop l =
    StandsAt l.arena.nodes l.cursor
    × (l.cursor.root ≡ l.fn.root)
    × (l.counter < length (points l.arena.nodes l.fn.root.0) → l.cursor.index ≡ l.counter)
    × (lines_of l.lines.items ≡ generated (take l.counter (points l.arena.nodes l.fn.root.0)))
