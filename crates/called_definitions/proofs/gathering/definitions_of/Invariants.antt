use Rattle.std.proofs.Common.{◌≡◌, ◌<◌, length, take}
use Rattle.trace_arena.specs.Points.{points}
use Rattle.trace_cursor.specs.Places.{StandsAt}
use Rattle.called_definitions.specs.Called.{definitions_of}
use Rattle.called_definitions.specs.Told.{AreFound}
use Rattle.called_definitions.proofs.gathering.definitions_of.Given as goal

-- the cursor stands at the first point that was not passed, if there is one, and the definitions are those of the points that were
abbrev pub invariant-loop : goal.invariant-loop
invariant-loop g l =
    StandsAt l.arena.nodes l.cursor × (l.cursor.root ≡ l.fn.root)
    × (l.counter < length (points l.arena.nodes l.fn.root.0) → l.cursor.index ≡ l.counter)
    × AreFound (g.P.Present.members l.present) l.members
    × (l.known ≡ definitions_of l.texts (g.P.Present.members l.present) (take l.counter (points l.arena.nodes l.fn.root.0)))
