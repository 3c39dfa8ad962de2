use Rattle.std.proofs.Common.{◌≡◌, ◌<◌, length, take}
use Rattle.trace_arena.specs.Points.{points}
use Rattle.trace_cursor.specs.Places.{StandsAt}
use Rattle.program_occurrences.proofs.WalkLaws.{IsKept}
use Rattle.program_occurrences.proofs.walk.occurrences.Given as goal

-- the cursor stands at the first point that was not passed, if there is one, and what is kept is that of the points that were
abbrev pub invariant-loop : goal.invariant-loop
invariant-loop g l =
    StandsAt l.arena.nodes l.cursor × (l.cursor.root ≡ l.fn.root)
    × (l.counter < length (points l.arena.nodes l.fn.root.0) → l.cursor.index ≡ l.counter)
    × IsKept l.texts l.definitions (g.P.Present.members l.present) (take l.counter (points l.arena.nodes l.fn.root.0)) l.walk.calls l.walk.symbols l.walk.kept
