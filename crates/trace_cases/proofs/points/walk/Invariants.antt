use Rattle.std.proofs.Common.{◌≡◌}
use Rattle.trace_cursor.specs.Places.{StandsAt}
use Rattle.trace_cases.proofs.points.walk.Given as goal

-- the cursor stands at a point of the root
abbrev pub invariant-loop : goal.invariant-loop
invariant-loop l = StandsAt l.arena.nodes l.cursor × (l.cursor.root ≡ l.fn.root) × (l.arena ≡ l.fn.arena)
