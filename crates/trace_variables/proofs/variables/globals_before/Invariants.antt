use Rattle.std.proofs.Common.{◌≡◌, ◌<◌, length, map, take}
use Rattle.trace_arena.specs.Points.{points}
use Rattle.trace_cursor.specs.Places.{StandsAt}
use Rattle.trace_variables.specs.Values.{global_values}
use Rattle.trace_variables.specs.Seen.{seen}
use Rattle.trace_variables.proofs.variables.globals_before.Given as goal

-- the cursor stands at the first point that was not passed, if there is one, and the values are those of the points before it
abbrev pub invariant-loop : goal.invariant-loop
invariant-loop l =
    StandsAt l.arena.nodes l.cursor × (l.cursor.root ≡ l.fn.root)
    × (l.counter < length (points l.arena.nodes l.fn.root.0) → l.cursor.index ≡ l.counter)
    × (seen l.values ≡ global_values (map (λ p. p.item) (take l.counter (points l.arena.nodes l.fn.root.0))))
