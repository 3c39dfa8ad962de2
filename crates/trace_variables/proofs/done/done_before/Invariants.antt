use Rattle.std.proofs.Common.{◌≡◌, ◌<◌, length, map, take}
use Rattle.trace_arena.specs.Points.{points}
use Rattle.trace_cursor.specs.Places.{StandsAt}
use Rattle.trace_variables.specs.Calls.{done_before}
use Rattle.trace_variables.proofs.done.done_before.Given as goal

-- the cursor stands at the first point that was not passed, if there is one, and what was done is what the call had done there
abbrev pub invariant-loop : goal.invariant-loop
invariant-loop l =
    StandsAt l.arena.nodes l.cursor × (l.cursor.root ≡ l.fn.root)
    × (l.counter < length (points l.arena.nodes l.fn.root.0) → l.cursor.index ≡ l.counter)
    × (map (λ i. i.now) l.done.items ≡ done_before l.level (take l.counter (points l.arena.nodes l.fn.root.0)))
