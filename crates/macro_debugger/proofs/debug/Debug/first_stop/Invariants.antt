use Rattle.std.proofs.Common.{◌≡◌, ◌<◌, drop, length}
use Rattle.trace_arena.specs.Points.{points}
use Rattle.trace_cursor.specs.Places.{StandsAt}
use Rattle.macro_debugger.specs.Stops.{reason_at, first_stop}
use Rattle.macro_debugger.proofs.debug.Debug.first_stop.Given as goal

-- the cursor stands at the first point that was not passed, and the search from there comes to what it comes to from the first
abbrev pub invariant-loop-index : goal.invariant-loop-index
invariant-loop-index l =
    StandsAt l.arena.nodes l.cursor
    × (l.cursor.root ≡ l.self.root)
    × (l.index < length (points l.arena.nodes l.self.root.0) → l.cursor.index ≡ l.index)
    × (first_stop (reason_at l.self.breakpoints l.rule l.from) l.index (drop l.index (points l.arena.nodes l.self.root.0))
    ≡ first_stop (reason_at l.self.breakpoints l.rule l.from) l.first (drop l.first (points l.arena.nodes l.self.root.0)))
