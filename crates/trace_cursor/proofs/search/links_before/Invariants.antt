use Rattle.std.proofs.Common.{◌-◌, ◌<◌, ◌≤◌, length}
use Rattle.trace_cursor.specs.Places.{link_at}
use Rattle.trace_cursor.proofs.search.links_before.Given as goal

-- the link before `low` has at most so many points before it, and the one at `high` has more
abbrev pub invariant-loop-low : goal.invariant-loop-low
invariant-loop-low l =
    (l.low ≤ l.high) × (l.high ≤ length l.links) × (0 < l.low → (link_at l.links (l.low - 1)).before ≤ l.rest)
    × (l.high < length l.links → l.rest < (link_at l.links l.high).before)

abbrev pub decreases-loop-low : goal.decreases-loop-low
decreases-loop-low l = l.high - l.low
