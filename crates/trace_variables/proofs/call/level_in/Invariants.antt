use Rattle.std.proofs.Common.{◌≡◌, length, reverse}
use Rattle.trace_cursor.specs.Pasts.{AreThere}
use Rattle.trace_variables.specs.Seen.{level_within, level_in}
use Rattle.trace_variables.proofs.call.level_in.Given as goal

-- the level is that among the places that are left
abbrev pub invariant-loop-place : goal.invariant-loop-place
invariant-loop-place l =
    (level_within l.arena.nodes l.left (reverse l.places.items) ≡ level_in l.arena.nodes l.fn.from.items l.fn.frame)
    × AreThere l.arena.nodes l.places.items

abbrev pub decreases-loop-place : goal.decreases-loop-place
decreases-loop-place l = length l.places.items
