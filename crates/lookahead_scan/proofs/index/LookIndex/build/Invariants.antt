use Rattle.std.proofs.Common.{◌≡◌, ◌++◌, ℕ, List, length, map}
use Rattle.lookahead_scan.specs.Index.{founds}
use Rattle.lookahead_scan.specs.Looks.{offer, offers}
use Rattle.lookahead_scan.specs.Places.{founds_from, ends_from}
use Rattle.lookahead_scan.proofs.index.LookIndex.build.Given as goal

-- what the statements so far give, and then what those give that are left
abbrev pub invariant-loop-sight : goal.invariant-loop-sight
invariant-loop-sight g l =
    ((name : List ℕ) → founds l.index name ++ founds_from name l.at (map (offer (g.P.Present.members l.present)) l.left.items) ≡ founds_from name 0 (offers (g.P.Present.members l.present) l.list))
    × (l.index.ends.items ++ ends_from l.at (map (offer (g.P.Present.members l.present)) l.left.items) ≡ ends_from 0 (offers (g.P.Present.members l.present) l.list))

abbrev pub decreases-loop-sight : goal.decreases-loop-sight
decreases-loop-sight g l = length l.left.items
