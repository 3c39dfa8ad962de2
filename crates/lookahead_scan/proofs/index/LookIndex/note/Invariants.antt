use Rattle.std.proofs.Common.{◌≡◌, ◌++◌, ℕ, List, length}
use Rattle.lookahead_scan.specs.Index.{founds}
use Rattle.lookahead_scan.specs.Places.{founds_at}
use Rattle.lookahead_scan.proofs.index.LookIndex.note.Given as goal

-- the labels so far, and then those that are left
abbrev pub invariant-loop-labels : goal.invariant-loop-labels
invariant-loop-labels l =
    ((name : List ℕ) → founds l.self name ++ founds_at name l.at l.labels ≡ founds l.initial.self name ++ founds_at name l.at l.initial.labels)
    × (l.self.ends ≡ l.initial.self.ends)

abbrev pub decreases-loop-labels : goal.decreases-loop-labels
decreases-loop-labels l = length l.labels
