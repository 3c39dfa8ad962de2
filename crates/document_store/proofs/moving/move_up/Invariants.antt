use Rattle.std.proofs.Common.{◌≡◌, ◌+◌, ◌≤◌, ◌-◌, drop}
use Rattle.std.proofs.Math.Seq.{paste}
use Rattle.document_store.proofs.moving.move_up.Given as goal

-- all but the first so many bytes were moved
abbrev pub invariant-loop-left : goal.invariant-loop-left
invariant-loop-left l = (l.left ≤ l.count) × (l.bytes ≡ paste l.initial.bytes (l.to + l.left) (drop (l.from + l.left) l.initial.bytes) (l.count - l.left))

abbrev pub decreases-loop-left : goal.decreases-loop-left
decreases-loop-left l = l.left
