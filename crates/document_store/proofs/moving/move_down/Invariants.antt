use Rattle.std.proofs.Common.{◌≡◌, ◌≤◌, ◌-◌, drop}
use Rattle.std.proofs.Math.Seq.{paste}
use Rattle.document_store.proofs.moving.move_down.Given as goal

-- so many bytes were moved
abbrev pub invariant-loop-done : goal.invariant-loop-done
invariant-loop-done l = (l.done ≤ l.count) × (l.bytes ≡ paste l.initial.bytes l.to (drop l.from l.initial.bytes) l.done)

abbrev pub decreases-loop-done : goal.decreases-loop-done
decreases-loop-done l = l.count - l.done
