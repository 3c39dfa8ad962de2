use Rattle.std.proofs.Common.{◌≡◌, ◌≤◌}
use Rattle.bulk_script.specs.Texts.{is_edited}
use Rattle.bulk_script.proofs.texts.is_edited.Given as goal

-- those that were looked at changed other calls
abbrev pub invariant-loop-left : goal.invariant-loop-left
invariant-loop-left l = (l.left ≤ l.edits) × (is_edited l.count l.edits l.call ≡ is_edited l.count l.left l.call)

abbrev pub decreases-loop-left : goal.decreases-loop-left
decreases-loop-left l = l.left
