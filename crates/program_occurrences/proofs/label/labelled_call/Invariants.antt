use Rattle.std.proofs.Common.{◌≡◌}
use Rattle.running_calls.specs.Calls.{held}
use Rattle.program_occurrences.specs.Labels.{labelled_call}
use Rattle.program_occurrences.proofs.label.labelled_call.Given as goal

-- none of the calls so far has the label
abbrev pub invariant-loop-level : goal.invariant-loop-level
invariant-loop-level l = labelled_call l.texts l.name (held l.calls) l.level ≡ labelled_call l.texts l.name (held l.calls) l.count

abbrev pub decreases-loop-level : goal.decreases-loop-level
decreases-loop-level l = l.level
