use Rattle.std.proofs.Common.{◌≡◌, take}
use Rattle.trace_values.proofs.occurrence.Occurrences.copy.Given as goal

-- the occurrences so far are copied
abbrev pub invariant-loop-occurrence : goal.invariant-loop-occurrence
invariant-loop-occurrence l = l.occurrences.items ≡ take l.occurrence-index l.occurrence-items
