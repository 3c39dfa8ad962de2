use Rattle.std.proofs.Common.{◌≡◌, take}
use Rattle.standing_occurrences.specs.Standing.{standing}
use Rattle.standing_occurrences.proofs.standing.Standing.of.Given as goal

-- those of the occurrences so far that stand
abbrev pub invariant-loop-occurrence : goal.invariant-loop-occurrence
invariant-loop-occurrence l = l.kept ≡ standing (take l.occurrence-index l.occurrences)
