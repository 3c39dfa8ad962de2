use Rattle.std.proofs.Common.{◌≡◌, ◌++◌, length}
use Rattle.macro_entry.specs.Shown.{operands_shown}
use Rattle.macro_entry.proofs.showing.add_operands.Given as goal

-- the texts so far, and then those that are left
abbrev pub invariant-loop-texts : goal.invariant-loop-texts
invariant-loop-texts l = l.settings ++ operands_shown l.number l.texts ≡ l.initial.settings ++ operands_shown 0 l.initial.texts

abbrev pub decreases-loop-texts : goal.decreases-loop-texts
decreases-loop-texts l = length l.texts
