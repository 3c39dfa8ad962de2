use Rattle.std.proofs.Common.{◌≡◌, ◌++◌, length}
use Rattle.macro_entry.specs.Shown.{positional_among}
use Rattle.macro_entry.proofs.showing.add_positionals.Given as goal

-- the operands so far, and then those that are left
abbrev pub invariant-loop-operands : goal.invariant-loop-operands
invariant-loop-operands l =
    l.texts ++ positional_among l.prototype.value.parameters l.operands
    ≡ l.initial.texts ++ positional_among l.prototype.value.parameters l.initial.operands

abbrev pub decreases-loop-operands : goal.decreases-loop-operands
decreases-loop-operands l = length l.operands
