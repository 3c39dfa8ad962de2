use Rattle.std.proofs.Common.{◌≡◌, map, take}
use Rattle.macro_expand.specs.Items.{column_note}
use Rattle.macro_expand.proofs.columns.notes_in.Given as goal

-- the faults so far are noted
abbrev pub invariant-loop-fault : goal.invariant-loop-fault
invariant-loop-fault l = l.notes ≡ map column_note (take l.fault-index l.statement.faults)
