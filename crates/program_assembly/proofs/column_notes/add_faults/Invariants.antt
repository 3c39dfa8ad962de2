use Rattle.std.proofs.Common.{◌≡◌, ◌++◌, map, take}
use Rattle.program_assembly.specs.ColumnNotes.{fault_note}
use Rattle.program_assembly.proofs.column_notes.add_faults.Given as goal

-- the faults so far are noted
abbrev pub invariant-loop-fault : goal.invariant-loop-fault
invariant-loop-fault l = l.notes ≡ l.initial.notes ++ map (fault_note l.path.0 l.statement.first) (take l.fault-index l.statement.faults)
