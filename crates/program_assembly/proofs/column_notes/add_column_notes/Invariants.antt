use Rattle.std.proofs.Common.{◌≡◌, ◌++◌, take}
use Rattle.std.specs.List.{flat_map}
use Rattle.program_assembly.specs.ColumnNotes.{fault_notes}
use Rattle.program_assembly.proofs.column_notes.add_column_notes.Given as goal

-- the faults of the statements so far are noted
abbrev pub invariant-loop-statement : goal.invariant-loop-statement
invariant-loop-statement l = l.notes ≡ l.initial.notes ++ flat_map (fault_notes l.path.0) (take l.statement-index l.statements)
