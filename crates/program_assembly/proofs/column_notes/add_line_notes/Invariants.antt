use Rattle.std.proofs.Common.{◌≡◌, ◌++◌, take}
use Rattle.std.specs.List.{flat_map}
use Rattle.program_assembly.specs.ColumnNotes.{fault_notes}
use Rattle.program_assembly.proofs.column_notes.add_line_notes.Given as goal

-- the faults of the lines so far are noted
abbrev pub invariant-loop-line : goal.invariant-loop-line
invariant-loop-line l = l.notes ≡ l.initial.notes ++ flat_map (λ line. fault_notes l.path.0 line.statement) (take l.line-index l.lines)
