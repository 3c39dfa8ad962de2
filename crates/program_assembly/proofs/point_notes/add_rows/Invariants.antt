use Rattle.std.proofs.Common.{◌≡◌, ◌++◌, take}
use Rattle.program_assembly.specs.Statements.{rows_at}
use Rattle.program_assembly.proofs.point_notes.add_rows.Given as goal

-- the rows so far are added
abbrev pub invariant-loop-row : goal.invariant-loop-row
invariant-loop-row l = l.notes ≡ l.initial.notes ++ rows_at l.stack (take l.row-index l.said)
