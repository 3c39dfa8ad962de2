-- How many operands a machine instruction has: as many as its format has kinds, of which the last may be left out where the
-- format says so (this project).
use Rattle.std.specs.Prelude.{ℕ, ◌-◌, ◌&&◌, nat_le, length, Option, Some, None, if◌then◌else◌}
use Rattle.note_rows.specs.declared.row.Row.{Row}
use Rattle.note_rows.specs.declared.row.Row.TheVariants.{WrongOperandCount}
use Rattle.instruction_table.specs.declared.format.Format.{Format}
use Rattle.instruction_table.specs.Formats.{operands_of, optional_of}

-- what is said of this many operands
abbrev pub said_of_count : Format → ℕ → Option Row
said_of_count format count =
    if nat_le (length (operands_of format) - optional_of format) count && nat_le count (length (operands_of format)) then None
    else Some WrongOperandCount
