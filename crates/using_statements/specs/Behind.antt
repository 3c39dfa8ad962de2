-- The ranges behind USING and DROP (HLASM Language Reference SC26-4940, "USING instruction", "DROP instruction"): one that is not in
-- order changes nothing, which is this project's. A register that a DROP names need not be in use.
use Rattle.std.specs.Prelude.{ℕ, List, Option, Some, None}
use Rattle.ordinary_symbols.specs.Known.{Knowledge}
use Rattle.trace_values.specs.declared.section.Reloc.{Reloc}
use Rattle.using_ranges.specs.Ranges.{Held}
use Rattle.using_statements.specs.declared.values.Span.{Span}
use Rattle.using_statements.specs.Held.{all_registers, dropped, used}
use Rattle.using_statements.specs.Values.{registers_of, span_of}
use Rattle.using_statements.specs.Written.{UsingOperands, DropOperands, Everything, Named, using_of, drop_of}

-- where each operand is in order, the registers have ranges
abbrev pub behind_begun : Held → Option Span → Option (List ℕ) → Held
behind_begun held None registers = held
behind_begun held (Some span) None = held
behind_begun held (Some span) (Some registers) = used held span.base.section span.base.value span.end registers

abbrev pub behind_read_using : Knowledge → Option Reloc → Held → Option UsingOperands → Held
behind_read_using known here held None = held
behind_read_using known here held (Some using) =
    behind_begun held (span_of known here using.bounds) (registers_of known here using.registers)

unfoldable pub behind_using : Knowledge → Option Reloc → Held → (field : List ℕ) → Held
behind_using known here held field = behind_read_using known here held (using_of field)

-- where each operand is in order, the registers have none
abbrev pub behind_dropped : Held → Option (List ℕ) → Held
behind_dropped held None = held
behind_dropped held (Some registers) = dropped held registers

abbrev pub behind_read_drop : Knowledge → Option Reloc → Held → Option DropOperands → Held
behind_read_drop known here held None = held
behind_read_drop known here held (Some Everything) = dropped held all_registers
behind_read_drop known here held (Some (Named trees)) = behind_dropped held (registers_of known here trees)

unfoldable pub behind_drop : Knowledge → Option Reloc → Held → (field : List ℕ) → Held
behind_drop known here held field = behind_read_drop known here held (drop_of field)
