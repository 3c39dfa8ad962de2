-- Operands with constants where a statement stands (HLASM Language Reference SC26-4940, "DC instruction", "Literals").
use Rattle.std.specs.Prelude.{Bool, true, false, List, [], ◌∷◌, Option, if◌then◌else◌}
use Rattle.constant_expressions.specs.Told.{told_numbers}
use Rattle.constant_operands.specs.Measures.{Measure, measure}
use Rattle.constant_operands.specs.Operands.{Operand}
use Rattle.note_rows.specs.declared.row.Row.{Row}
use Rattle.note_rows.specs.declared.row.Row.TheVariants.{BadConstant}
use Rattle.ordinary_symbols.specs.Known.{Knowledge}
use Rattle.trace_values.specs.declared.section.Reloc.{Reloc}

-- what an operand comes to at a place, by what is known there
unfoldable pub measured : Knowledge → Option Reloc → Operand → Measure
measured known here operand = measure operand (told_numbers known here operand)

-- whether it can be read; where that is said, nothing else is said of the operand
abbrev pub is_read : List Row → Bool
is_read [] = true
is_read (BadConstant ∷ rows) = false
is_read (other ∷ rows) = true

-- an operand whose expressions are still to be judged
abbrev pub legible_by : List Row → Operand → List Operand
legible_by said operand = if is_read said then operand ∷ [] else []

unfoldable pub is_legible : Knowledge → Option Reloc → Operand → Bool
is_legible known here operand = is_read (measured known here operand).said

unfoldable pub legible : Knowledge → Option Reloc → Operand → List Operand
legible known here operand = legible_by (measured known here operand).said operand
