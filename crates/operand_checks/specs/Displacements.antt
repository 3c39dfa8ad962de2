-- The displacements of addresses (z/Architecture Principles of Operation SA22-7832, "Address generation"; HLASM Language
-- Reference SC26-4940, "Addresses"). A displacement with a base is a number of 12 bits without sign, or of 20 bits with sign where
-- the instruction has a long one. An address without base is such a number, or it stands in a range of a USING.
use Rattle.std.specs.Prelude.{◌||◌, Bool, true, false, ℤ, pos, neg_ℤ, Option, Some, None, if◌then◌else◌}
use Rattle.instruction_table.specs.declared.encodings.Kind.{Kind}
use Rattle.instruction_table.specs.declared.encodings.Kind.TheVariants.{IndexedLong, BasedLong}
use Rattle.machine_check.specs.declared.bounds.Bounds.{Bounds}
use Rattle.machine_check.specs.Bounds.{contains}
use Rattle.note_rows.specs.declared.row.Row.{Row}
use Rattle.note_rows.specs.declared.row.Row.TheVariants.{BadDisplacement, NotSimple, NoUsingRange}
use Rattle.trace_values.specs.declared.section.Reloc.{Reloc}
use Rattle.trace_values.specs.declared.section.SectionId.{SectionId}
use Rattle.using_ranges.specs.Ranges.{Held}
use Rattle.operand_checks.specs.Coverage.{is_covered}

-- the displacements of 12 bits, and those of 20
abbrev pub short : Bounds
short = record { least = pos 0; greatest = pos 4095 }

abbrev pub long : Bounds
long = record { least = neg_ℤ (pos 524288); greatest = pos 524287 }

-- the displacements of a kind of address
abbrev pub displacements : Kind → Bounds
displacements IndexedLong = long
displacements BasedLong = long
displacements other = short

-- what is said of a number as a displacement
abbrev pub said_of_displacement : Bounds → ℤ → Option Row
said_of_displacement bounds n = if contains bounds n then None else Some BadDisplacement

-- what is said of a displacement with a base: it is no place in a section
abbrev pub said_of_explicit : Bounds → Option SectionId → ℤ → Option Row
said_of_explicit bounds (Some section) n = Some NotSimple
said_of_explicit bounds None n = said_of_displacement bounds n

-- whether an address is a number that needs no base
abbrev pub is_displacement : Bounds → Option SectionId → ℤ → Bool
is_displacement bounds (Some section) n = false
is_displacement bounds None n = contains bounds n

-- what is said of an address without base
abbrev pub said_of_implicit : Held → Bounds → Option SectionId → ℤ → Option Row
said_of_implicit held bounds section n = if is_displacement bounds section n || is_covered held section n then None else Some NoUsingRange

-- what is said of a displacement with a base or without
abbrev pub said_of_place : Held → Bounds → (is_based : Bool) → Reloc → Option Row
said_of_place held bounds true place = said_of_explicit bounds place.section place.value
said_of_place held bounds false place = said_of_implicit held bounds place.section place.value
