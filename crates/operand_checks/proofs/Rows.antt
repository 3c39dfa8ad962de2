-- What is said of values is never left out: it names no symbol.
use Rattle.std.proofs.Common.{◌≡◌, ◌||◌, ℤ, Bool, true, false, List, refl, if◌then◌else◌}
use Rattle.std.specs.Prelude.{Option, Some, None, Ok, ◌&&◌}
use Rattle.expression_notes.specs.Expressions.{listed}
use Rattle.expression_notes.specs.Repeating.{once_behind}
use Rattle.instruction_table.specs.declared.encodings.Kind.{Kind}
use Rattle.instruction_table.specs.declared.encodings.Kind.TheVariants as kind
use Rattle.machine_check.specs.declared.bounds.Bounds.{Bounds}
use Rattle.machine_check.specs.Bounds.{allowed, contains}
use Rattle.machine_check.specs.Targets.{share_section, is_odd}
use Rattle.machine_check.specs.Values.{refusal, said_of_number, said_of_absolute, said_of_value}
use Rattle.note_rows.specs.declared.row.Row.{Row}
use Rattle.note_rows.specs.declared.row.Row.TheVariants as row
use Rattle.trace_values.specs.declared.section.Reloc.{Reloc}
use Rattle.trace_values.specs.declared.section.SectionId.{SectionId}
use Rattle.using_ranges.specs.Ranges.{Held}
use Rattle.operand_checks.specs.Coverage.{is_covered}
use Rattle.operand_checks.specs.Displacements.{said_of_explicit, said_of_implicit, said_of_place, is_displacement}
use Rattle.operand_checks.specs.Expressions.{said_of_target_from}

-- a row is never left out
abbrev pub Stays : Option Row → Type 0
Stays said = (given : List Row) → once_behind given (listed said) ≡ listed said

unless : (b : Bool) (one : Row) → Stays (Some one) → Stays (if b then None else Some one)
unless true one stays = λ given. refl
unless false one stays = stays

where_so : (b : Bool) (one : Row) → Stays (Some one) → Stays (if b then Some one else None)
where_so true one stays = stays
where_so false one stays = λ given. refl

refusal-stays : (k : Kind) → Stays (Some (refusal k))
refusal-stays kind.Register = λ given. refl
refusal-stays kind.FloatRegister = λ given. refl
refusal-stays kind.AccessRegister = λ given. refl
refusal-stays kind.ControlRegister = λ given. refl
refusal-stays kind.VectorRegister = λ given. refl
refusal-stays kind.Mask = λ given. refl
refusal-stays kind.LengthTo256 = λ given. refl
refusal-stays kind.LengthTo16 = λ given. refl
refusal-stays other = λ given. refl

number-stays : (among : Option Bounds) (k : Kind) (n : ℤ) → Stays (said_of_number among (refusal k) n)
number-stays None k n = λ given. refl
number-stays (Some bounds) k n = unless (contains bounds n) (refusal k) (refusal-stays k)

absolute-stays : (k : Kind) (section : Option SectionId) (n : ℤ) → Stays (said_of_absolute (allowed k) (refusal k) section n)
absolute-stays k (Some section) n = λ given. refl
absolute-stays k None n = number-stays (allowed k) k n

-- of a register, a mask, an immediate value or a length
pub value-stays : (k : Kind) (place : Reloc) → Stays (said_of_value k (Ok place))
value-stays k place = absolute-stays k place.section place.value

-- of a target
pub target-stays : (here : Option Reloc) (place : Reloc) → Stays (said_of_target_from here place)
target-stays None place = λ given. refl
target-stays (Some here) place = where_so (share_section place.section here.section && is_odd place.value) row.OddTarget (λ given. refl)

explicit-stays : (bounds : Bounds) (section : Option SectionId) (n : ℤ) → Stays (said_of_explicit bounds section n)
explicit-stays bounds (Some section) n = λ given. refl
explicit-stays bounds None n = unless (contains bounds n) row.BadDisplacement (λ given. refl)

implicit-stays : (held : Held) (bounds : Bounds) (section : Option SectionId) (n : ℤ) → Stays (said_of_implicit held bounds section n)
implicit-stays held bounds section n = unless (is_displacement bounds section n || is_covered held section n) row.NoUsingRange (λ given. refl)

-- of a displacement
pub place-stays : (held : Held) (bounds : Bounds) (is_based : Bool) (place : Reloc) → Stays (said_of_place held bounds is_based place)
place-stays held bounds true place = explicit-stays bounds place.section place.value
place-stays held bounds false place = implicit-stays held bounds place.section place.value
