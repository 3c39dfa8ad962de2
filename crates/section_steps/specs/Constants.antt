-- DC and DS (HLASM Language Reference SC26-4940, "DC instruction", "DS instruction", "Location counter reference"). An operand
-- that does not fit takes no place and does not align, which is said once in a statement; those behind it are tried all the same.
use Rattle.std.specs.Prelude.{ℕ, ◌||◌, Bool, true, false, not, List, [], ◌∷◌, ◌++◌, Option, Some, None}
use Rattle.std.specs.Option.{option_or}
use Rattle.constant_operands.specs.declared.room.Extent.{Extent}
use Rattle.constant_operands.specs.Operands.{Operand}
use Rattle.constant_operands.specs.Room.{boundary_of}
use Rattle.hl_base.specs.declared.set.Attr.{Attr}
use Rattle.note_rows.specs.declared.row.Row.{Row}
use Rattle.ordinary_symbols.specs.Known.{Knowledge}
use Rattle.ordinary_symbols.specs.Table.{known}
use Rattle.section_table.specs.declared.table.Place.{Place}
use Rattle.section_table.specs.Tables as sections
use Rattle.section_table.specs.Tables.{Table, begins, taken}
use Rattle.trace_values.specs.declared.section.Reloc.{Reloc}
use Rattle.section_steps.specs.Legible.{measured, legible}
use Rattle.section_steps.specs.Instructions.{too_long}
use Rattle.section_steps.specs.Labels.{with_label, said_of_label}
use Rattle.section_steps.specs.Marks.{mark_behind, mark_laid}
use Rattle.section_steps.specs.Places.{value_at, fits, stand, bytes_between}
use Rattle.section_steps.specs.States.{State, Laid, Nothing, Operands}

-- where room is taken, the sections behind it, and whether it is there; what takes no room is no matter of the section
abbrev pub place_by : (boundary : ℕ) → Option Extent → Table → Option Place
place_by boundary None table = None
place_by boundary (Some extent) table = begins boundary extent.bytes table

abbrev pub taken_by : (boundary : ℕ) → Option Extent → Table → Table
taken_by boundary None table = table
taken_by boundary (Some extent) table = taken boundary extent.bytes table

abbrev pub fits_by : (boundary : ℕ) → Option Extent → Table → Bool
fits_by boundary None table = true
fits_by boundary (Some extent) table = fits boundary extent.bytes table

-- where an operand stands, if it is placed, the sections behind it, and whether it fits
unfoldable pub operand_place : Knowledge → Option Reloc → Operand → Table → Option Place
operand_place known here operand table = place_by (boundary_of operand) (measured known here operand).extent table

unfoldable pub operand_taken : Knowledge → Option Reloc → Operand → Table → Table
operand_taken known here operand table = taken_by (boundary_of operand) (measured known here operand).extent table

unfoldable pub operand_fits : Knowledge → Option Reloc → Operand → Table → Bool
operand_fits known here operand table = fits_by (boundary_of operand) (measured known here operand).extent table

-- what is said of it; where that was said before, not that the section gets too long
unfoldable pub operand_said : (before : Bool) → Knowledge → Option Reloc → Operand → Table → List Row
operand_said before known here operand table =
    (measured known here operand).said ++ too_long (before || operand_fits known here operand table)

-- whether it was said, behind the operand
unfoldable pub is_said : (before : Bool) → Knowledge → Option Reloc → Operand → Table → Bool
is_said before known here operand table = before || not (operand_fits known here operand table)

-- the same of all operands, in order
abbrev pub all_taken : Knowledge → Option Reloc → List Operand → Table → Table
all_taken known here [] table = table
all_taken known here (one ∷ others) table = all_taken known here others (operand_taken known here one table)

abbrev pub said_of_all : (before : Bool) → Knowledge → Option Reloc → List Operand → Table → List Row
said_of_all before known here [] table = []
said_of_all before known here (one ∷ others) table =
    operand_said before known here one table
    ++ said_of_all (is_said before known here one table) known here others (operand_taken known here one table)

abbrev pub all_legible : Knowledge → Option Reloc → List Operand → List Operand
all_legible known here [] = []
all_legible known here (one ∷ others) = legible known here one ++ all_legible known here others

-- the value of `*` is the place behind the alignment of the first operand, as it is written
abbrev pub here_at : Operand → Table → Option Reloc
here_at first table = value_at (stand (boundary_of first) 0 table)

abbrev pub constants_here : Operand → State → Option Reloc
constants_here first state = here_at first state.sections

-- the statement stands where its first operand does; where that takes no place, where the counter stood
unfoldable pub first_place : Knowledge → Operand → Table → Option Place
first_place known first table = option_or (operand_place known (here_at first table) first table) (sections.here table)

unfoldable pub constants_place : Operand → State → Option Place
constants_place first state = first_place (known state.symbols) first state.sections

unfoldable pub constants_attr : Operand → State → Attr
constants_attr first state = (measured (known state.symbols) (constants_here first state) first).attr

-- what there is when the label of a statement is defined whose operands are placed, and what is kept of it
unfoldable pub set_behind : Option Place → Attr → Option (List ℕ) → State → State
set_behind place attr label state = record state { symbols = with_label label place attr state.symbols }

unfoldable pub set_laid : Option Place → Option Reloc → List Row → List Operand → Option (List ℕ) → State → Laid
set_laid place here said operands label state = record {
  place = place;
  bytes = bytes_between place (sections.here state.sections);
  here = here;
  uses = [];
  said = said;
  said_of_symbols = said_of_label label state.symbols;
  left = Operands (all_legible (known state.symbols) here operands);
}

-- the state when a first operand and others are placed
abbrev pub constants_placed : Operand → List Operand → State → State
constants_placed first others state =
    record state { sections = all_taken (known state.symbols) (constants_here first state) (first ∷ others) state.sections }

-- the state behind a first operand and others
unfoldable pub constants_behind_first : Operand → List Operand → Option (List ℕ) → State → State
constants_behind_first first others label state =
    set_behind (constants_place first state) (constants_attr first state) label (constants_placed first others state)

unfoldable pub constants_laid_first : Operand → List Operand → Option (List ℕ) → State → Laid
constants_laid_first first others label state =
    set_laid (constants_place first state) (constants_here first state)
    (said_of_all false (known state.symbols) (constants_here first state) (first ∷ others) state.sections) (first ∷ others) label
    (constants_placed first others state)

-- the state behind DC or DS; there is no statement without operands
abbrev pub constants_behind : List Operand → Option (List ℕ) → State → State
constants_behind [] label state = mark_behind label state
constants_behind (first ∷ others) label state = constants_behind_first first others label state

abbrev pub constants_laid : List Operand → Option (List ℕ) → State → Laid
constants_laid [] label state = mark_laid [] Nothing label state
constants_laid (first ∷ others) label state = constants_laid_first first others label state
