-- Machine instructions and their literals (HLASM Language Reference SC26-4940, "Machine instruction statements", "Literals").
use Rattle.std.specs.Prelude.{ℕ, Bool, List, [], ◌∷◌, ◌++◌, Option, Some, None, encode_utf8_all, min, if◌then◌else◌}
use Rattle.constant_operands.specs.declared.room.Extent.{Extent}
use Rattle.constant_operands.specs.Operands.{Operand}
use Rattle.hl_base.specs.declared.set.Attr.{Attr}
use Rattle.layout_statements.specs.Lists.{Literal}
use Rattle.literal_places.specs.declared.literals.LiteralUse.{LiteralUse}
use Rattle.literal_places.specs.Places.{Literals, with_literal, use_of}
use Rattle.note_rows.specs.declared.row.Row.{Row}
use Rattle.note_rows.specs.declared.row.Row.TheVariants.{SectionTooLong}
use Rattle.ordinary_symbols.specs.Known.{Knowledge}
use Rattle.ordinary_symbols.specs.Table.{known}
use Rattle.section_table.specs.declared.table.Place.{Place}
use Rattle.section_table.specs.Tables as sections
use Rattle.trace_values.specs.declared.section.Reloc.{Reloc}
use Rattle.section_steps.specs.Legible.{measured, legible}
use Rattle.section_steps.specs.Labels.{with_label, said_of_label}
use Rattle.section_steps.specs.Places.{value_at, fits, stand, bytes_between}
use Rattle.section_steps.specs.States.{State, Laid, Operands}

-- A literal that takes room joins the open pool; 32 bits count its bytes, and more than that fit into no section.
abbrev pub joined_by : Option Extent → (text : List ℕ) → Literals → Literals
joined_by None text all = all
joined_by (Some extent) text all = with_literal (record { text = text; length = min extent.bytes 4294967295 }) all

abbrev pub used_by : Option Extent → (text : List ℕ) → Literals → Option LiteralUse
used_by None text all = None
used_by (Some extent) text all = use_of text all

-- the literals behind one that is used at a place
unfoldable pub joined : Knowledge → Option Reloc → Literal → Literals → Literals
joined known here one all = joined_by (measured known here one.constant).extent (encode_utf8_all one.text) all

-- where it is among them
unfoldable pub used : Knowledge → Option Reloc → Literal → Literals → Option LiteralUse
used known here one all = used_by (measured known here one.constant).extent (encode_utf8_all one.text) (joined known here one all)

-- the same of the literals of an instruction, in order
abbrev pub all_joined : Knowledge → Option Reloc → List Literal → Literals → Literals
all_joined known here [] all = all
all_joined known here (one ∷ others) all = all_joined known here others (joined known here one all)

abbrev pub all_used : Knowledge → Option Reloc → List Literal → Literals → List (Option LiteralUse)
all_used known here [] all = []
all_used known here (one ∷ others) all = used known here one all ∷ all_used known here others (joined known here one all)

-- what is said of them, and which of them are still to be judged
abbrev pub said_of_all : Knowledge → Option Reloc → List Literal → List Row
said_of_all known here [] = []
said_of_all known here (one ∷ others) = (measured known here one.constant).said ++ said_of_all known here others

abbrev pub all_legible : Knowledge → Option Reloc → List Literal → List Operand
all_legible known here [] = []
all_legible known here (one ∷ others) = legible known here one.constant ++ all_legible known here others

-- that a section gets too long, where something does not fit
abbrev pub too_long : (fitting : Bool) → List Row
too_long fitting = if fitting then [] else SectionTooLong ∷ []

-- what a label means: I (73) and the length
abbrev pub instruction_attr : ℕ → Attr
instruction_attr n = record { letter = 73; length = n }

-- an instruction stands on a halfword
abbrev pub instruction_place : ℕ → State → Option Place
instruction_place n state = stand 2 n state.sections

-- the state behind an instruction of so many bytes
unfoldable pub instruction_behind : (n : ℕ) → List Literal → Option (List ℕ) → State → State
instruction_behind n literals label state = record {
  sections = sections.taken 2 n state.sections;
  symbols = with_label label (instruction_place n state) (instruction_attr n) state.symbols;
  literals = all_joined (known state.symbols) (value_at (instruction_place n state)) literals state.literals;
  externals = state.externals;
}

unfoldable pub instruction_laid : (n : ℕ) → List Literal → Option (List ℕ) → State → Laid
instruction_laid n literals label state =
    let here = value_at (instruction_place n state) in
    record {
      place = instruction_place n state;
      bytes = bytes_between (instruction_place n state) (sections.here (sections.taken 2 n state.sections));
      here = here;
      uses = all_used (known state.symbols) here literals state.literals;
      said = too_long (fits 2 n state.sections) ++ said_of_all (known state.symbols) here literals;
      said_of_symbols = said_of_label label state.symbols;
      left = Operands (all_legible (known state.symbols) here literals);
    }
