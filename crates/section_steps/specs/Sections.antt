-- CSECT, START and DSECT (HLASM Language Reference SC26-4940, "CSECT instruction", "START instruction", "DSECT instruction"): the
-- section of the label, or the unnamed one, begins or is resumed. The name of a section is a symbol on its first byte.
use Rattle.std.specs.Prelude.{ℕ, Bool, List, [], length, Option, Some, None, is_some, pos, if◌then◌else◌}
use Rattle.hl_base.specs.declared.set.Attr.{Attr}
use Rattle.note_rows.specs.declared.row.Row.{Row}
use Rattle.section_table.specs.Tables as sections
use Rattle.symbol_definitions.specs.Definitions.{settled, with_entry, is_new, said_of_name}
use Rattle.trace_values.specs.declared.section.Reloc.{Reloc}
use Rattle.section_steps.specs.Places.{value_at}
use Rattle.section_steps.specs.States.{State, Laid, Nothing}

-- J (74), 1
abbrev pub section_attr : Attr
section_attr = record { letter = 74; length = 1 }

-- the first byte of the section of a number
abbrev pub first_byte : ℕ → Reloc
first_byte number = record { section = Some (record { 0 = number }); value = pos 0 }

-- a section of this name begins behind all others, and its name is a symbol
unfoldable pub begun : List ℕ → (dummy : Bool) → State → State
begun name dummy state = record state {
  sections = sections.enter name dummy state.sections;
  symbols = with_entry (settled name (Some (first_byte (length state.sections.spans))) section_attr) state.symbols;
}

-- where the name is free; that of another symbol changes nothing
unfoldable pub begun_if_new : List ℕ → (dummy : Bool) → State → State
begun_if_new name dummy state = if is_new state.symbols name then begun name dummy state else state

-- the section of a name is resumed where it is there, and else begins
abbrev pub is_there : List ℕ → State → Bool
is_there name state = is_some (sections.named state.sections name)

unfoldable pub named_behind : List ℕ → (dummy : Bool) → State → State
named_behind name dummy state =
    if is_there name state then record state { sections = sections.enter name dummy state.sections }
    else begun_if_new name dummy state

unfoldable pub said_of_section : List ℕ → State → List Row
said_of_section name state = if is_there name state then [] else said_of_name state.symbols name

-- the state behind a statement with or without a label
abbrev pub section_behind : Option (List ℕ) → (dummy : Bool) → State → State
section_behind None dummy state = record state { sections = sections.enter [] dummy state.sections }
section_behind (Some name) dummy state = named_behind name dummy state

abbrev pub said_of_entering : Option (List ℕ) → State → List Row
said_of_entering None state = []
said_of_entering (Some name) state = said_of_section name state

-- it stands where it leads
unfoldable pub section_laid : Option (List ℕ) → (dummy : Bool) → State → Laid
section_laid label dummy state =
    let place = sections.here (section_behind label dummy state).sections in
    record {
      place = place;
      bytes = 0;
      here = value_at place;
      uses = [];
      said = [];
      said_of_symbols = said_of_entering label state;
      left = Nothing;
    }
