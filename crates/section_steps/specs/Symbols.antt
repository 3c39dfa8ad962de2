-- EXTRN, WXTRN and ENTRY (HLASM Language Reference SC26-4940, "EXTRN instruction", "WXTRN instruction", "ENTRY instruction"). Each
-- external symbol is on the first byte of a section of its own, whose number is above those of all sections of the assembly.
use Rattle.std.specs.Prelude.{ℕ, ◌+◌, List, [], ◌∷◌, ◌++◌, Option, Some, None, Result, Ok, Err, if◌then◌else◌}
use Rattle.hl_base.specs.declared.set.Attr.{Attr}
use Rattle.note_rows.specs.declared.row.Row.{Row}
use Rattle.note_rows.specs.declared.row.Row.TheVariants.{Unreadable}
use Rattle.section_table.specs.Tables as sections
use Rattle.symbol_attributes.specs.Attributes.{external}
use Rattle.symbol_attributes.specs.declared.meaning.OpMeaning.{OpMeaning}
use Rattle.symbol_definitions.specs.Definitions.{settled, with_entry, is_new, said_of_name}
use Rattle.section_steps.specs.Labels.{plain, said_of_label}
use Rattle.section_steps.specs.Marks.{mark_behind, mark_laid}
use Rattle.section_steps.specs.Places.{value_at}
use Rattle.section_steps.specs.Sections.{first_byte}
use Rattle.section_steps.specs.States.{State, Laid, Nothing, Names}

-- how many characters can be read of a symbol that cannot, and the names of the others
abbrev pub unread_one : Result (List ℕ) ℕ → List Row
unread_one (Ok name) = []
unread_one (Err at) = Unreadable at ∷ []

abbrev pub name_one : Result (List ℕ) ℕ → List (List ℕ)
name_one (Ok name) = name ∷ []
name_one (Err at) = []

-- the same of some symbols, in order
abbrev pub unread_symbols : List (Result (List ℕ) ℕ) → List Row
unread_symbols [] = []
unread_symbols (one ∷ others) = unread_one one ++ unread_symbols others

abbrev pub names_of : List (Result (List ℕ) ℕ) → List (List ℕ)
names_of [] = []
names_of (one ∷ others) = name_one one ++ names_of others

-- the number of the section of an external symbol, before which there are so many
abbrev pub external_number : ℕ → ℕ
external_number before = 2147483648 + before

-- the state behind the definition of an external symbol, and what is said of it
unfoldable pub external_behind : Attr → List ℕ → State → State
external_behind attr name state = record state {
  symbols = with_entry (settled name (Some (first_byte (external_number state.externals))) attr) state.symbols;
  externals = if is_new state.symbols name then state.externals + 1 else state.externals;
}

unfoldable pub said_of_external : List ℕ → State → List Row
said_of_external name state = said_of_name state.symbols name

abbrev pub all_external : Attr → List (List ℕ) → State → State
all_external attr [] state = state
all_external attr (name ∷ names) state = all_external attr names (external_behind attr name state)

abbrev pub said_of_all : Attr → List (List ℕ) → State → List Row
said_of_all attr [] state = []
said_of_all attr (name ∷ names) state = said_of_external name state ++ said_of_all attr names (external_behind attr name state)

-- what they mean by their operation; by no other operation are symbols external
abbrev pub attr_by : Option Attr → Attr
attr_by None = plain
attr_by (Some attr) = attr

abbrev pub external_attr : OpMeaning → Attr
external_attr op = attr_by (external op)

-- the state behind EXTRN and WXTRN, whose label comes before their symbols
unfoldable pub externals_behind : OpMeaning → List (Result (List ℕ) ℕ) → Option (List ℕ) → State → State
externals_behind op symbols label state = all_external (external_attr op) (names_of symbols) (mark_behind label state)

unfoldable pub externals_laid : OpMeaning → List (Result (List ℕ) ℕ) → Option (List ℕ) → State → Laid
externals_laid op symbols label state =
    let here = sections.here state.sections in
    record {
      place = here;
      bytes = 0;
      here = value_at here;
      uses = [];
      said = unread_symbols symbols;
      said_of_symbols = said_of_label label state.symbols ++ said_of_all (external_attr op) (names_of symbols) (mark_behind label state);
      left = Nothing;
    }

-- ENTRY names symbols that are to be defined
unfoldable pub entries_laid : List (Result (List ℕ) ℕ) → Option (List ℕ) → State → Laid
entries_laid symbols label state = mark_laid (unread_symbols symbols) (Names (names_of symbols)) label state
