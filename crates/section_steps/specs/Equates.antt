-- EQU (HLASM Language Reference SC26-4940, "EQU instruction"). A length counts where its value is known at the statement, and is an
-- absolute number of 0 to 65,535.
use Rattle.std.specs.Prelude.{ℕ, ◌++◌, List, [], ◌∷◌, length, nat_le, nat_lt, Option, Some, None, Result, Ok, Err, pos, negsuc, ℤ, if◌then◌else◌}
use Rattle.constant_expressions.specs.Told.{told}
use Rattle.constant_operands.specs.declared.number.Told.{Told}
use Rattle.constant_operands.specs.declared.number.Told.TheVariants.{Absolute, Other, Unknown}
use Rattle.expression_grammar.specs.Trees.{Tree}
use Rattle.layout_statements.specs.Equates.{Equate}
use Rattle.note_rows.specs.declared.row.Row.{Row}
use Rattle.note_rows.specs.declared.row.Row.TheVariants.{Unreadable}
use Rattle.ordinary_symbols.specs.Known.{Knowledge}
use Rattle.ordinary_symbols.specs.Table as symbols
use Rattle.ordinary_symbols.specs.Table.{known}
use Rattle.section_table.specs.Tables as sections
use Rattle.symbol_definitions.specs.declared.equating.Equating.{Equating}
use Rattle.symbol_definitions.specs.Equates as equates
use Rattle.trace_values.specs.declared.section.Reloc.{Reloc}
use Rattle.section_steps.specs.Places.{value_at}
use Rattle.section_steps.specs.States.{State, Laid, Equated}

-- a length that counts
abbrev pub counted_number : ℤ → Option ℕ
counted_number (pos n) = if nat_le n 65535 then Some n else None
counted_number (negsuc n) = None

abbrev pub counted : Told → Option ℕ
counted (Absolute n) = counted_number n
counted Other = None
counted Unknown = None

abbrev pub counted_in : Knowledge → Option Reloc → Option (Result Tree ℕ) → Option ℕ
counted_in known here None = None
counted_in known here (Some (Err at)) = None
counted_in known here (Some (Ok tree)) = counted (told known here tree)

-- what EQU says beside its expression, where it is met
unfoldable pub equating_with : Option (Result Tree ℕ) → (letter : ℕ) → Option (List ℕ) → State → Equating
equating_with length letter label state =
    let here = value_at (sections.here state.sections) in
    record { label = label; letter = letter; length = counted_in (known state.symbols) here length; here = here }

abbrev pub equating : Equate → Option (List ℕ) → State → Equating
equating said label state = equating_with said.length said.letter label state

-- the symbols behind it, and what is said of them
abbrev pub equated_by : Result Tree ℕ → Equating → symbols.Table → symbols.Table
equated_by (Ok tree) one table = equates.equated one tree table
equated_by (Err at) one table = equates.equated_unread one table

abbrev pub said_by : Result Tree ℕ → Equating → symbols.Table → List Row
said_by (Ok tree) one table = equates.said_of_equate one tree table
said_by (Err at) one table = equates.said_of_label one.label table

-- of an expression that cannot be read, how much of it can
abbrev pub unread : Result Tree ℕ → List Row
unread (Ok tree) = []
unread (Err at) = Unreadable at ∷ []

abbrev pub some_unread : Option (Result Tree ℕ) → List Row
some_unread None = []
some_unread (Some reading) = unread reading

abbrev pub tree_of : Result Tree ℕ → Option Tree
tree_of (Ok tree) = Some tree
tree_of (Err at) = None

abbrev pub some_tree : Option (Result Tree ℕ) → Option Tree
some_tree None = None
some_tree (Some reading) = tree_of reading

-- the place of the symbol that is defined, where there were so many before
abbrev pub defined_behind : (before : ℕ) → symbols.Table → Option ℕ
defined_behind before table = if nat_lt before (length table) then Some before else None

-- the symbols behind EQU
unfoldable pub equated_at : Equate → Option (List ℕ) → State → symbols.Table
equated_at said label state = equated_by said.value (equating said label state) state.symbols

unfoldable pub equate_behind : Equate → Option (List ℕ) → State → State
equate_behind said label state = record state { symbols = equated_at said label state }

unfoldable pub equate_laid : Equate → Option (List ℕ) → State → Laid
equate_laid said label state = record {
  place = sections.here state.sections;
  bytes = 0;
  here = value_at (sections.here state.sections);
  uses = [];
  said = unread said.value ++ some_unread said.length;
  said_of_symbols = said_by said.value (equating said label state) state.symbols;
  left = Equated (defined_behind (length state.symbols) (equated_at said label state)) (some_tree said.length);
}
