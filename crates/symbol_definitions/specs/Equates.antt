-- EQU (HLASM Language Reference SC26-4940, "EQU instruction"; that one whose symbols have no value yet is deferred, and is
-- defined without value where its expression is wrong, is this project's).
use Rattle.std.specs.Prelude.{ℕ, List, [], ◌++◌, Option, Some, None, Result, Ok, Err, is_some, unwrap_or, if◌then◌else◌}
use Rattle.hl_base.specs.declared.set.Attr.{Attr}
use Rattle.trace_values.specs.declared.section.Reloc.{Reloc}
use Rattle.expression_grammar.specs.Trees.{Tree}
use Rattle.note_rows.specs.declared.row.Row.{Row}
use Rattle.expression_notes.specs.declared.values.Wanted.TheVariants as wanted
use Rattle.expression_notes.specs.Expressions.{listed, said_of_value}
use Rattle.ordinary_symbols.specs.declared.fault.EvalFault.{EvalFault}
use Rattle.ordinary_symbols.specs.Known.{first_unknown, equated_length}
use Rattle.ordinary_symbols.specs.Table.{Table, Entry, known}
use Rattle.ordinary_symbols.specs.Values.{value}
use Rattle.symbol_definitions.specs.declared.equating.Equating.{Equating}
use Rattle.symbol_definitions.specs.Definitions.{settled, deferred, with_entry, said_of_name}

-- the attributes of the symbol: the length that is given, else that of the expression
abbrev pub attr_of : (letter : ℕ) → Option ℕ → (implied : ℕ) → Attr
attr_of letter length implied = record { letter = letter; length = unwrap_or length implied }

abbrev pub value_of : Result Reloc EvalFault → Option Reloc
value_of (Ok found) = Some found
value_of (Err fault) = None

abbrev pub settled_as : Option Reloc → Attr → List ℕ → Entry
settled_as found attr name = settled name found attr

-- the symbol of a label, if there is one
abbrev pub with_label : Option (List ℕ) → (List ℕ → Entry) → Table → Table
with_label None entry table = table
with_label (Some name) entry table = with_entry (entry name) table

abbrev pub said_of_label : Option (List ℕ) → Table → List Row
said_of_label None table = []
said_of_label (Some name) table = said_of_name table name

-- by an expression that has a symbol without value yet
abbrev pub equated_later : Equating → Tree → Table → Table
equated_later one tree table =
    with_label one.label (λ name. deferred name (attr_of one.letter one.length 1) (is_some one.length) tree one.here) table

-- by an expression whose symbols all have values
abbrev pub equated_now : Equating → Tree → Table → Table
equated_now one tree table =
    with_label one.label (settled_as (value_of (value (known table) one.here tree)) (attr_of one.letter one.length (equated_length (known table) tree))) table

-- what is said of it: that its name is taken, and that the expression has no value
abbrev pub said_of_equate_now : Equating → Tree → Table → List Row
said_of_equate_now one tree table = said_of_label one.label table ++ listed (said_of_value wanted.Value (value (known table) one.here tree))

-- the symbols behind an EQU
abbrev pub equated : Equating → Tree → Table → Table
equated one tree table = if is_some (first_unknown (known table) tree) then equated_later one tree table else equated_now one tree table

-- what is said of it: of one that is deferred only that its name is taken
abbrev pub said_of_equate : Equating → Tree → Table → List Row
said_of_equate one tree table =
    if is_some (first_unknown (known table) tree) then said_of_label one.label table else said_of_equate_now one tree table

-- the symbols behind an EQU whose expression cannot be read
abbrev pub equated_unread : Equating → Table → Table
equated_unread one table = with_label one.label (settled_as None (attr_of one.letter one.length 1)) table
