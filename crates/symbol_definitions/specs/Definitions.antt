-- How symbols are defined (HLASM Language Reference SC26-4940, "Symbols"): the first definition of a name stands, and of every
-- other one it is said that the name is taken.
use Rattle.std.specs.Prelude.{ℕ, Bool, List, [], ◌∷◌, ◌++◌, Option, None, if◌then◌else◌}
use Rattle.std.specs.Option.{is_none}
use Rattle.hl_base.specs.declared.set.Attr.{Attr}
use Rattle.trace_values.specs.declared.section.Reloc.{Reloc}
use Rattle.trace_values.specs.declared.symbol_row.SymbolRow.{SymbolRow}
use Rattle.expression_grammar.specs.Trees.{Tree}
use Rattle.note_rows.specs.declared.row.Row.{Row}
use Rattle.note_rows.specs.declared.row.Row.TheVariants.{DefinedTwice}
use Rattle.ordinary_symbols.specs.Table.{Table, Entry, name_of, place_of, Settled, Deferred}

-- the row of a symbol, without the stack of its statement
abbrev pub row_of : List ℕ → Option Reloc → Attr → SymbolRow
row_of name value attr = record { name = name; value = value; attr = attr; stack = [] }

-- a symbol of which its row is all there is to say, and one whose EQU waits
abbrev pub settled : List ℕ → Option Reloc → Attr → Entry
settled name value attr = record { row = row_of name value attr; standing = Settled }

abbrev pub deferred : List ℕ → Attr → (sized : Bool) → Tree → Option Reloc → Entry
deferred name attr sized tree here = record { row = row_of name None attr; standing = Deferred sized tree here }

-- whether no symbol has a name yet
abbrev pub is_new : Table → List ℕ → Bool
is_new table name = is_none (place_of table name)

-- a symbol that is defined, where its name is new
abbrev pub with_entry : Entry → Table → Table
with_entry entry table = if is_new table (name_of entry) then table ++ entry ∷ [] else table

-- what is said of the definition of a name
abbrev pub said_of_name : Table → List ℕ → List Row
said_of_name table name = if is_new table name then [] else DefinedTwice name ∷ []
