-- The ordinary symbols of an assembly (HLASM Language Reference SC26-4940, "Symbols", "EQU instruction").
use Rattle.std.specs.Prelude.{◌≡◌, ℕ, Bool, List, Option, Some, None, IsSome, map, position, slice_get}
use Rattle.std.specs.Option.{option_map}
use Rattle.std.specs.Str.{bytes_eq}
use Rattle.trace_values.specs.declared.section.Reloc.{Reloc}
use Rattle.trace_values.specs.declared.symbol_row.SymbolRow.{SymbolRow}
use Rattle.expression_grammar.specs.Trees.{Tree}
use Rattle.ordinary_symbols.specs.declared.fault.Trouble.{Trouble}
use Rattle.ordinary_symbols.specs.declared.fault.Trouble.TheVariants.{Unresolved, Unsimple}
use Rattle.ordinary_symbols.specs.declared.known.Known.{Known}
use Rattle.ordinary_symbols.specs.Known.{Knowledge}

-- How a symbol stands: its row is all there is to say; or its EQU is deferred, with the expression, its place, and whether
-- the length is given; or its EQU was tried and is not absolute or simply relocatable, so it has no value.
pub data Standing : Type 0 where
  Settled : Standing
  Deferred : (sized : Bool) (tree : Tree) (here : Option Reloc) → Standing
  Faulty : Standing

-- a symbol
pub record Entry : Type 0 where
  pub row : SymbolRow
  pub standing : Standing

-- the symbols in order of definition
abbrev pub Table : Type 0
Table = List Entry

-- the name of a symbol
abbrev pub name_of : Entry → List ℕ
name_of entry = entry.row.name

-- the place of the first symbol of a name
abbrev pub place_of : Table → List ℕ → Option ℕ
place_of table name = position (bytes_eq name) (map name_of table)

-- there is a symbol of this name
abbrev pub IsDefined : Table → List ℕ → Type 0
IsDefined table name = IsSome (place_of table name)

-- what is known of a symbol by its row
abbrev pub known_of_row : SymbolRow → Option Known
known_of_row row = option_map (λ value. record { value = value; length = row.attr.length }) row.value

-- what is known of a symbol; nothing, while its EQU is deferred
abbrev pub known_of : Standing → SymbolRow → Option Known
known_of Settled row = known_of_row row
known_of (Deferred sized tree here) row = None
known_of Faulty row = None

-- what is known of the symbol at a place
abbrev pub known_at : Option Entry → Option Known
known_at None = None
known_at (Some entry) = known_of entry.standing entry.row

abbrev pub entry_at : Table → Option ℕ → Option Entry
entry_at table None = None
entry_at table (Some place) = slice_get table place

-- what is known of the symbols of a table
abbrev pub known : Table → Knowledge
known table name = known_at (entry_at table (place_of table name))

-- why the EQU of a symbol has no value, if it has none: it is deferred still, or it is neither absolute nor simply relocatable
abbrev pub trouble_of : Standing → Option Trouble
trouble_of Settled = None
trouble_of (Deferred sized tree here) = Some Unresolved
trouble_of Faulty = Some Unsimple

abbrev pub trouble_at : Option Entry → Option Trouble
trouble_at None = None
trouble_at (Some entry) = trouble_of entry.standing

abbrev pub row_of : Entry → SymbolRow
row_of entry = entry.row
