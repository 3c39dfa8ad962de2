-- A table as the map that holds it. No public clause cites this file. This project.
use Rattle.std.specs.Prelude.{◌≡◌, ℕ, List, map, string_bytes}
use Rattle.std.specs.Ordering.{nat_cmp}
use Rattle.std.specs.FinMap as finite
use Rattle.std.specs.declared.string.String.{String}
use Rattle.std.specs.declared.alloc.Global.{Global}
use Rattle.std.specs.declared.hash.FoldHasher.{FoldHasher}
use Rattle.std.specs.declared.hash.BuildHasherDefault.{BuildHasherDefault}
use Rattle.indexmap.specs.IndexMap.{IndexMap}
use Rattle.hl_base.specs.declared.set.SetValue.{SetValue}
use Rattle.set_symbols.specs.Table.{Table, Symbol as Seen}
use Rattle.set_symbols.specs.declared.symbol.Symbol.{Symbol}

-- the values of a symbol's elements
abbrev pub values_of : Symbol → finite.FinMap nat_cmp SetValue
values_of symbol = finite.from_entries symbol.values.entries

-- a symbol of this name, as contracts see it
abbrev pub named : List ℕ → Symbol → Seen
named name symbol = record {
  name = name;
  declared = symbol.declared;
  values = values_of symbol;
}

-- a symbol under its name, as contracts see it
abbrev pub seen : String Global × Symbol → Seen
seen entry = named (string_bytes entry.0) entry.1

-- the table that these entries are
abbrev pub table_from : List (String Global × Symbol) → Table
table_from entries = map seen entries

-- the table that this map is
abbrev pub table_of : IndexMap (String Global) Symbol (BuildHasherDefault FoldHasher) → Table
table_of symbols = table_from symbols.entries

-- a symbol after a value was set at a place
pub record Holds (old new : Symbol) (at : ℕ) (held : SetValue) : Type 0 where
  pub declared : new.declared ≡ old.declared
  pub values : values_of new ≡ finite.insert (values_of old) at held

-- a symbol that says what it said
pub record Stays (old new : Symbol) : Type 0 where
  pub declared : new.declared ≡ old.declared
  pub values : values_of new ≡ values_of old
