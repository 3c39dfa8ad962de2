-- The symbols as contracts see them. This project.
use Rattle.std.specs.Prelude.{map}
use Rattle.ordinary_symbols.specs.Table.{Table}
use Rattle.ordinary_symbols.specs.Views.{entry_of}
use Rattle.ordinary_symbols.specs.declared.symbols.Symbols.{Symbols}

-- the symbols in order of definition
abbrev pub table_of : Symbols → Table
table_of symbols = map entry_of symbols.rows.items
