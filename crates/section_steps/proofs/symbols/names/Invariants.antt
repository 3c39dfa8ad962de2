use Rattle.std.proofs.Common.{◌≡◌, ◌++◌, length, map}
use Rattle.layout_statements.specs.Views.{symbol_reading_of}
use Rattle.section_steps.specs.Symbols.{names_of, unread_symbols}
use Rattle.section_steps.proofs.symbols.names.Given as goal

-- what there is so far, and then what there is of the operands that are left
abbrev pub invariant-loop-symbols : goal.invariant-loop-symbols
invariant-loop-symbols l = record {
  names : l.names.items ++ names_of (map symbol_reading_of l.symbols) ≡ l.initial.names.items
      ++ names_of (map symbol_reading_of l.initial.symbols);
  said : l.rows.items ++ unread_symbols (map symbol_reading_of l.symbols) ≡ l.initial.rows.items
      ++ unread_symbols (map symbol_reading_of l.initial.symbols);
}

abbrev pub decreases-loop-symbols : goal.decreases-loop-symbols
decreases-loop-symbols l = length l.symbols
