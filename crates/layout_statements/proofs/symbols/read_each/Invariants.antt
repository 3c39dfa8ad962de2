use Rattle.std.proofs.Common.{◌≡◌, map, take}
use Rattle.layout_statements.specs.Symbols.{symbol_reading}
use Rattle.layout_statements.specs.Views.{symbol_reading_of}
use Rattle.layout_statements.proofs.symbols.read_each.Given as goal

-- the symbols of the operands so far
abbrev pub invariant-loop-operand : goal.invariant-loop-operand
invariant-loop-operand l = map symbol_reading_of l.symbols.items ≡ map symbol_reading (take l.operand-index l.operands)
