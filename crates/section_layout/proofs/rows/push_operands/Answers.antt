use Rattle.std.proofs.Common.{arith}
use Rattle.ordinary_symbols.specs.Shown.{table_of}
use Rattle.ordinary_symbols.specs.Table.{known}
use Rattle.section_layout.proofs.Turns.{operands_more}
use Rattle.section_layout.proofs.rows.push_operands.Goals as goal

pub loop-operand-preserved : goal.loop-operand-preserved
loop-operand-preserved c =
    operands_more (known
    (table_of c.args.symbols.now)) c.args.here c.args.rows.now.items c.loop-operand.rows.items c.push_one.new.rows.items
    c.args.operands.now c.loop-operand.operand-index c.operand-item.result
    c.loop-operand.invariant c.in_ok-push_one.ensures (omega arith) c.operand-item.is
