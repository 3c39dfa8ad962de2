use Rattle.ordinary_symbols.specs.Shown.{table_of}
use Rattle.ordinary_symbols.specs.Table.{known}
use Rattle.using_statements.proofs.Turns.{using_said}
use Rattle.using_statements.specs.Views.{using_operands_of}
use Rattle.using_statements.proofs.using.push_read.Goals as goal

pub returns : goal.returns
returns c =
    using_said c.push_registers.result (known (table_of c.args.symbols.now)) c.args.here (using_operands_of c.args.operands.now) c.in_ok-is_bad.is_bad
    c.args.rows.now.items c.push_bounds.new.rows.items c.push_registers.new.rows.items
    c.in_ok-is_bad.ensures.said c.in_ok-is_bad.ensures.bad (rw c.as_slice.ensures.value at c.push_registers.ensures)
