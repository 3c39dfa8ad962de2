use Rattle.ordinary_symbols.specs.Shown.{table_of}
use Rattle.ordinary_symbols.specs.Table.{known}
use Rattle.constant_expressions.proofs.ElementTurns.{elements_more}
use Rattle.constant_expressions.proofs.notes.push_elements.Goals as goal

pub loop-element-preserved : goal.loop-element-preserved
loop-element-preserved c =
    elements_more (known (table_of c.args.symbols.now)) c.args.here c.args.rows.now.items c.loop-element.rows.items c.push_element.new.rows.items
    c.args.elements.now c.loop-element.element-index c.element-item.result
    c.loop-element.invariant c.in_ok-push_element.ensures c.loop-element-test.true c.element-item.is
