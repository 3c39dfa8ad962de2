use Rattle.symbol_answers.specs.Answers.{stands_in, symbol_of}
use Rattle.symbol_answers.proofs.ListLaws.{filter_next}
use Rattle.symbol_answers.proofs.symbols.symbols_in.Goals as goal

pub loop-row-preserved : goal.loop-row-preserved
loop-row-preserved c =
    filter_next (symbol_of c.args.site.now.text) (λ row. stands_in c.args.path.0 row.stack) c.args.rows.now _ _ c.loop-row.row-index c.row-item.result
    c.loop-row.invariant c.loop-row-test.true c.row-item.is c.in_ok-add_symbol.ensures
