use Rattle.std.proofs.Common.{◌∙◌}
use Rattle.lsp_messages.specs.Written.{symbol_value}
use Rattle.lsp_messages.proofs.TokenLaws.{left_after_next}
use Rattle.lsp_messages.proofs.answering.write_symbols.Goals as goal

pub loop-symbol-preserved : goal.loop-symbol-preserved
loop-symbol-preserved c = record {
  before = c.in_ok-write_symbol.ensures.before ∙ c.loop-symbol.invariant.before;
  tokens = left_after_next symbol_value c.args.symbols.now c.loop-symbol.symbol-index c.symbol-item.result _ _ _ c.loop-symbol-test.true c.symbol-item.is c.loop-symbol.invariant.tokens c.in_ok-write_symbol.ensures.tokens;
}
