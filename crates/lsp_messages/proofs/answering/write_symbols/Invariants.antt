-- what is written and what is left are the whole list
use Rattle.std.proofs.Common.{◌≡◌, ◌∷◌, ◌++◌, map, drop}
use Rattle.json.specs.Token.{begin_array}
use Rattle.serde_json.specs.View.{items_of}
use Rattle.lsp_messages.specs.Tokens.{tokens_left}
use Rattle.lsp_messages.specs.Written.{symbol_value}
use Rattle.lsp_messages.proofs.answering.write_symbols.Given as goal

abbrev pub invariant-loop-symbol : goal.invariant-loop-symbol
invariant-loop-symbol l = record {
  before : l.out.before ≡ l.fn.out.before;
  tokens : l.out.tokens ++ tokens_left (items_of (map symbol_value (drop l.symbol-index l.symbols))) ≡ l.fn.out.tokens ++ begin_array ∷ tokens_left (items_of (map symbol_value l.symbols));
}
