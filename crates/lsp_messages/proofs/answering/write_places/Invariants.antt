-- what is written and what is left are the whole list
use Rattle.std.proofs.Common.{◌≡◌, ◌∷◌, ◌++◌, map, drop}
use Rattle.json.specs.Token.{begin_array}
use Rattle.serde_json.specs.View.{items_of}
use Rattle.lsp_messages.specs.Tokens.{tokens_left}
use Rattle.lsp_messages.specs.Written.{place_value}
use Rattle.lsp_messages.proofs.answering.write_places.Given as goal

abbrev pub invariant-loop-place : goal.invariant-loop-place
invariant-loop-place l = record {
  before : l.out.before ≡ l.fn.out.before;
  tokens : l.out.tokens ++ tokens_left (items_of (map place_value (drop l.place-index l.places))) ≡ l.fn.out.tokens ++ begin_array ∷ tokens_left (items_of (map place_value l.places));
}
