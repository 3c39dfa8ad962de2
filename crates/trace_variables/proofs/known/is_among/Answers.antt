use Rattle.std.proofs.Common.{ap, ◌∙◌}
use Rattle.std.specs.List.{list_any}
use Rattle.std.specs.BTreeMap.{is_at}
use Rattle.trace_variables.specs.contracts.key.KeyOrd.TheImpl as key_ord
use Rattle.trace_variables.specs.Values.{key_order}
use Rattle.trace_variables.specs.Seen.{seen_symbols}
use Rattle.trace_variables.proofs.OrderLemmas.{key_same}
use Rattle.trace_variables.proofs.KnownLemmas.{any_seen}
use Rattle.trace_variables.proofs.known.is_among.Goals as goal

pub returns : goal.returns
returns c =
    c.contains.ensures
    ∙ any_seen (key_ord.ghosts).cmp key_same c.args.symbols.now.keys c.symbol_of.result
    ∙ ap (λ key. list_any (is_at (key_order key)) (seen_symbols c.args.symbols.now)) c.symbol_of.ensures
