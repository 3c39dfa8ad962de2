use Rattle.std.proofs.Common.{rules, ◌≡◌, true, if◌then◌else◌, map, sym, ap, ◌∙◌}
use Rattle.std.specs.BTreeSet.{insert_key}
use Rattle.trace_variables.specs.contracts.key.KeyOrd.TheImpl as key_ord
use Rattle.trace_variables.specs.Values.{key_order}
use Rattle.trace_variables.specs.Seen.{seen_key, seen_symbols, declared_symbol}
use Rattle.trace_variables.proofs.OrderLemmas.{key_same}
use Rattle.trace_variables.proofs.KnownLemmas.{insert_seen}
use Rattle.trace_variables.proofs.known.note.Goals as goal

pub returns : goal.returns
returns c =
    let global : c.args.declaration.now.global ≡ true = search (rules, c.if-not-declaration.false) in
    ap (map seen_key) c.in_ok-insert.ensures.keys
    ∙ insert_seen (key_ord.ghosts).cmp key_same c.args.symbols.now.keys c.declared_symbol.result
    ∙ ap (insert_key key_order (seen_symbols c.args.symbols.now)) c.declared_symbol.ensures
    ∙ sym
    (ap (λ global. if global then insert_key key_order (seen_symbols c.args.symbols.now) (declared_symbol c.args.declaration.now)
    else seen_symbols c.args.symbols.now) global)
