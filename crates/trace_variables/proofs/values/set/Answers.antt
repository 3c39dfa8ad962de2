use Rattle.std.proofs.Common.{◌≡◌, map, ap, ◌∙◌}
use Rattle.trace_variables.specs.contracts.key.KeyOrd.TheImpl as key_ord
use Rattle.trace_variables.specs.Values.{put, key_of}
use Rattle.trace_variables.specs.Seen.{seen, seen_key, seen_entry}
use Rattle.trace_variables.proofs.OrderLemmas.{key_same}
use Rattle.trace_variables.proofs.MapLemmas.{insert_seen}
use Rattle.trace_variables.proofs.values.set.Goals as goal

pub returns : goal.returns
returns c =
    let old = seen c.args.values.now in
    let setting = c.args.setting.now in
    let key : seen_key c.of-key.result ≡ key_of setting =
    c.of-key.ensures
    ∙ ap (λ (k : _). record { name = setting.name; kind = k; element = setting.element }) c.of_value-kind.ensures in
    ap (map seen_entry) c.in_ok-insert.ensures.entries
    ∙ insert_seen (key_ord.ghosts).cmp key_same c.args.values.now.entries c.of-key.result c.in_ok-value.value
    ∙ ap (λ k. put old k c.in_ok-value.value) key
    ∙ ap (put old (key_of setting)) c.in_ok-value.ensures
