use Rattle.std.proofs.Common.{rules, ◌≡◌, true, is_some, map, sym, ap, ◌∙◌}
use Rattle.std.specs.Bool.{beq}
use Rattle.trace_variables.specs.contracts.key.KeyOrd.TheImpl as key_ord
use Rattle.trace_variables.specs.Values.{has, put, declared_key}
use Rattle.trace_variables.specs.Seen.{seen, seen_key, seen_entry}
use Rattle.trace_variables.proofs.OrderLemmas.{key_same}
use Rattle.trace_variables.proofs.MapLemmas.{insert_seen, lookup_seen}
use Rattle.trace_variables.proofs.ValueLemmas.{stays_declared, puts_declared, same_beq}
use Rattle.trace_variables.proofs.values.declare.Goals as goal

pub returns-then-contains_key : goal.returns-then-contains_key
returns-then-contains_key c =
    let old = seen c.args.values.now in
    let d = c.args.declaration.now in
    let key : seen_key c.of-key.result ≡ declared_key d =
    c.of-key.ensures ∙ ap (λ (k : _). record { name = d.name; kind = k; element = 0 }) c.of.ensures in
    let there : has old (declared_key d) ≡ c.contains_key.result =
    ap (λ k. has old k) (sym key)
    ∙ ap is_some (sym (lookup_seen (key_ord.ghosts).cmp key_same c.args.values.now.entries c.of-key.result)) ∙ sym c.contains_key.ensures in
    stays_declared c.args.global old d (there ∙ c.if-contains_key.true)

pub returns : goal.returns
returns c =
    let old = seen c.args.values.now in
    let d = c.args.declaration.now in
    let key : seen_key c.of-key.result ≡ declared_key d =
    c.of-key.ensures ∙ ap (λ (k : _). record { name = d.name; kind = k; element = 0 }) c.of.ensures in
    let there : has old (declared_key d) ≡ c.contains_key.result =
    ap (λ k. has old k) (sym key)
    ∙ ap is_some (sym (lookup_seen (key_ord.ghosts).cmp key_same c.args.values.now.entries c.of-key.result)) ∙ sym c.contains_key.ensures in
    let same : beq d.global c.args.global ≡ true = same_beq d.global c.args.global (search (rules, c.if-declaration-global.false)) in
    ap (map seen_entry) c.in_ok-insert.ensures.entries
    ∙ insert_seen (key_ord.ghosts).cmp key_same c.args.values.now.entries c.of-key.result c.unset-value.result
    ∙ ap (λ k. put old k c.unset-value.result) key
    ∙ ap (put old (declared_key d)) c.unset-value.ensures
    ∙ puts_declared c.args.global old d c.if-declaration.false same (there ∙ c.if-contains_key.false)
