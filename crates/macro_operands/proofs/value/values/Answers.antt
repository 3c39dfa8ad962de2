use Rattle.std.proofs.Common.{◌+◌, ℕ, List, Option, Some, None, drop, Ok, Err, sym, subst}
use Rattle.std.specs.Str.{chars}
use Rattle.cond_expr.specs.Outcome.{Outcome, Tells}
use Rattle.macro_operands.specs.Calling.{value, values}
use Rattle.macro_operands.proofs.CallLaws.{behind, tells-all, tells-more, tells-none, tells-stop, tells-end, values-at, values-past}
use Rattle.macro_operands.proofs.value.values.Goals as goal

pub loop-text-init : goal.loop-text-init
loop-text-init g c =
    let all = values c.args.texts.now (g.Q.Lookups.told c.args.q.now) in
    λ after r t. tells-all all c.args.notes.now after r (subst (λ (w : List (List ℕ)). Tells (behind w all) c.args.notes.now after r) c.new-done.ensures t)

pub returns-in-Err : goal.returns-in-Err
returns-in-Err g c =
    let told = g.Q.Lookups.told c.args.q.now in
    let i = c.loop-text.text-index in
    let all = c.args.texts.now in
    let text = c.text-item.result in
    let others = values (drop (i + 1) all) told in
    let before = c.loop-text.notes in
    let after = c.value.new.notes in
    let stop = c.in-Err.stop in
    let first : Tells (value text told) before after (Err stop) =
    subst (λ (t : List ℕ). Tells (value t told) before after (Err stop)) c.as_str.ensures.characters c.in-Err.ensures in
    c.loop-text.invariant after (Err stop)
    (subst (λ (o : Outcome (Option (List (List ℕ)))). Tells (behind c.loop-text.done o) before after (Err stop))
    (sym (values-at all i text told c.loop-text-test.true c.text-item.is))
    (tells-stop (value text told) others c.loop-text.done before after after stop first))

pub returns-in-Ok-None : goal.returns-in-Ok-None
returns-in-Ok-None g c =
    let told = g.Q.Lookups.told c.args.q.now in
    let i = c.loop-text.text-index in
    let all = c.args.texts.now in
    let text = c.text-item.result in
    let others = values (drop (i + 1) all) told in
    let before = c.loop-text.notes in
    let after = c.value.new.notes in
    let found : Tells (value (chars c.as_str.result.now) told) before after (Ok None) =
    subst (λ (o : Option (List ℕ)). Tells (value (chars c.as_str.result.now) told) before after (Ok o)) c.in-Ok-None.field-0-is c.in-Ok-None.ensures in
    let first : Tells (value text told) before after (Ok None) =
    subst (λ (t : List ℕ). Tells (value t told) before after (Ok None)) c.as_str.ensures.characters found in
    c.loop-text.invariant after (Ok None)
    (subst (λ (o : Outcome (Option (List (List ℕ)))). Tells (behind c.loop-text.done o) before after (Ok None))
    (sym (values-at all i text told c.loop-text-test.true c.text-item.is))
    (tells-none (value text told) others c.loop-text.done before after first))

pub loop-text-preserved : goal.loop-text-preserved
loop-text-preserved g c =
    let told = g.Q.Lookups.told c.args.q.now in
    let i = c.loop-text.text-index in
    let all = c.args.texts.now in
    let text = c.text-item.result in
    let others = values (drop (i + 1) all) told in
    let before = c.loop-text.notes in
    let middle = c.value.new.notes in
    let one = c.in-Ok-Some.one in
    let found : Tells (value (chars c.as_str.result.now) told) before middle (Ok (Some one)) =
    subst (λ (o : Option (List ℕ)). Tells (value (chars c.as_str.result.now) told) before middle (Ok o)) c.in-Ok-Some.field-0-is c.in-Ok-Some.ensures in
    let first : Tells (value text told) before middle (Ok (Some one)) =
    subst (λ (t : List ℕ). Tells (value t told) before middle (Ok (Some one))) c.as_str.ensures.characters found in
    λ after r t. c.loop-text.invariant after r
    (subst (λ (o : Outcome (Option (List (List ℕ)))). Tells (behind c.loop-text.done o) before after r)
    (sym (values-at all i text told c.loop-text-test.true c.text-item.is))
    (tells-more (value text told) others c.loop-text.done one before middle after r first
    (subst (λ (w : List (List ℕ)). Tells (behind w others) middle after r) c.in_ok-push-in-Ok-Some.ensures.ok t)))

pub returns : goal.returns
returns g c =
    let told = g.Q.Lookups.told c.args.q.now in
    let notes = c.loop-text.notes in
    c.loop-text.invariant notes (Ok (Some c.loop-text.done))
    (subst (λ (o : Outcome (Option (List (List ℕ)))). Tells (behind c.loop-text.done o) notes notes (Ok (Some c.loop-text.done)))
    (sym (values-past c.args.texts.now c.loop-text.text-index told c.loop-text-test.false))
    (tells-end c.loop-text.done notes))
