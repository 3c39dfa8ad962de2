use Rattle.std.proofs.Common.{◌≡◌, ap, ◌∙◌}
use Rattle.plain_expansion.specs.Language.{Stack as StackOf, NoFault}
use Rattle.plain_expansion.specs.Expansion.{stepped}
use Rattle.plain_expansion.specs.Engine.{Doing, Telling, GoingOn, puts_then, step_by}
use Rattle.expansion_step.specs.declared.act.Act.TheVariants as does
use Rattle.expansion_step.specs.Meaning.{meaning, pairs_by, stack_by, point_by, effect_by}
use Rattle.expansion_step.proofs.Steps.{takes-at}
use Rattle.expansion_step.proofs.expander.Expander.continue_on.Goals as goal

pub returns : goal.returns
returns g c =
    let L = g.X.CodedLanguage.language in
    let m = meaning g.X.CodedLanguage.reads g.X.CodedLanguage.call_of g.X.Call.Kept.code g.X.Key.Kept.code g.X.Value.Kept.code in
    let reads = g.X.CodedLanguage.reads in
    let old = c.args.stack.now in
    let x = record c.step_on.new.stack { known = c.change.new.known } in
    let item = reads.item c.in_ok-item.item.value in
    let puts = pairs_by m c.args.puts.items in
    let known = reads.changed c.args.change (reads.known old.known) in
    let next = record (stepped (stack_by m old)) { known = known } in
    let kept : reads.known c.step_on.new.stack.known ≡ reads.known old.known = ap {A = StackOf L.words}
    (λ z. z.known) c.in_ok-step_on.ensures in
    let changed : reads.known x.known ≡ known = c.in_ok-change.ensures ∙ ap (reads.changed c.args.change) kept in
    let at : stack_by m x ≡ next = ap {A = StackOf L.words} (λ z. record z { known = reads.known x.known }) c.in_ok-step_on.ensures
    ∙ ap {A = L.words.Known} (λ k. record (stepped (stack_by m old)) { known = k }) changed in
    let told : Doing (Telling item (puts_then puts (GoingOn (stack_by m x)))) ≡ Doing
    (Telling (L.item_of (point_by m old c.args.said NoFault)) (puts_then puts (GoingOn next))) =
    ap (λ z. Doing (Telling item (puts_then puts (GoingOn z)))) at
    ∙ ap (λ z. Doing (Telling z (puts_then puts (GoingOn next)))) c.in_ok-item.ensures in
    takes-at m (Doing (Telling item (puts_then puts (GoingOn (stack_by m x)))))
    (Doing (step_by L (effect_by m (reads.known old.known) c.args.said (does.Continues c.args.change c.args.puts)) (stack_by m old))) x c.tell.result told (c.tell.ensures x)
