use Rattle.std.proofs.Common.{◌≡◌, sym, ap, ◌∙◌, Some}
use Rattle.std.specs.Prelude.{option_map}
use Rattle.plain_expansion.specs.Language.{Point, Fault, NoFault}
use Rattle.plain_expansion.specs.Expansion.{branched}
use Rattle.plain_expansion.specs.Engine.{Doing, Telling, GoingOn, puts_then, step_of}
use Rattle.expansion_step.specs.Meaning.{meaning, pairs_by, stack_by, point_by}
use Rattle.expansion_step.proofs.Steps.{takes-at}
use Rattle.expansion_step.proofs.expander.Expander.branch.Goals as goal

pub returns : goal.returns
returns g c =
    let L = g.X.CodedLanguage.language in
    let m = meaning g.X.CodedLanguage.reads g.X.CodedLanguage.call_of g.X.Call.Kept.code g.X.Key.Kept.code g.X.Value.Kept.code in
    let reads = g.X.CodedLanguage.reads in
    let old = c.args.stack.now in
    let known = reads.changed c.in-Some-change.change (reads.known old.known) in
    let x = record old { known = c.change.new.known; here = record old.here { position = c.in-Some.position } } in
    let changed : _ → L.words.Known = λ d. reads.changed d (reads.known old.known) in
    let next = record (stack_by m x) { known = known } in
    let points : Fault → Point L.words = λ fault. point_by m old c.args.said fault in
    let told : Doing (Telling (reads.item c.in_ok-item-3.item.value) (puts_then (pairs_by m c.new-2.result.items) (GoingOn (stack_by m x))))
    ≡ Doing (Telling (L.item_of (points NoFault)) (GoingOn next)) =
    ap (λ z. Doing (Telling (reads.item c.in_ok-item-3.item.value) (puts_then (pairs_by m z) (GoingOn (stack_by m x))))) c.new-2.ensures.items
    ∙ ap (λ z. Doing (Telling z (GoingOn (stack_by m x)))) c.in_ok-item-3.ensures
    ∙ ap {A = L.words.Known} (λ k. Doing (Telling (L.item_of (points NoFault)) (GoingOn (record next { known = k })))) c.in_ok-change.ensures in
    let goes : Doing (step_of L (branched c.args.place (option_map changed c.args.change) points (stack_by m old))
    (stack_by m old)) ≡ Doing (Telling (L.item_of (points NoFault)) (GoingOn next)) =
    ap (λ p. Doing (step_of L (branched p (option_map changed c.args.change) points (stack_by m old)) (stack_by m old))) c.in-Some.is
    ∙ ap (λ k. Doing (step_of L (branched (Some c.in-Some.position) (option_map changed k) points (stack_by m old))
    (stack_by m old))) c.in-Some-change.is in
    takes-at m (Doing (Telling (reads.item c.in_ok-item-3.item.value) (puts_then (pairs_by m c.new-2.result.items) (GoingOn (stack_by m x)))))
    (Doing (step_of L (branched c.args.place (option_map changed c.args.change) points (stack_by m old)) (stack_by m old))) x
    c.tell-2.result (told ∙ sym goes) (c.tell-2.ensures x)
