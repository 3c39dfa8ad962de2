use Rattle.std.proofs.Common.{◌≡◌, ◌∙◌, ◌+◌, ◌<◌, ◌≤◌, refl, sym, ap, arith, get_or, length}
use Rattle.hlasm_statements.specs.Places.{places_in}
use Rattle.hlasm_statements.proofs.PlacesLaws.{left-init, left-here, left-next, left-last, left-last-below}
use Rattle.hlasm_statements.proofs.places.Places.at.Goals as goal

pub loop-run-init : goal.loop-run-init
loop-run-init c = λ within. left-init c.self.inside.full.items c.self.inside.last c.args.index within

pub loop-run-preserved : goal.loop-run-preserved
loop-run-preserved c = λ within.
    left-next c.self.inside.full.items c.self.inside.last c.loop-run.run-index c.loop-run.left c.args.index _ c.run-item.result (c.loop-run.invariant within)
    (omega (arith, c.loop-run-test.true, ap length c.deref-run-items.ensures.value))
    (c.run-item.is ∙ ap (λ xs. get_or xs c.loop-run.run-index c.run-item.result) c.deref-run-items.ensures.value) c.if-left-count.false refl

pub returns-then-left-count : goal.returns-then-left-count
returns-then-left-count c = λ (within : c.args.index < length c.args.self.now).
    let inside : c.args.index < length (places_in c.self.inside.full.items c.self.inside.last) = omega (arith, within, ap length c.self.view_is) in
    left-here c.self.inside.full.items c.self.inside.last c.loop-run.run-index c.loop-run.left c.args.index c.run-item.result (c.loop-run.invariant inside)
    (omega (arith, c.loop-run-test.true, ap length c.deref-run-items.ensures.value))
    (c.run-item.is ∙ ap (λ xs. get_or xs c.loop-run.run-index c.run-item.result) c.deref-run-items.ensures.value) c.if-left-count.true _ _ refl refl
    ∙ ap (λ places. get_or places c.args.index (c.run-item.result.line, c.run-item.result.from + c.loop-run.left)) c.self.view_is

pub returns : goal.returns
returns c = λ (within : c.args.index < length c.args.self.now).
    let inside : c.args.index < length (places_in c.self.inside.full.items c.self.inside.last) = omega (arith, within, ap length c.self.view_is) in
    let past : length c.self.inside.full.items ≤ c.loop-run.run-index = omega (arith, c.loop-run-test.false, ap length c.deref-run-items.ensures.value) in
    let is = c.loop-run.invariant inside in
    let below = left-last-below c.self.inside.full.items c.self.inside.last c.loop-run.run-index c.loop-run.left c.args.index is past in
    let here : c.at.result ≡ (c.self.inside.last.line, c.self.inside.last.from + c.loop-run.left) = c.at.ensures below in
    here
    ∙ left-last c.self.inside.full.items c.self.inside.last c.loop-run.run-index c.loop-run.left c.args.index is past _ _ refl refl
    ∙ ap (λ places. get_or places c.args.index (c.self.inside.last.line, c.self.inside.last.from + c.loop-run.left)) c.self.view_is
    ∙ ap (λ d. get_or c.args.self.now c.args.index d) (sym here)
