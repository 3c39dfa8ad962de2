use Rattle.std.proofs.Common.{◌≡◌, ℕ, ◌-◌, ◌<◌, ◌≤◌, [], refl, subst, rules}
use Rattle.std.specs.Prelude.{Option}
use Rattle.logical_grammar.specs.declared.logic_point.LogicMoved.{LogicMoved}
use Rattle.logical_grammar.specs.declared.logic_point.LogicPoint.{LogicPoint}
use Rattle.expression_grammar.specs.Spelling.{Placed, most_parts}
use Rattle.logical_grammar.specs.LogicReading.{LogicState, at_point, logic_step, logic_weight}
use Rattle.logical_grammar.specs.LogicViews.{LogicMoves, open_of, point_of}
use Rattle.logical_grammar.proofs.LogicMoveLaws.{logic_advance_none, logic_advance_some, logic_advance_over}
use Rattle.logical_grammar.proofs.parse_truth.advance_anywhere.Goals as goal

pub returns-in_default : goal.returns-in_default
returns-in_default c =
    let state : LogicPoint → LogicState = λ q. at_point (open_of c.args.progress.now.stack.items []) (point_of q) in
    let start : LogicState = state c.args.progress.now.point in
    let p : Placed = record { at = c.args.at; code = c.args.c } in
    let m : LogicMoves (logic_step start p) (logic_weight start) c.in_ok-moved.field-0 (open_of c.logic_step.new.layers.items []) =
    subst (λ (q : LogicPoint). LogicMoves (logic_step (state q) p) (logic_weight (state q)) c.in_ok-moved.field-0 (open_of c.logic_step.new.layers.items [])) c.replace-point.ensures.value c.in_ok-moved.ensures in
    (refl, logic_advance_none start p (subst (λ (o : Option LogicMoved). LogicMoves (logic_step start p) (logic_weight start) o (open_of c.logic_step.new.layers.items [])) c.in_default.is m))

pub returns-then-moved-from : goal.returns-then-moved-from
returns-then-moved-from c =
    let state : LogicPoint → LogicState = λ q. at_point (open_of c.args.progress.now.stack.items []) (point_of q) in
    let start : LogicState = state c.args.progress.now.point in
    let p : Placed = record { at = c.args.at; code = c.args.c } in
    let m : LogicMoves (logic_step start p) (logic_weight start) c.in_ok-moved.field-0 (open_of c.logic_step.new.layers.items []) =
    subst (λ (q : LogicPoint). LogicMoves (logic_step (state q) p) (logic_weight (state q)) c.in_ok-moved.field-0 (open_of c.logic_step.new.layers.items [])) c.replace-point.ensures.value c.in_ok-moved.ensures in
    let most : c.from.result ≡ most_parts = search rules in
    let over : most_parts - c.args.progress.now.weight < c.in-Some.moved.more = subst (λ (n : ℕ). n - c.args.progress.now.weight < c.in-Some.moved.more) most c.if-moved-from.true in (
      refl,
      logic_advance_over start p c.args.progress.now.weight c.in-Some.moved (open_of c.logic_step.new.layers.items [])
          (subst (λ (o : Option LogicMoved). LogicMoves (logic_step start p) (logic_weight start) o (open_of c.logic_step.new.layers.items [])) c.in-Some.is m) c.requires.weighed c.requires.small over,
    )

pub returns : goal.returns
returns c =
    let state : LogicPoint → LogicState = λ q. at_point (open_of c.args.progress.now.stack.items []) (point_of q) in
    let start : LogicState = state c.args.progress.now.point in
    let p : Placed = record { at = c.args.at; code = c.args.c } in
    let m : LogicMoves (logic_step start p) (logic_weight start) c.in_ok-moved.field-0 (open_of c.logic_step.new.layers.items []) =
    subst (λ (q : LogicPoint). LogicMoves (logic_step (state q) p) (logic_weight (state q)) c.in_ok-moved.field-0 (open_of c.logic_step.new.layers.items [])) c.replace-point.ensures.value c.in_ok-moved.ensures in
    let most : c.from.result ≡ most_parts = search rules in
    let within : c.in-Some.moved.more ≤ most_parts - c.args.progress.now.weight = subst (λ (n : ℕ). c.in-Some.moved.more ≤ n - c.args.progress.now.weight) most c.if-moved-from.false in
    logic_advance_some start p c.args.progress.now.weight c.in-Some.moved (open_of c.logic_step.new.layers.items [])
    (subst (λ (o : Option LogicMoved). LogicMoves (logic_step start p) (logic_weight start) o (open_of c.logic_step.new.layers.items [])) c.in-Some.is m) c.requires.weighed c.requires.small within
