use Rattle.std.proofs.Common.{◌-◌, ◌<◌, ◌≤◌, [], refl, subst}
use Rattle.std.specs.Prelude.{Option}
use Rattle.expression_grammar.specs.declared.reader.Moved.{Moved}
use Rattle.expression_grammar.specs.Spelling.{Placed, most_parts}
use Rattle.expression_grammar.specs.Reading.{State, step, weight}
use Rattle.expression_grammar.specs.Moves.{Moves}
use Rattle.expression_grammar.specs.Stacks.{stack_of, stand}
use Rattle.expression_grammar.proofs.MoveLaws.{advance_none, advance_some, advance_over}
use Rattle.expression_grammar.proofs.parse.advance.Goals as goal

pub returns-in_default : goal.returns-in_default
returns-in_default c =
    let state : State = stand c.args.progress.point (stack_of c.args.progress.stack.items []) in
    let p : Placed = record { at = c.args.at; code = c.args.c } in
    let m : Moves (step c.args.grammar state p) (weight state) c.in_ok-moved.field-0 (stack_of c.step.new.stack.items []) = c.in_ok-moved.ensures in
    (refl, advance_none c.args.grammar state p (subst (λ (o : Option Moved). Moves (step c.args.grammar state p) (weight state) o (stack_of c.step.new.stack.items [])) c.in_default.is m))

pub returns-then-moved-before : goal.returns-then-moved-before
returns-then-moved-before c =
    let state : State = stand c.args.progress.point (stack_of c.args.progress.stack.items []) in
    let p : Placed = record { at = c.args.at; code = c.args.c } in
    let m : Moves (step c.args.grammar state p) (weight state) c.in_ok-moved.field-0 (stack_of c.step.new.stack.items []) = c.in_ok-moved.ensures in
    let over : most_parts - c.args.progress.weight < c.in-Some.moved.more = c.if-moved-before.true in (
      refl,
      advance_over c.args.grammar state p c.args.progress.weight c.in-Some.moved (stack_of c.step.new.stack.items [])
          (subst (λ (o : Option Moved). Moves (step c.args.grammar state p) (weight state) o (stack_of c.step.new.stack.items [])) c.in-Some.is m) c.requires.weighed c.requires.small over,
    )

pub returns : goal.returns
returns c =
    let state : State = stand c.args.progress.point (stack_of c.args.progress.stack.items []) in
    let p : Placed = record { at = c.args.at; code = c.args.c } in
    let m : Moves (step c.args.grammar state p) (weight state) c.in_ok-moved.field-0 (stack_of c.step.new.stack.items []) = c.in_ok-moved.ensures in
    let within : c.in-Some.moved.more ≤ most_parts - c.args.progress.weight = c.if-moved-before.false in
    advance_some c.args.grammar state p c.args.progress.weight c.in-Some.moved (stack_of c.step.new.stack.items [])
    (subst (λ (o : Option Moved). Moves (step c.args.grammar state p) (weight state) o (stack_of c.step.new.stack.items [])) c.in-Some.is m) c.requires.weighed c.requires.small within
