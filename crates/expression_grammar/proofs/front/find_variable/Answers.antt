use Rattle.std.proofs.Common.{◌≡◌, ◌+◌, [], ◌∷◌, ◌++◌, length, arith, rules, length-append, sym}
use Rattle.std.proofs.lemmas.Iterator.{YieldsList-from_chars}
use Rattle.std.proofs.lemmas.Iterator.Consumers.{YieldsList-turn, YieldsList-end}
use Rattle.std.specs.Str.{chars}
use Rattle.expression_grammar.specs.declared.character.Grammar.TheVariants.{Arithmetic}
use Rattle.expression_grammar.specs.Reading.{State, accept, advance}
use Rattle.expression_grammar.specs.Readings.{read_variable}
use Rattle.expression_grammar.specs.Spelling.{most_parts}
use Rattle.expression_grammar.specs.Stacks.{stack_of, stand}
use Rattle.expression_grammar.proofs.FrontLaws.{variable_here, stops_variable, variable_on, variable_past, some-accepted}
use Rattle.expression_grammar.proofs.front.find_variable.Goals as goal

pub end_front-requires : goal.end_front-requires
end_front-requires c = some-accepted c.in-Some.c (accept Arithmetic (stand c.in-Ok.next.point (stack_of c.in-Ok.next.stack.items []))) (sym c.if-ends_with.ensures)

pub returns-then-ends_with : goal.returns-then-ends_with
returns-then-ends_with c =
    let t = YieldsList-turn (YieldsList-from_chars c.args.text.now c.utf8.text cc) c.loop-c.yielded _ c.loop-c.yielded_by _ _ c.in-Some.c c.in-Some.is c.next.ensures.steps in
    let state : State = stand c.loop-c.progress.point (stack_of c.loop-c.progress.stack.items []) in
    variable_here (advance Arithmetic most_parts) (accept Arithmetic) (chars c.args.text.now) (length c.loop-c.yielded) c.in-Some.c c.loop-c.at state (read_variable (chars c.args.text.now))
    (stand c.in-Ok.next.point (stack_of c.in-Ok.next.stack.items [])) c.end_front.result
    t.0 t.1 c.loop-c.invariant.0 c.loop-c.invariant.3 c.in-Ok.ensures.0 (sym c.if-ends_with.ensures) c.end_front.ensures

pub returns-in-Err : goal.returns-in-Err
returns-in-Err c =
    let t = YieldsList-turn (YieldsList-from_chars c.args.text.now c.utf8.text cc) c.loop-c.yielded _ c.loop-c.yielded_by _ _ c.in-Some.c c.in-Some.is c.next.ensures.steps in
    let state : State = stand c.loop-c.progress.point (stack_of c.loop-c.progress.stack.items []) in
    stops_variable (chars c.args.text.now) (length c.loop-c.yielded) c.in-Some.c c.loop-c.at state (read_variable (chars c.args.text.now)) c.in-Err.fault
    t.0 t.1 c.loop-c.invariant.0 c.loop-c.invariant.3 c.in-Err.ensures

pub loop-c-preserved : goal.loop-c-preserved
loop-c-preserved c =
    let t = YieldsList-turn (YieldsList-from_chars c.args.text.now c.utf8.text cc) c.loop-c.yielded _ c.loop-c.yielded_by _ _ c.in-Some.c c.in-Some.is c.next.ensures.steps in
    let size : length (c.loop-c.yielded ++ c.in-Some.c ∷ []) ≡ length c.loop-c.yielded + 1 = length-append c.loop-c.yielded (c.in-Some.c ∷ []) in
    let so_far : c.loop-c.at ≡ length c.loop-c.yielded = c.loop-c.invariant.0 in
    let next : c.in_ok-at.at ≡ c.loop-c.at + 1 = search rules in
    let state : State = stand c.loop-c.progress.point (stack_of c.loop-c.progress.stack.items []) in (
      omega (arith, size, so_far, next),
      c.in-Ok.ensures.1,
      c.in-Ok.ensures.2,
      variable_on (advance Arithmetic most_parts) (accept Arithmetic) (chars c.args.text.now) (length c.loop-c.yielded) c.in-Some.c c.loop-c.at state (read_variable (chars c.args.text.now))
          (length (c.loop-c.yielded ++ c.in-Some.c ∷ [])) (stand c.in-Ok.next.point (stack_of c.in-Ok.next.stack.items []))
          t.0 t.1 so_far size c.loop-c.invariant.3 c.in-Ok.ensures.0 (sym c.if-ends_with.ensures),
    )

pub returns : goal.returns
returns c =
    let t = YieldsList-end (YieldsList-from_chars c.args.text.now c.utf8.text cc) c.loop-c.yielded _ c.loop-c.yielded_by _ _ c.in-None.is c.next.ensures.steps in
    let state : State = stand c.loop-c.progress.point (stack_of c.loop-c.progress.stack.items []) in
    variable_past (advance Arithmetic most_parts) (accept Arithmetic) (chars c.args.text.now) (length c.loop-c.yielded) 0 c.loop-c.at state (read_variable (chars c.args.text.now))
    (omega (arith, t.1)) c.loop-c.invariant.0 c.loop-c.invariant.3
