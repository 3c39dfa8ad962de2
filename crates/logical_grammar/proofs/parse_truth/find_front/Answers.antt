use Rattle.std.proofs.Common.{◌≡◌, ◌+◌, [], ◌∷◌, ◌++◌, length, arith, rules, length-append, sym}
use Rattle.std.proofs.lemmas.Iterator.{YieldsList-from_chars}
use Rattle.std.proofs.lemmas.Iterator.Consumers.{YieldsList-turn, YieldsList-end}
use Rattle.std.specs.Str.{chars}
use Rattle.expression_grammar.specs.Spelling.{most_parts}
use Rattle.expression_grammar.proofs.FrontLaws.{front_here, front_on, front_past}
use Rattle.logical_grammar.specs.LogicReading.{LogicState, at_point, logic_accept, logic_advance}
use Rattle.logical_grammar.specs.LogicReadings.{read_logic_front}
use Rattle.logical_grammar.specs.LogicViews.{open_of, point_of}
use Rattle.logical_grammar.proofs.LogicFinds.{stops_front}
use Rattle.logical_grammar.proofs.parse_truth.find_front.Goals as goal

pub returns-then-ends_before : goal.returns-then-ends_before
returns-then-ends_before c =
    let t = YieldsList-turn (YieldsList-from_chars c.args.text.now c.utf8.text cc) c.loop-c.yielded _ c.loop-c.yielded_by _ _ c.in-Some.c c.in-Some.is c.next.ensures.steps in
    let state : LogicState = at_point (open_of c.loop-c.progress.stack.items []) (point_of c.loop-c.progress.point) in
    front_here (logic_advance most_parts) logic_accept (chars c.args.text.now) (length c.loop-c.yielded) c.in-Some.c c.loop-c.at state (read_logic_front (chars c.args.text.now)) c.end_front.result
    t.0 t.1 c.loop-c.invariant.0 c.loop-c.invariant.3 (sym c.if-ends_before.ensures) c.end_front.ensures

pub returns-in-Err : goal.returns-in-Err
returns-in-Err c =
    let t = YieldsList-turn (YieldsList-from_chars c.args.text.now c.utf8.text cc) c.loop-c.yielded _ c.loop-c.yielded_by _ _ c.in-Some.c c.in-Some.is c.next.ensures.steps in
    let state : LogicState = at_point (open_of c.loop-c.progress.stack.items []) (point_of c.loop-c.progress.point) in
    stops_front (chars c.args.text.now) (length c.loop-c.yielded) c.in-Some.c c.loop-c.at state (read_logic_front (chars c.args.text.now)) c.in-Err.fault
    t.0 t.1 c.loop-c.invariant.0 c.loop-c.invariant.3 (sym c.if-ends_before.ensures) c.in-Err.ensures

pub loop-c-preserved : goal.loop-c-preserved
loop-c-preserved c =
    let t = YieldsList-turn (YieldsList-from_chars c.args.text.now c.utf8.text cc) c.loop-c.yielded _ c.loop-c.yielded_by _ _ c.in-Some.c c.in-Some.is c.next.ensures.steps in
    let size : length (c.loop-c.yielded ++ c.in-Some.c ∷ []) ≡ length c.loop-c.yielded + 1 = length-append c.loop-c.yielded (c.in-Some.c ∷ []) in
    let so_far : c.loop-c.at ≡ length c.loop-c.yielded = c.loop-c.invariant.0 in
    let next : c.in_ok-at.at ≡ c.loop-c.at + 1 = search rules in
    let state : LogicState = at_point (open_of c.loop-c.progress.stack.items []) (point_of c.loop-c.progress.point) in (
      omega (arith, size, so_far, next),
      c.in-Ok.ensures.1,
      c.in-Ok.ensures.2,
      front_on (logic_advance most_parts) logic_accept (chars c.args.text.now) (length c.loop-c.yielded) c.in-Some.c c.loop-c.at state (read_logic_front (chars c.args.text.now))
          (length (c.loop-c.yielded ++ c.in-Some.c ∷ [])) (at_point (open_of c.advance_logic.new.progress.stack.items []) (point_of c.advance_logic.new.progress.point))
          t.0 t.1 so_far size c.loop-c.invariant.3 (sym c.if-ends_before.ensures) c.in-Ok.ensures.0,
    )

pub returns : goal.returns
returns c =
    let t = YieldsList-end (YieldsList-from_chars c.args.text.now c.utf8.text cc) c.loop-c.yielded _ c.loop-c.yielded_by _ _ c.in-None.is c.next.ensures.steps in
    let state : LogicState = at_point (open_of c.loop-c.progress.stack.items []) (point_of c.loop-c.progress.point) in
    front_past (logic_advance most_parts) logic_accept (chars c.args.text.now) (length c.loop-c.yielded) 0 c.loop-c.at state (read_logic_front (chars c.args.text.now))
    (omega (arith, t.1)) c.loop-c.invariant.0 c.loop-c.invariant.3
