use Rattle.std.proofs.Common.{◌≡◌, ◌+◌, [], ◌∷◌, ◌++◌, length, arith, rules, subst, length-append}
use Rattle.std.specs.Prelude.{Option, option_map}
use Rattle.std.proofs.lemmas.Iterator.{YieldsList-from_chars}
use Rattle.std.proofs.lemmas.Iterator.Consumers.{YieldsList-turn, YieldsList-end}
use Rattle.std.specs.Str.{chars}
use Rattle.expression_grammar.specs.declared.tree.Expr.{Expr}
use Rattle.logical_grammar.specs.LogicReading.{LogicState, at_point, logic_accept}
use Rattle.logical_grammar.specs.LogicViews.{open_of, point_of}
use Rattle.expression_grammar.specs.Views.{tree_of}
use Rattle.logical_grammar.proofs.LogicFinds.{logic_stop_here, logic_go_on_here, logic_end_some, logic_end_none}
use Rattle.logical_grammar.proofs.parse_truth.parse_logic.Goals as goal

pub returns-in-Err : goal.returns-in-Err
returns-in-Err c =
    let t = YieldsList-turn (YieldsList-from_chars c.args.text.now c.utf8.text cc) c.loop-c.yielded _ c.loop-c.yielded_by _ _ c.in-Some.c c.in-Some.is c.next.ensures.steps in
    logic_stop_here (chars c.args.text.now) (length c.loop-c.yielded) c.in-Some.c c.loop-c.at (at_point (open_of c.loop-c.progress.stack.items []) (point_of c.loop-c.progress.point)) c.in-Err.fault
    t.0 t.1 c.loop-c.invariant.0 c.loop-c.invariant.1 c.in-Err.ensures

pub loop-c-preserved : goal.loop-c-preserved
loop-c-preserved c =
    let t = YieldsList-turn (YieldsList-from_chars c.args.text.now c.utf8.text cc) c.loop-c.yielded _ c.loop-c.yielded_by _ _ c.in-Some.c c.in-Some.is c.next.ensures.steps in
    let size : length (c.loop-c.yielded ++ c.in-Some.c ∷ []) ≡ length c.loop-c.yielded + 1 = length-append c.loop-c.yielded (c.in-Some.c ∷ []) in
    let so_far : c.loop-c.at ≡ length c.loop-c.yielded = c.loop-c.invariant.0 in
    let next : c.in_ok-at.at ≡ c.loop-c.at + 1 = search rules in (
      omega (arith, size, so_far, next),
      logic_go_on_here (chars c.args.text.now) (length c.loop-c.yielded) c.in-Some.c c.loop-c.at (length (c.loop-c.yielded ++ c.in-Some.c ∷ []))
          (at_point (open_of c.loop-c.progress.stack.items []) (point_of c.loop-c.progress.point)) (at_point (open_of c.advance_logic.new.progress.stack.items []) (point_of c.advance_logic.new.progress.point))
          t.0 t.1 so_far size c.loop-c.invariant.1 c.in-Ok.ensures.0,
      c.in-Ok.ensures.1,
    )

pub returns-in-Some-2 : goal.returns-in-Some-2
returns-in-Some-2 c =
    let t = YieldsList-end (YieldsList-from_chars c.args.text.now c.utf8.text cc) c.loop-c.yielded _ c.loop-c.yielded_by _ _ c.in-None.is c.next.ensures.steps in
    let state : LogicState = at_point (open_of c.loop-c.progress.stack.items []) (point_of c.loop-c.progress.point) in
    let found : option_map tree_of c.in_ok-tree.field-0 ≡ logic_accept state = c.in_ok-tree.ensures in
    logic_end_some (chars c.args.text.now) (length c.loop-c.yielded) state (tree_of c.in-Some-2.tree) t.1 c.loop-c.invariant.1
    (subst (λ (o : Option Expr). option_map tree_of o ≡ logic_accept state) c.in-Some-2.is found)

pub returns-in-None-2 : goal.returns-in-None-2
returns-in-None-2 c =
    let t = YieldsList-end (YieldsList-from_chars c.args.text.now c.utf8.text cc) c.loop-c.yielded _ c.loop-c.yielded_by _ _ c.in-None.is c.next.ensures.steps in
    let state : LogicState = at_point (open_of c.loop-c.progress.stack.items []) (point_of c.loop-c.progress.point) in
    let found : option_map tree_of c.in_ok-tree.field-0 ≡ logic_accept state = c.in_ok-tree.ensures in
    logic_end_none (chars c.args.text.now) (length c.loop-c.yielded) c.loop-c.at state t.1 c.loop-c.invariant.0 c.loop-c.invariant.1
    (subst (λ (o : Option Expr). option_map tree_of o ≡ logic_accept state) c.in-None-2.is found)
