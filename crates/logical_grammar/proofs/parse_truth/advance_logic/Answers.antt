use Rattle.std.proofs.Common.{Bool, true, List, [], subst}
use Rattle.expression_grammar.specs.Spelling.{Placed}
use Rattle.logical_grammar.specs.LogicReading.{Open}
use Rattle.logical_grammar.specs.LogicReading as logic
use Rattle.logical_grammar.specs.LogicViews.{LogicTakes, open_of, point_of}
use Rattle.logical_grammar.proofs.LogicInPlace.{logic_advance_same}
use Rattle.logical_grammar.proofs.parse_truth.advance_logic.Goals as goal

pub returns-then-branch : goal.returns-then-branch
returns-then-branch c =
    let before : logic.Point = point_of c.args.progress.now.point in
    let after : logic.Point = point_of c.take_in_place.new.point in
    let layers : List Open = open_of c.args.progress.now.stack.items [] in
    let p : Placed = record { at = c.args.at; code = c.args.c } in
    let taken : LogicTakes before c.args.c after true = subst (λ (b : Bool). LogicTakes before c.args.c after b) c.if-branch.true c.in_ok-take_in_place.ensures in
    logic_advance_same before after layers p c.args.progress.now.weight (taken c.args.at layers).0 (taken c.args.at layers).1 c.requires.weighed c.requires.small
