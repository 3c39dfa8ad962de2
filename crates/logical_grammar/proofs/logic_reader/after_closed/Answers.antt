use Rattle.std.proofs.Common.{◌+◌, List, [], refl}
use Rattle.std.specs.Prelude.{None, false}
use Rattle.expression_grammar.specs.Reading.{Have}
use Rattle.expression_grammar.specs.Spelling.{Placed}
use Rattle.expression_grammar.specs.Trees.{Tree, Paren, size}
use Rattle.expression_grammar.specs.Views.{tree_of}
use Rattle.logical_grammar.specs.LogicReading as logic
use Rattle.logical_grammar.specs.LogicReading.{Open, point_step, open_size}
use Rattle.logical_grammar.specs.LogicViews.{open_of}
use Rattle.logical_grammar.proofs.LogicMoveLaws.{LogicMoves-same, closed_number}
use Rattle.logical_grammar.proofs.logic_reader.after_closed.Goals as goal

pub returns-in_ok-moved-in_default : goal.returns-in_ok-moved-in_default
returns-in_ok-moved-in_default c =
    let inner : Tree = tree_of c.args.inner in
    let p : Placed = record { at = c.args.at; code = c.args.c } in
    let old : List Open = open_of c.args.layers.now.items [] in
    LogicMoves-same (logic.after_closed inner c.args.kind p old) (point_step (logic.Number None (Have (Paren inner) []) false) p old) (open_size old + (1 + size inner)) (open_size old + (1 + size inner)) c.in_ok-moved-in_default.moved
    (open_of c.resume_number.new.layers.items []) (closed_number inner c.args.kind p old c.in_default.not-Quote) refl c.in_ok-moved-in_default.ensures
