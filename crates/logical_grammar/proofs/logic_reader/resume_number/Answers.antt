use Rattle.std.proofs.Common.{◌+◌, List, [], refl, subst, arith}
use Rattle.std.specs.Prelude.{None, false}
use Rattle.expression_grammar.specs.declared.pending.Pending.{Pending}
use Rattle.expression_grammar.specs.Reading.{Have, layers_size}
use Rattle.expression_grammar.specs.Spelling.{Placed}
use Rattle.expression_grammar.specs.Stacks.{stack_of}
use Rattle.expression_grammar.specs.Trees.{Tree, Paren, size}
use Rattle.expression_grammar.specs.Views.{tree_of}
use Rattle.logical_grammar.specs.LogicReading as logic
use Rattle.logical_grammar.specs.LogicReading.{Open, point_step, open_size}
use Rattle.logical_grammar.specs.LogicViews.{LogicMoves, open_of}
use Rattle.logical_grammar.proofs.LogicMoveLaws.{LogicMoves-same}
use Rattle.logical_grammar.proofs.logic_reader.resume_number.Goals as goal

pub returns : goal.returns
returns c =
    let p : Placed = record { at = c.args.at; code = c.args.c } in
    let old : List Open = open_of c.args.layers.now.items [] in
    let new : List Open = open_of c.go_number.new.layers.items [] in
    let m : LogicMoves (point_step (logic.Number None (Have (tree_of c.in_ok-tree.tree) []) false) p old) (open_size old + (0 + (0 + size (tree_of c.in_ok-tree.tree)))) c.in_ok-moved.moved new =
    subst (λ (xs : List Pending). LogicMoves (point_step (logic.Number None (Have (tree_of c.in_ok-tree.tree) (stack_of xs [])) false) p old)
    (open_size old + (0 + (layers_size (stack_of xs []) + size (tree_of c.in_ok-tree.tree)))) c.in_ok-moved.moved new) c.new.ensures.items c.in_ok-moved.ensures in
    let n : LogicMoves (point_step (logic.Number None (Have (Paren (tree_of c.args.inner)) []) false) p old) (open_size old + (0 + (0 + (1 + size (tree_of c.args.inner))))) c.in_ok-moved.moved new =
    subst (λ (t : Tree). LogicMoves (point_step (logic.Number None (Have t []) false) p old) (open_size old + (0 + (0 + size t))) c.in_ok-moved.moved new) c.in_ok-tree.ensures m in
    LogicMoves-same (point_step (logic.Number None (Have (Paren (tree_of c.args.inner)) []) false) p old) (point_step (logic.Number None (Have (Paren (tree_of c.args.inner)) []) false) p old)
    (open_size old + (1 + size (tree_of c.args.inner))) (open_size old + (0 + (0 + (1 + size (tree_of c.args.inner))))) c.in_ok-moved.moved new refl (omega arith) n
