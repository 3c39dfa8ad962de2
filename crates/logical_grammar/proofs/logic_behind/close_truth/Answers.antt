use Rattle.std.proofs.Common.{[]}
use Rattle.expression_grammar.specs.Views.{tree_of}
use Rattle.logical_grammar.specs.LogicViews.{open_of}
use Rattle.logical_grammar.proofs.LogicMoveLaws.{close_moves}
use Rattle.logical_grammar.proofs.logic_behind.close_truth.Goals as goal

pub returns : goal.returns
returns c =
    close_moves (tree_of c.args.tree) (tree_of c.in_ok-inner.inner) (open_of c.args.stack.now.items []) (open_of c.logic_fold.new.stack.items []) c.in_ok-moved.moved (open_of c.grouped.new.stack.items [])
    c.in_ok-inner.ensures c.in_ok-moved.ensures
