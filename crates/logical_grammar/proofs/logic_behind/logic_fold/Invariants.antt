use Rattle.std.proofs.Common.{◌≡◌, [], vec_len}
use Rattle.expression_grammar.specs.Views.{tree_of}
use Rattle.logical_grammar.specs.LogicReading.{logic_fold}
use Rattle.logical_grammar.specs.LogicViews.{open_of}
use Rattle.logical_grammar.proofs.logic_behind.logic_fold.Given as goal

abbrev pub invariant-loop-opening : goal.invariant-loop-opening
invariant-loop-opening l =
    logic_fold l.floor (tree_of l.initial.tree) (open_of l.initial.stack.items []) ≡ logic_fold l.floor (tree_of l.tree) (open_of l.stack.items [])

abbrev pub decreases-loop-opening : goal.decreases-loop-opening
decreases-loop-opening l = vec_len l.stack
