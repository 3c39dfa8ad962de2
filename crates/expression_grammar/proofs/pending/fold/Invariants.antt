use Rattle.std.proofs.Common.{◌≡◌, [], vec_len}
use Rattle.expression_grammar.specs.Reading.{fold}
use Rattle.expression_grammar.specs.Stacks.{stack_of}
use Rattle.expression_grammar.specs.Views.{tree_of}
use Rattle.expression_grammar.proofs.pending.fold.Given as goal

abbrev pub invariant-loop-pending : goal.invariant-loop-pending
invariant-loop-pending l =
    fold l.floor (tree_of l.initial.tree) (stack_of l.initial.stack.items []) ≡ fold l.floor (tree_of l.tree) (stack_of l.stack.items [])

abbrev pub decreases-loop-pending : goal.decreases-loop-pending
decreases-loop-pending l = vec_len l.stack
