use Rattle.std.proofs.Common.{take, Ok}
use Rattle.expression_grammar.specs.Trees.{NoTrees, NoItems}
use Rattle.expression_grammar.specs.Views.{trees_in, items_in}
use Rattle.cond_expr.specs.Outcome.{Tells}
use Rattle.cond_expr.specs.Values.{numbers, pieces}
use Rattle.cond_expr.proofs.evaluate.+evaluate.Given as goal

-- the numbers so far
abbrev pub invariant-numbers-loop-tree : goal.invariant-numbers-loop-tree
invariant-numbers-loop-tree g l =
    Tells (numbers (trees_in NoTrees (take l.tree-index l.trees)) (g.Q.Lookups.told l.fn.q)) l.fn.notes l.notes (Ok l.values)

-- the text so far
abbrev pub invariant-pieces-loop-item : goal.invariant-pieces-loop-item
invariant-pieces-loop-item g l =
    Tells (pieces (items_in NoItems (take l.item-index l.items)) (g.Q.Lookups.told l.fn.q)) l.fn.notes l.notes (Ok l.whole)
