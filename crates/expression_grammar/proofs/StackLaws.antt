-- The stack of what is open, item by item.
use Rattle.std.proofs.Common.{◌≡◌, List, [], ◌∷◌, ◌++◌, refl}
use Rattle.expression_grammar.specs.declared.pending.Pending.{Pending}
use Rattle.expression_grammar.specs.declared.tree.Expr.{Expr}
use Rattle.expression_grammar.specs.Trees.{Trees, More}
use Rattle.expression_grammar.specs.Views.{tree_of, trees_in}
use Rattle.expression_grammar.specs.Reading.{Layer}
use Rattle.expression_grammar.specs.Stacks.{pending_of, stack_of}

pub stack_of_push : (items : List Pending) (one : Pending) (below : List Layer) → stack_of (items ++ one ∷ []) below ≡ pending_of one ∷ stack_of items below
stack_of_push [] one below = refl
stack_of_push (first ∷ items) one below = stack_of_push items one (pending_of first ∷ below)

pub trees_in_push : (items : List Expr) (one : Expr) (before : Trees) → trees_in before (items ++ one ∷ []) ≡ More (trees_in before items) (tree_of one)
trees_in_push [] one before = refl
trees_in_push (first ∷ items) one before = trees_in_push items one (More before (tree_of first))
