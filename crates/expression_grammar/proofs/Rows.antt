-- The trees of a list, and of the row that the list is within a tree.
use Rattle.std.proofs.Common.{◌≡◌, refl}
use Rattle.expression_grammar.specs.declared.tree.Expr.{Row_of-Expr, end_of-Expr, more_of-Expr, items-the_row-Expr, Row_of-Item, end_of-Item, more_of-Item, items-the_row-Item}
use Rattle.expression_grammar.specs.Trees.{Trees, More, Items}
use Rattle.expression_grammar.specs.Views.{tree_of, trees_of, trees_in, items_of, items_in, with_item}

pub trees_of-row : (n : _) (row : Row_of-Expr n) (before : Trees) → trees_of before row ≡ trees_in before (items-the_row-Expr n row)
trees_of-row n end_of-Expr before = refl
trees_of-row n (more_of-Expr one rest) before = trees_of-row _ rest (More before (tree_of one))

pub items_of-row : (n : _) (row : Row_of-Item n) (before : Items) → items_of before row ≡ items_in before (items-the_row-Item n row)
items_of-row n end_of-Item before = refl
items_of-row n (more_of-Item one rest) before = items_of-row _ rest (with_item before one)
