-- Which tree an expression of the program is.
use Rattle.std.specs.Prelude.{List, [], ◌∷◌}
use Rattle.expression_grammar.specs.declared.tree.Expr.{Expr, Row_of-Expr, end_of-Expr, more_of-Expr, Row_of-Item, end_of-Item, more_of-Item}
use Rattle.expression_grammar.specs.declared.tree.Expr.TheVariants as expr
use Rattle.expression_grammar.specs.declared.tree.Item.{Item}
use Rattle.expression_grammar.specs.declared.tree.Item.TheVariants as item
use Rattle.expression_grammar.specs.Trees.{Tree, Trees, Items, Number, Here, Ordinary, Variable, Signed, Pair, Paren, Not, Compared, Quoted, Duplicated, Substring, SubstringToEnd, Joined, NoTrees, More, NoItems, Plain, Inserted}

abbrev mutual
  pub tree_of : Expr → Tree
  tree_of (expr.Number form bits) = Number form bits
  tree_of expr.Here = Here
  tree_of (expr.Symbol asked symbol) = Ordinary asked symbol
  tree_of (expr.Variable' asked symbol n subscripts) = Variable asked symbol (trees_of NoTrees subscripts)
  tree_of (expr.Signed' sign p operand) = Signed sign (tree_of operand)
  tree_of (expr.Pair' operator p left q right) = Pair operator (tree_of left) (tree_of right)
  tree_of (expr.Paren' p inner) = Paren (tree_of inner)
  tree_of (expr.Not' p operand) = Not (tree_of operand)
  tree_of (expr.Compared' comparison p left q right) = Compared comparison (tree_of left) (tree_of right)
  tree_of (expr.Quoted' n items) = Quoted (items_of NoItems items)
  tree_of (expr.Duplicated' p factor q text) = Duplicated (tree_of factor) (tree_of text)
  tree_of (expr.Substring' p text q start r count) = Substring (tree_of text) (tree_of start) (tree_of count)
  tree_of (expr.SubstringToEnd' p text q start) = SubstringToEnd (tree_of text) (tree_of start)
  tree_of (expr.Joined' p left q right) = Joined (tree_of left) (tree_of right)

  -- these trees, and then those of the row
  pub trees_of : {m : _} → Trees → Row_of-Expr m → Trees
  trees_of before end_of-Expr = before
  trees_of before (more_of-Expr tree rest) = trees_of (More before (tree_of tree)) rest

  -- these items, and then those of the row
  pub items_of : {m : _} → Items → Row_of-Item m → Items
  items_of before end_of-Item = before
  items_of before (more_of-Item one rest) = items_of (with_item before one) rest

  -- these items, and then one more
  pub with_item : Items → Item → Items
  with_item before (item.Plain characters) = Plain before characters
  with_item before (item.Inserted' symbol n subscripts) = Inserted before symbol (trees_of NoTrees subscripts)

-- these trees, and then those of a list
abbrev pub trees_in : Trees → List Expr → Trees
trees_in before [] = before
trees_in before (one ∷ rest) = trees_in (More before (tree_of one)) rest

-- these items, and then those of a list
abbrev pub items_in : Items → List Item → Items
items_in before [] = before
items_in before (one ∷ rest) = items_in (with_item before one) rest
