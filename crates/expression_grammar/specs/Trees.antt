-- The trees of expressions (HLASM Language Reference SC26-4940, "Arithmetic (SETA) expressions", "Logical (SETB)
-- expressions", "Character (SETC) expressions", "Expressions"), and how large they are.
use Rattle.std.specs.Prelude.{ℕ, ◌+◌, List}
use Rattle.expression_grammar.specs.declared.tree.Form.{Form}
use Rattle.expression_grammar.specs.declared.tree.Sign.{Sign}
use Rattle.expression_grammar.specs.declared.tree.Operator.{Operator}
use Rattle.expression_grammar.specs.declared.tree.Comparison.{Comparison}
use Rattle.expression_grammar.specs.declared.tree.Reference.{Reference}
use Rattle.expression_grammar.specs.declared.tree.Symbol.{Symbol}

mutual
  -- An expression. Symbols carry their upper-cased name and where they begin in the text; a number carries its 32 bits.
  pub data Tree : Type 0 where
    Number : (form : Form) (bits : ℕ) → Tree
    Here : Tree
    Ordinary : (asked : Reference) (symbol : Symbol) → Tree
    Variable : (asked : Reference) (symbol : Symbol) (subscripts : Trees) → Tree
    Signed : (sign : Sign) (operand : Tree) → Tree
    Pair : (operator : Operator) (left right : Tree) → Tree
    Paren : (inner : Tree) → Tree
    Not : (operand : Tree) → Tree
    Compared : (comparison : Comparison) (left right : Tree) → Tree
    Quoted : (items : Items) → Tree
    Duplicated : (factor text : Tree) → Tree
    Substring : (text start count : Tree) → Tree
    SubstringToEnd : (text start : Tree) → Tree
    Joined : (left right : Tree) → Tree

  -- a list of expressions: none, or one more behind the others
  pub data Trees : Type 0 where
    NoTrees : Trees
    More : (others : Trees) (last : Tree) → Trees

  -- what a quoted text is made of, in order
  pub data Items : Type 0 where
    NoItems : Items
    Plain : (others : Items) (characters : List ℕ) → Items
    Inserted : (others : Items) (symbol : Symbol) (subscripts : Trees) → Items

-- how many terms, operators and pairs of parentheses there are, subscripts included
abbrev mutual
  pub size : Tree → ℕ
  size (Number form bits) = 1
  size Here = 1
  size (Ordinary asked symbol) = 1
  size (Variable asked symbol subscripts) = 1 + size_subscripted subscripts
  size (Signed sign operand) = 1 + size operand
  size (Pair operator left right) = size left + 1 + size right
  size (Paren inner) = 1 + size inner
  size (Not operand) = 1 + size operand
  size (Compared comparison left right) = size left + 1 + size right
  size (Quoted items) = 1 + size_items items
  size (Duplicated factor text) = 1 + size factor + size text
  size (Substring text start count) = size text + 1 + size start + size count
  size (SubstringToEnd text start) = size text + 1 + size start
  size (Joined left right) = size left + 1 + size right

  -- the subscripts behind a variable symbol, with their parentheses
  pub size_subscripted : Trees → ℕ
  size_subscripted NoTrees = 0
  size_subscripted (More others last) = 1 + size_trees others + size last

  pub size_trees : Trees → ℕ
  size_trees NoTrees = 0
  size_trees (More others last) = size_trees others + size last

  pub size_items : Items → ℕ
  size_items NoItems = 0
  size_items (Plain others characters) = size_items others
  size_items (Inserted others symbol subscripts) = size_items others + 1 + size_subscripted subscripts
