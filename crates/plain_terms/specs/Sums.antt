-- Sums of a place and a decimal number that are all of a text (HLASM Language Reference SC26-4940, "Expressions"). No public contract
-- speaks of them.
use Rattle.std.specs.Prelude.{◌≡◌, ℕ, List, [], ◌∷◌, ◌++◌, Some}
use Rattle.expression_grammar.specs.declared.tree.Form.TheVariants.{Decimal}
use Rattle.expression_grammar.specs.declared.tree.Operator.{Operator}
use Rattle.expression_grammar.specs.declared.tree.Operator.TheVariants.{Add, Subtract}
use Rattle.expression_grammar.specs.declared.tree.Reference.TheVariants.{Value}
use Rattle.expression_grammar.specs.Parts.{symbol_at}
use Rattle.expression_grammar.specs.Trees.{Tree, Number, Here, Ordinary as Named, Pair}
use Rattle.hl_base.specs.Symbols.{symbol_of}
use Rattle.plain_terms.specs.Terms.{IsDecimal}

-- a text is `*` (42) or a symbol
pub data IsPlace (text : List ℕ) (tree : Tree) : Type 0 where
  here : text ≡ 42 ∷ [] → tree ≡ Here → IsPlace text tree
  named : (name : List ℕ) → symbol_of text ≡ Some name → tree ≡ Named Value (symbol_at 0 name) → IsPlace text tree

-- a place, an operator and a decimal number
pub record IsSumOf (operator : Operator) (left right : List ℕ) (tree : Tree) : Type 0 where
  pub place : Tree
  pub bits : ℕ
  pub stands : IsPlace left place
  pub number : IsDecimal right bits
  pub pair : tree ≡ Pair operator place (Number Decimal bits)

-- a text is their sum (43) or their difference (45)
pub data IsSum (text : List ℕ) (tree : Tree) : Type 0 where
  added : (left right : List ℕ) → text ≡ left ++ 43 ∷ right → IsSumOf Add left right tree → IsSum text tree
  taken : (left right : List ℕ) → text ≡ left ++ 45 ∷ right → IsSumOf Subtract left right tree → IsSum text tree
