-- Values of expressions of conditional assembly (HLASM Language Reference SC26-4940, "Arithmetic (SETA) expressions",
-- "Logical (SETB) expressions", "Character (SETC) expressions"). Operands are evaluated from left to right, both sides
-- always, and an operator's note follows those of its operands. A logical value is a number: 1 where it is true, 0 where
-- it is false; in a logical place a number is true where it is not 0.
use Rattle.std.specs.Prelude.{ℕ, Bool, true, false, not, ◌&&◌, ◌||◌, List, [], ◌∷◌, ◌++◌, ℤ, pos, ◌+ℤ◌, ◌-ℤ◌, ◌*ℤ◌, neg_ℤ, if◌then◌else◌}
use Rattle.std.specs.Int.{cast_signed, w32}
use Rattle.std.specs.Ordering.{int_cmp, int_eq, is_eq, is_lt, is_gt}
use Rattle.std.specs.declared.cmp.Ordering.{Ordering}
use Rattle.hl_base.specs.Order.{compare}
use Rattle.expression_grammar.specs.declared.tree.Sign.{Sign}
use Rattle.expression_grammar.specs.declared.tree.Sign.TheVariants.{Plus, Minus}
use Rattle.expression_grammar.specs.declared.tree.Symbol.{Symbol}
use Rattle.expression_grammar.specs.declared.tree.Operator.{Operator}
use Rattle.expression_grammar.specs.declared.tree.Operator.TheVariants.{Add, Subtract, Multiply, Divide, And, Or, Xor}
use Rattle.expression_grammar.specs.declared.tree.Comparison.{Comparison}
use Rattle.expression_grammar.specs.declared.tree.Comparison.TheVariants.{Eq, Ne, Lt, Le, Gt, Ge}
use Rattle.expression_grammar.specs.declared.tree.Attribute.TheVariants as attribute
use Rattle.expression_grammar.specs.declared.tree.Reference.TheVariants.{Of}
use Rattle.expression_grammar.specs.declared.tree.Item.{Item}
use Rattle.expression_grammar.specs.declared.tree.Item.TheVariants as item
use Rattle.expression_grammar.specs.Views.{trees_of}
use Rattle.expression_grammar.specs.Trees.{Tree, Trees, Items, Number, Here, Ordinary, Variable, Signed, Pair, Paren, Not, Compared, Quoted, Duplicated, Substring, SubstringToEnd, Joined, NoTrees, More, NoItems, Plain, Inserted}
use Rattle.cond_expr.specs.Arithmetic.{fitting, quotient}
use Rattle.cond_expr.specs.Told.{Told}
use Rattle.cond_expr.specs.Outcome.{Outcome, gives, and_then}
use Rattle.cond_expr.specs.Characters.{limited, duplicated, substring, substring_to_end}
use Rattle.cond_expr.specs.Symbols.{checked}
use Rattle.cond_expr.specs.Variables.{bit, number_of_variable, number_of_symbol, text_of_variable, asked_text_of_variable, asked_text_of_symbol}

-- whether a number is true
abbrev pub is_true : ℤ → Bool
is_true number = not (int_eq number (pos 0))

-- what an operator makes of two numbers
abbrev pub joined : Operator → ℤ → ℤ → Outcome ℤ
joined Add left right = checked (fitting (left +ℤ right))
joined Subtract left right = checked (fitting (left -ℤ right))
joined Multiply left right = checked (fitting (left *ℤ right))
joined Divide left right = checked (quotient left right)
joined And left right = gives (bit (is_true left && is_true right))
joined Or left right = gives (bit (is_true left || is_true right))
joined Xor left right = gives (bit (if is_true left then not (is_true right) else is_true right))

-- what a sign makes of a number
abbrev pub signed : Sign → ℤ → Outcome ℤ
signed Plus n = gives n
signed Minus n = checked (fitting (neg_ℤ n))

-- whether a comparison holds of two operands that stand in this order
abbrev pub holds : Comparison → Ordering → Bool
holds Eq order = is_eq order
holds Ne order = not (is_eq order)
holds Lt order = is_lt order
holds Le order = not (is_gt order)
holds Gt order = is_gt order
holds Ge order = not (is_lt order)

-- whether an expression is a text: T', or what has quotes
abbrev pub is_text : Tree → Bool
is_text (Ordinary (Of attribute.Type) symbol) = true
is_text (Variable (Of attribute.Type) symbol subscripts) = true
is_text (Quoted items) = true
is_text (Duplicated factor text) = true
is_text (Substring text start count) = true
is_text (SubstringToEnd text start) = true
is_text (Joined left right) = true
is_text other = false

abbrev mutual
  -- the number of an arithmetic or logical expression
  pub number : Tree → Told → Outcome ℤ
  number (Number form bits) told = gives (cast_signed w32 bits)
  number (Ordinary asked symbol) told = number_of_symbol told asked symbol.name
  number (Variable asked symbol subscripts) told =
      and_then (numbers subscripts told) (number_of_variable told asked symbol.name)
  number (Signed sign operand) told = and_then (number operand told) (signed sign)
  number (Pair operator left right) told = and_then (number left told) (λ m. and_then (number right told) (λ n. joined operator m n))
  number (Paren inner) told = number inner told
  number (Not operand) told = and_then (number operand told) (λ n. gives (bit (not (is_true n))))
  number (Compared comparison left right) told =
      if is_text left
      then and_then (text left told) (λ a. and_then (text right told) (λ b. gives (bit (holds comparison (compare a b)))))
      else and_then (number left told) (λ m. and_then (number right told) (λ n. gives (bit (holds comparison (int_cmp m n)))))
  number Here told = gives (pos 0)
  number (Quoted items) told = gives (pos 0)
  number (Duplicated factor whole) told = gives (pos 0)
  number (Substring whole start count) told = gives (pos 0)
  number (SubstringToEnd whole start) told = gives (pos 0)
  number (Joined left right) told = gives (pos 0)

  -- the text of a character expression
  pub text : Tree → Told → Outcome (List ℕ)
  text (Ordinary asked symbol) told = asked_text_of_symbol told asked symbol.name
  text (Variable asked symbol subscripts) told = and_then (numbers subscripts told) (asked_text_of_variable told asked symbol.name)
  text (Quoted items) told = and_then (pieces items told) limited
  text (Duplicated factor whole) told = and_then (number factor told) (λ n. and_then (text whole told) (λ s. duplicated n s))
  text (Substring whole start count) told =
      and_then (text whole told) (λ s. and_then (number start told) (λ m. and_then (number count told) (λ n. substring s m n)))
  text (SubstringToEnd whole start) told = and_then (text whole told) (λ s. and_then (number start told) (λ m. substring_to_end s m))
  text (Joined left right) told = and_then (text left told) (λ a. and_then (text right told) (λ b. limited (a ++ b)))
  text other told = gives []

  -- the numbers of some expressions in order
  pub numbers : Trees → Told → Outcome (List ℤ)
  numbers NoTrees told = gives []
  numbers (More others last) told = and_then (numbers others told) (λ ns. and_then (number last told) (λ n. gives (ns ++ n ∷ [])))

  -- what stands between quotes, with its variable symbols replaced
  pub pieces : Items → Told → Outcome (List ℕ)
  pieces NoItems told = gives []
  pieces (Plain others characters) told = and_then (pieces others told) (λ s. gives (s ++ characters))
  pieces (Inserted others symbol subscripts) told =
      and_then (pieces others told) (λ s.
      and_then (and_then (numbers subscripts told) (text_of_variable told symbol.name)) (λ t. gives (s ++ t)))

-- the rest of an operation whose first operands are known

-- an operator whose left operand is this number
abbrev pub joined_with : Operator → ℤ → Tree → Told → Outcome ℤ
joined_with operator left right told = and_then (number right told) (λ n. joined operator left n)

-- a comparison whose left operand is this number
abbrev pub compared_with : Comparison → ℤ → Tree → Told → Outcome ℤ
compared_with comparison left right told =
    and_then (number right told) (λ n. gives (bit (holds comparison (int_cmp left n))))

-- a comparison whose left operand is this text
abbrev pub compared_text : Comparison → List ℕ → Tree → Told → Outcome ℤ
compared_text comparison left right told = and_then (text right told) (λ b. gives (bit (holds comparison (compare left b))))

-- so many copies of a text
abbrev pub duplicated_by : ℤ → Tree → Told → Outcome (List ℕ)
duplicated_by factor whole told = and_then (text whole told) (λ s. duplicated factor s)

-- the substring of a text from this character on
abbrev pub substring_from : List ℕ → ℤ → Tree → Told → Outcome (List ℕ)
substring_from whole start count told = and_then (number count told) (λ n. substring whole start n)

-- the substring of a text
abbrev pub substring_of : List ℕ → Tree → Tree → Told → Outcome (List ℕ)
substring_of whole start count told = and_then (number start told) (λ m. substring_from whole m count told)

-- the substring of a text to its end
abbrev pub substring_to_end_of : List ℕ → Tree → Told → Outcome (List ℕ)
substring_to_end_of whole start told = and_then (number start told) (λ m. substring_to_end whole m)

-- a text joined with another
abbrev pub joined_text : List ℕ → Tree → Told → Outcome (List ℕ)
joined_text left right told = and_then (text right told) (λ b. limited (left ++ b))

-- a variable symbol with its subscripts, in a text
abbrev pub inserted : Symbol → Trees → Told → Outcome (List ℕ)
inserted symbol subscripts told = and_then (numbers subscripts told) (text_of_variable told symbol.name)

-- what an item between quotes stands for
abbrev pub piece : Item → Told → Outcome (List ℕ)
piece (item.Plain characters) told = gives characters
piece (item.Inserted' symbol n subscripts) told = inserted symbol (trees_of NoTrees subscripts) told
