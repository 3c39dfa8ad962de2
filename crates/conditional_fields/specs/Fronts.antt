-- What an operand may begin with: a variable symbol with its subscripts, or an expression up to a closing parenthesis
-- (HLASM Language Reference SC26-4940, "Subscripted SET symbols", "AGO instruction", "AIF instruction"). Both end at the
-- first closing parenthesis at which they are complete.
use Rattle.std.specs.Prelude.{◌≡◌, ℕ, ◌+◌, ◌<◌, ◌≤◌, Bool, true, false, List, length, take, slice_index}
use Rattle.expression_grammar.specs.declared.character.Grammar.TheVariants.{Arithmetic}
use Rattle.expression_grammar.specs.declared.tree.Reference.TheVariants.{Value}
use Rattle.expression_grammar.specs.Trees.{Tree, Variable}
use Rattle.expression_grammar.specs.Spelling.{IsExpression, IsViable, Spells, most_parts}
use Rattle.operand_grammar.specs.Logics.{SpellsLogic}
use Rattle.conditional_fields.specs.declared.front.Sought.{Sought}
use Rattle.conditional_fields.specs.declared.front.Sought.TheVariants as sought

-- whether an expression is the value of a variable symbol
abbrev pub is_variable : Tree → Bool
is_variable (Variable Value symbol subscripts) = true
is_variable other = false

-- whether an expression is what is sought: any, or a variable symbol
abbrev pub accepts : Sought → Tree → Bool
accepts sought.Number tree = true
accepts sought.Condition tree = true
accepts sought.Variable tree = is_variable tree

-- how it is written: a condition as a logical expression, and all else as an arithmetic one
abbrev pub Written : Sought → List ℕ → Tree → Type 0
Written sought.Number text tree = Spells Arithmetic text tree
Written sought.Condition text tree = SpellsLogic text tree
Written sought.Variable text tree = Spells Arithmetic text tree

-- a text is what is sought, and this is its tree
pub record IsSought (sought : Sought) (text : List ℕ) (tree : Tree) : Type 0 where
  pub expression : IsExpression (Written sought) most_parts text tree
  pub accepted : accepts sought tree ≡ true

-- how many characters there are of what ends at a closing parenthesis behind so many others: the parenthesis of its
-- subscripts belongs to a variable symbol
abbrev pub extent : Sought → ℕ → ℕ
extent sought.Number before = before
extent sought.Condition before = before
extent sought.Variable before = before + 1

-- a text begins with what is sought, which ends at the closing parenthesis behind so many characters
pub record IsClosed (sought : Sought) (text : List ℕ) (before : ℕ) (tree : Tree) : Type 0 where
  pub closes : slice_index text before ≡ 41
  pub within : IsSought sought (take (extent sought before) text) tree

-- and this is the first such parenthesis
pub record IsFirstClosed (sought : Sought) (text : List ℕ) (before : ℕ) (tree : Tree) : Type 0 where
  pub closed : IsClosed sought text before tree
  pub first : (earlier : ℕ) (other : Tree) → earlier < before → IsClosed sought text earlier other → ⊥

-- a text begins with nothing of what is sought
abbrev pub IsNeverClosed : Sought → List ℕ → Type 0
IsNeverClosed sought text = (before : ℕ) (tree : Tree) → IsClosed sought text before tree → ⊥

-- the longest front of a text that some expression begins with, written as what is sought, has so many characters
pub record IsReach (sought : Sought) (text : List ℕ) (count : ℕ) : Type 0 where
  pub within : count ≤ length text
  pub viable : IsViable (Written sought) most_parts (take count text)
  pub longest : (more : ℕ) → count < more → more ≤ length text → IsViable (Written sought) most_parts (take more text) → ⊥
