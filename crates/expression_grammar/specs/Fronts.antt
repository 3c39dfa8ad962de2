-- What a text may begin with (HLASM Language Reference SC26-4940, "AIF instruction", "AGO instruction", "Subscripted SET
-- symbols"): an expression before a closing parenthesis, or a variable symbol whose last character is one. A front ends at
-- the first closing parenthesis at which it is whole.
use Rattle.std.specs.Prelude.{◌≡◌, ℕ, ◌+◌, ◌<◌, ◌≤◌, List, length, take, slice_index, Some}
use Rattle.expression_grammar.specs.declared.character.Grammar.TheVariants.{Arithmetic}
use Rattle.expression_grammar.specs.declared.fault.SyntaxFault.{SyntaxFault}
use Rattle.expression_grammar.specs.declared.fault.SyntaxFault.TheVariants.{At, OutOfMemory}
use Rattle.expression_grammar.specs.Spelling.{IsExpression, IsViable, Spells, most_parts}
use Rattle.expression_grammar.specs.Readings.{variable_only}
use Rattle.expression_grammar.specs.Trees.{Tree}

-- an expression ends before the closing parenthesis behind so many characters
pub record IsClosed (Written : List ℕ → Tree → Type 0) (text : List ℕ) (before : ℕ) (tree : Tree) : Type 0 where
  pub closes : slice_index text before ≡ 41
  pub within : IsExpression Written most_parts (take before text) tree

-- a variable symbol ends with the closing parenthesis behind so many characters
pub record IsVariableClosed (text : List ℕ) (before : ℕ) (tree : Tree) : Type 0 where
  pub closes : slice_index text before ≡ 41
  pub within : IsExpression (Spells Arithmetic) most_parts (take (before + 1) text) tree
  pub value : variable_only (Some tree) ≡ Some tree

-- this is so at a place, and at no earlier one
pub record IsFirst (Ends : ℕ → Tree → Type 0) (before : ℕ) (tree : Tree) : Type 0 where
  pub here : Ends before tree
  pub first : (earlier : ℕ) (other : Tree) → earlier < before → Ends earlier other → ⊥

-- the longest front of a text that some expression begins with has so many characters
pub record IsReach (Written : List ℕ → Tree → Type 0) (text : List ℕ) (count : ℕ) : Type 0 where
  pub within : count ≤ length text
  pub viable : IsViable Written most_parts (take count text)
  pub longest : (more : ℕ) → count < more → more ≤ length text → IsViable Written most_parts (take more text) → ⊥

-- nothing ends anywhere in a text, and this is how far it goes
pub record IsNoFront (Written : List ℕ → Tree → Type 0) (Ends : ℕ → Tree → Type 0) (text : List ℕ) (count : ℕ) : Type 0 where
  pub never : (before : ℕ) (tree : Tree) → Ends before tree → ⊥
  pub reach : IsReach Written text count

-- a fault says so; only want of memory is no word on the text
abbrev pub IsFrontFault : (List ℕ → Tree → Type 0) → (ℕ → Tree → Type 0) → List ℕ → SyntaxFault → Type 0
IsFrontFault Written Ends text (At count) = IsNoFront Written Ends text count
IsFrontFault Written Ends text OutOfMemory = Unit {0}
