-- Which texts are right operands of machine instructions, where none is a literal (HLASM Language Reference SC26-4940, "Operand
-- entries", "Addresses"), and how much of a text some right one begins with (this project).
use Rattle.std.specs.Prelude.{◌≡◌, ℕ, ◌<◌, ◌≤◌, false, List, [], ◌∷◌, ◌++◌, length, take, IsTrue}
use Rattle.expression_grammar.specs.declared.character.Grammar.TheVariants.{Ordinary}
use Rattle.expression_grammar.specs.Spelling.{IsExpression, Spells, most_parts}
use Rattle.expression_grammar.specs.Trees.{Tree}
use Rattle.machine_operands.specs.declared.form.AddressForm.{AddressForm}
use Rattle.machine_operands.specs.declared.form.OperandForm.{OperandForm}
use Rattle.machine_operands.specs.declared.form.OperandForm.TheVariants as form
use Rattle.machine_operands.specs.Forms.{needs_parts, has_two, may_omit_first}

-- a text is an ordinary expression
pub record IsOrdinary (text : List ℕ) : Type 0 where
  pub tree : Tree
  pub expression : IsExpression (Spells Ordinary) most_parts text tree

-- What stands within the parentheses of an address: an expression; a comma (44) and a base, where what stands before it may be
-- left away; or two expressions with a comma between them, where two may stand there.
pub data IsInner (form : AddressForm) (text : List ℕ) : Type 0 where
  one : IsOrdinary text → IsInner form text
  second : IsTrue (may_omit_first form) → (base : List ℕ) → text ≡ 44 ∷ base → IsOrdinary base → IsInner form text
  both : IsTrue (has_two form) → (first base : List ℕ) → text ≡ first ++ 44 ∷ base → IsOrdinary first → IsOrdinary base → IsInner form text

-- the same with the closing parenthesis (41)
pub record IsEnclosed (form : AddressForm) (text : List ℕ) : Type 0 where
  pub inner : List ℕ
  pub ends : text ≡ inner ++ 41 ∷ []
  pub fits : IsInner form inner

-- An address: an expression, where nothing must stand in parentheses behind it; or an expression, an opening parenthesis (40), and
-- what stands in parentheses.
pub data IsAddress (form : AddressForm) (text : List ℕ) : Type 0 where
  bare : needs_parts form ≡ false → IsOrdinary text → IsAddress form text
  enclosed : (displacement rest : List ℕ) → text ≡ displacement ++ 40 ∷ rest → IsOrdinary displacement → IsEnclosed form rest → IsAddress form text

-- a right operand of a form
abbrev pub IsRight : OperandForm → List ℕ → Type 0
IsRight form.Value text = IsOrdinary text
IsRight form.Target text = IsOrdinary text
IsRight (form.Address form) text = IsAddress form text

-- some right text begins so
pub record IsBegun (Right : List ℕ → Type 0) (text : List ℕ) : Type 0 where
  pub rest : List ℕ
  pub right : Right (text ++ rest)

-- A text is not right, and the longest text that it and some right one begin with has so many characters.
pub record IsLongest (Right : List ℕ → Type 0) (text : List ℕ) (count : ℕ) : Type 0 where
  pub within : count ≤ length text
  pub begun : IsBegun Right (take count text)
  pub longest : (more : ℕ) → count < more → more ≤ length text → IsBegun Right (take more text) → ⊥
  pub none : Right text → ⊥
