-- The operands of DC and DS, and the literals of a machine instruction (HLASM Language Reference SC26-4940, "DC instruction",
-- "Literals").
use Rattle.std.specs.Prelude.{ℕ, List, [], ◌∷◌, ◌++◌, Option, Some, None, map, option_map}
use Rattle.constant_operands.specs.declared.operand.ConstantUse.{ConstantUse}
use Rattle.constant_operands.specs.Operands.{Operand, operand}
use Rattle.literal_operands.specs.Literals as whole

-- each operand; where there is none an empty one is read
abbrev pub constants : ConstantUse → List (List ℕ) → List Operand
constants used [] = operand used [] ∷ []
constants used (text ∷ texts) = map (operand used) (text ∷ texts)

-- a literal: its text behind the equals sign, and what that is as a constant
pub record Literal : Type 0 where
  pub text : List ℕ
  pub constant : Operand

abbrev pub without_behind : whole.Literal → Literal
without_behind found = record { text = found.text; constant = found.constant }

-- the literal in an operand, if there is one
abbrev pub literal : List ℕ → Option Literal
literal text = option_map without_behind (whole.literal_in text)

abbrev pub listed : Option Literal → List Literal
listed None = []
listed (Some found) = found ∷ []

-- the literals of some operands, in order
abbrev pub literals : List (List ℕ) → List Literal
literals [] = []
literals (text ∷ texts) = listed (literal text) ++ literals texts
