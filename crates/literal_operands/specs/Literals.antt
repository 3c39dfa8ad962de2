-- Literals in operands of machine instructions (HLASM Language Reference SC26-4940, "Literals"; where a literal ends is this
-- project's): an equals sign (61), and then a constant, up to the end of the operand where all of it is one that has its
-- values, else up to its last pair of parentheses, which is an index or a length.
use Rattle.std.specs.Prelude.{ℕ, ◌==◌, List, [], ◌∷◌, take, drop, Option, Some, None, if◌then◌else◌}
use Rattle.constant_grammar.specs.Constants.{Constant}
use Rattle.constant_operands.specs.declared.operand.ConstantUse.TheVariants as used
use Rattle.constant_operands.specs.Operands.{Operand, operand}
use Rattle.literal_operands.specs.Pairs.{last_pair}

-- a literal: its text behind the equals sign, what that is as a constant, and what stands behind it
pub record Literal : Type 0 where
  pub text : List ℕ
  pub constant : Operand
  pub behind : List ℕ

-- what stands at the front of a text and behind it
abbrev pub parted : (text behind : List ℕ) → Literal
parted text behind = record { text = text; constant = operand used.Literal text; behind = behind }

abbrev pub cut : ℕ → List ℕ → Literal
cut at body = parted (take at body) (drop at body)

-- up to a last pair of parentheses, or all of the text where there is none
abbrev pub up_to : Option ℕ → List ℕ → Literal
up_to None body = parted body []
up_to (Some at) body = cut at body

-- by whether all of the text is a constant
abbrev pub literal_by : Option Constant → List ℕ → Literal
literal_by (Some whole) body = parted body []
literal_by None body = up_to (last_pair body) body

-- the literal at the front of the text behind an equals sign
abbrev pub literal : List ℕ → Literal
literal body = literal_by (operand used.Literal body).constant body

-- the literal in an operand, if it begins with an equals sign
abbrev pub literal_in : List ℕ → Option Literal
literal_in [] = None
literal_in (c ∷ body) = if c == 61 then Some (literal body) else None
