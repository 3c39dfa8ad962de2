-- EQU (HLASM Language Reference SC26-4940, "EQU instruction").
use Rattle.std.specs.Prelude.{ℕ, List, [], ◌∷◌, Option, Result}
use Rattle.expression_grammar.specs.Trees.{Tree}
use Rattle.symbol_attributes.specs.declared.meaning.OpMeaning.{OpMeaning}
use Rattle.symbol_attributes.specs.Attributes.{attributes}
use Rattle.layout_statements.specs.Expressions.{reading, reading_at}

-- the value, the length, if it is given, and the type letter, which is that of attribute references
pub record Equate : Type 0 where
  pub value : Result Tree ℕ
  pub length : Option (Result Tree ℕ)
  pub letter : ℕ

-- the first operand, which is empty where it is missing
abbrev pub first_in : List (List ℕ) → List ℕ
first_in [] = []
first_in (operand ∷ operands) = operand

abbrev pub equate : OpMeaning → (field : List ℕ) → List (List ℕ) → Equate
equate op field operands = record { value = reading (first_in operands); length = reading_at 1 operands; letter = (attributes op field).letter }
