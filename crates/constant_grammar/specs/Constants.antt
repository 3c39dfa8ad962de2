-- Operands of DC and DS, and of literals behind their equals sign. HLASM Language Reference SC26-4940, "DC instruction":
-- a duplication factor, a type, an explicit length and values, of which only the type must be there.
use Rattle.std.specs.Prelude.{ℕ, List, [], ◌∷◌, Option, Some, None, option_map}
use Rattle.constant_table.specs.declared.constant_type.ConstantType.{ConstantType}
use Rattle.constant_table.specs.Types.{kind_of}
use Rattle.constant_grammar.specs.declared.letters.Spelled.{Spelled}
use Rattle.constant_grammar.specs.Amounts.{Amount, OptionalAmount, factor, explicit_length, behind}
use Rattle.constant_grammar.specs.Letters.{spelled}
use Rattle.constant_grammar.specs.Nominals.{Nominal, nominal}

-- an operand as it is written
pub record Constant : Type 0 where
  pub factor : Option Amount
  pub kind : ConstantType
  pub length : Option Amount
  pub nominal : Option Nominal

-- the values that a text is, if it is not empty
abbrev pub values : ConstantType → List ℕ → Option (Option Nominal)
values kind [] = Some None
values kind (c ∷ cs) = option_map Some (nominal (kind_of kind) (c ∷ cs))

-- a constant with these values
abbrev pub with_values : Option Amount → ConstantType → Option Amount → Option (Option Nominal) → Option Constant
with_values before kind size None = None
with_values before kind size (Some found) = Some (record { factor = before; kind = kind; length = size; nominal = found })

-- what stands behind the type: the explicit length, and then the values
abbrev pub with_length : Option Amount → ConstantType → Option OptionalAmount → List ℕ → Option Constant
with_length before kind None text = None
with_length before kind (Some size) text = with_values before kind size.amount (values kind (behind size.count text))

abbrev pub behind_type : Option Amount → ConstantType → List ℕ → Option Constant
behind_type before kind text = with_length before kind (explicit_length text) text

-- what stands behind the factor: the type, and then the rest
abbrev pub with_type : Option Amount → Option Spelled → List ℕ → Option Constant
with_type before None text = None
with_type before (Some type) text = behind_type before type.kind (behind type.count text)

abbrev pub behind_factor : Option Amount → List ℕ → Option Constant
behind_factor before text = with_type before (spelled text) text

-- an operand
abbrev pub with_factor : Option OptionalAmount → List ℕ → Option Constant
with_factor None text = None
with_factor (Some before) text = behind_factor before.amount (behind before.count text)

abbrev pub constant : List ℕ → Option Constant
constant text = with_factor (factor text) text
