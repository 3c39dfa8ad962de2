-- Operands of DC and DS, and literals, as they are read (HLASM Language Reference SC26-4940, "DC instruction", "DS
-- instruction", "Literals"): a constant, which must have values except in DS.
use Rattle.std.specs.Prelude.{ℕ, Bool, true, List, Option, Some, None, is_some, if◌then◌else◌}
use Rattle.constant_table.specs.declared.lengths.Purpose.{Purpose}
use Rattle.constant_table.specs.declared.lengths.Purpose.TheVariants as purpose
use Rattle.constant_grammar.specs.Constants.{Constant, constant}
use Rattle.constant_grammar.specs.Nominals.{Nominal}
use Rattle.constant_operands.specs.declared.operand.ConstantUse.{ConstantUse}
use Rattle.constant_operands.specs.declared.operand.ConstantUse.TheVariants.{Dc, Ds, Literal}

-- what it is for, and the constant, if it was read
pub record Operand : Type 0 where
  pub used : ConstantUse
  pub constant : Option Constant

-- what the table of constants calls a use
abbrev pub purpose_of : ConstantUse → Purpose
purpose_of Dc = purpose.Constant
purpose_of Ds = purpose.Storage
purpose_of Literal = purpose.Constant

-- whether these are all the values that a use asks for
abbrev pub suffices : ConstantUse → Option Nominal → Bool
suffices Dc nominal = is_some nominal
suffices Ds nominal = true
suffices Literal nominal = is_some nominal

-- a constant, where it has all the values that it must have
abbrev pub sufficient : ConstantUse → Option Constant → Option Constant
sufficient used None = None
sufficient used (Some one) = if suffices used one.nominal then Some one else None

-- an operand of a text, which of a literal is that behind its equals sign
abbrev pub operand : ConstantUse → List ℕ → Operand
operand used text = record { used = used; constant = sufficient used (constant text) }
