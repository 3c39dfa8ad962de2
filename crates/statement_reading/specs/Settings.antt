-- How the fields of SETA, SETB and SETC are read (HLASM Language Reference SC26-4940, "SETA instruction", "SETB
-- instruction", "SETC instruction", "Subscripted SET symbols"): a variable symbol as the name entry, and an arithmetic, a
-- logical or a character expression as the operand.
use Rattle.std.specs.Prelude.{ℕ, ◌==◌, List, length, slice_index, Option, Some, None, Result, Ok, Err, if◌then◌else◌}
use Rattle.hl_base.specs.declared.set.SetKind.{SetKind}
use Rattle.hl_base.specs.declared.set.SetKind.TheVariants.{A, B, C}
use Rattle.expression_grammar.specs.declared.character.Grammar.TheVariants.{Arithmetic}
use Rattle.expression_grammar.specs.Readings.{read}
use Rattle.expression_grammar.specs.Trees.{Tree}
use Rattle.conditional_fields.specs.LogicReadings.{read_logic}
use Rattle.character_grammar.specs.TextReadings.{read_text}
use Rattle.statement_reading.specs.Symbols.{Found, symbol, reach}

-- the SET symbol that gets a value, and the value
pub record Setting : Type 0 where
  pub target : Tree
  pub value : Tree

-- all of a name entry is the variable symbol that it begins with, or it goes wrong within it, or behind it
abbrev pub whole : (label : List ℕ) → Option Found → Result Tree ℕ
whole label (Some found) = if found.count == length label then Ok found.tree else Err found.count
whole label None = Err (reach label)

-- a name entry as a variable symbol
abbrev pub target : List ℕ → Result Tree ℕ
target label = if slice_index label 0 == 38 then whole label (symbol label) else Err 0

-- an operand as a value of this type. The parentheses of a logical expression are its own, so it may stand without.
abbrev pub operand : SetKind → List ℕ → Result Tree ℕ
operand A field = read Arithmetic field
operand B field = read_logic field
operand C field = read_text field

-- both, or the first that is wrong
abbrev pub both : Result Tree ℕ → Result Tree ℕ → Result Setting ℕ
both (Ok target) (Ok value) = Ok (record { target = target; value = value })
both (Ok target) (Err at) = Err at
both (Err at) value = Err at

-- name entry and operand
abbrev pub setting : SetKind → (label field : List ℕ) → Result Setting ℕ
setting kind label field = both (target label) (operand kind field)
