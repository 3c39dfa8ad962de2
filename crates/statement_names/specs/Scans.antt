-- What the reader of characters keeps. No public clause cites this file. This project.
use Rattle.std.specs.Prelude.{◌≡◌, ℕ, ◌+◌, List, ◌++◌, length, slice_index}
use Rattle.hl_base.specs.Quoting.{IsBehind}
use Rattle.hl_base.specs.Symbols.{is_symbol_character}
use Rattle.hl_base.specs.declared.quoting.Nesting.{Nesting}
use Rattle.hlasm_statements.specs.declared.statement.Field.{Field}
use Rattle.statement_names.specs.declared.name.WrittenName.{WrittenName}
use Rattle.statement_names.specs.declared.scan.Marks.{Marks}
use Rattle.statement_names.specs.declared.scan.Sought.{Sought}
use Rattle.statement_names.specs.declared.uses.OperandUse.{OperandUse}
use Rattle.statement_names.specs.Constants.{group_from}
use Rattle.statement_names.specs.Names.{is_second, names_from}
use Rattle.statement_names.specs.Operands.{each_operand}

-- the marks say of these characters what follows for the next one
pub record Stands (marks : Marks) (before : List ℕ) : Type 0 where
  pub nesting : IsBehind marks.nesting before
  pub second : marks.is_second ≡ is_second before
  pub joined : marks.is_joined ≡ is_symbol_character (slice_index before 0)

-- the names that were found and those of what is left are the names of the whole
pub record IsScanned (sought : Sought) (field : Field) (at : ℕ) (marks : Marks) (place : ℕ) (found : List WrittenName) (left : List ℕ) (whole : List WrittenName) : Type 0 where
  pub before : List ℕ
  pub marked : Stands marks before
  pub place_is : place ≡ at + length before
  pub same : found ++ names_from sought field at before left ≡ whole

-- so many characters were read, the nesting is that behind them, and with those that are left they come to the same number
pub record IsGrouped (nesting : Nesting) (count : ℕ) (left : List ℕ) (whole : ℕ) : Type 0 where
  pub before : List ℕ
  pub behind : IsBehind nesting before
  pub count_is : count ≡ length before
  pub same : group_from before left ≡ whole

-- the names in the operands that were read and in those that are left, which begin at a place, are those of the whole
abbrev pub AreRead : OperandUse → (at : ℕ) (found : List WrittenName) (left : List (List ℕ)) (whole : List WrittenName) → Type 0
AreRead used at found left whole = found ++ each_operand used at left ≡ whole
