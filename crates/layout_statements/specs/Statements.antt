-- Generated statements as layout reads them (HLASM Language Reference SC26-4940, "Assembler instruction statements", "Machine
-- instruction statements").
use Rattle.std.specs.Prelude.{ℕ, Bool, List, Option, Some, None, Result, encode_utf8_all, if◌then◌else◌}
use Rattle.hl_base.specs.Symbols.{symbol_of}
use Rattle.expression_grammar.specs.Trees.{Tree}
use Rattle.instruction_table.specs.declared.format.Format.{Format}
use Rattle.operand_list.specs.Split.{operands_of}
use Rattle.constant_operands.specs.Operands.{Operand}
use Rattle.symbol_attributes.specs.declared.meaning.OpMeaning.{OpMeaning}
use Rattle.symbol_attributes.specs.declared.meaning.OpMeaning.TheVariants.{Other}
use Rattle.symbol_attributes.specs.Meanings.{built_in, defines}
use Rattle.layout_statements.specs.declared.kind.Kind.{Kind}
use Rattle.layout_statements.specs.declared.kind.Kind.TheVariants as kind
use Rattle.layout_statements.specs.Bases.{any_reads_place, using_reads_place}
use Rattle.layout_statements.specs.Equates as equates
use Rattle.layout_statements.specs.Expressions.{reading_at}
use Rattle.layout_statements.specs.Kinds.{kind_of}
use Rattle.layout_statements.specs.Lists as lists
use Rattle.layout_statements.specs.Symbols.{symbol_readings}

-- what a statement asks for
pub data Task : Type 0 where
  Instruction : (format : Format) (literals : List lists.Literal) → Task
  Constants : (operands : List Operand) → Task
  ControlSection : Task
  DummySection : Task
  Equate : (said : equates.Equate) → Task
  Org : (to : Option (Result Tree ℕ)) → Task
  Pool : Task
  Externals : (symbols : List (Result (List ℕ) ℕ)) → Task
  Entries : (symbols : List (Result (List ℕ) ℕ)) → Task
  End : (at : Option (Result Tree ℕ)) → Task
  Bases : (reads_place : Bool) → Task
  Nothing : Task

-- a statement: its operation, the symbol that its label defines, and what it asks for
pub record Statement : Type 0 where
  pub op : OpMeaning
  pub label : Option (List ℕ)
  pub task : Task

-- what an operation that is written so is: a built-in one, since macro calls are not generated
abbrev pub meaning_by : Option (List ℕ) → OpMeaning
meaning_by (Some name) = built_in name
meaning_by None = Other

abbrev pub meaning : List ℕ → OpMeaning
meaning op = meaning_by (symbol_of op)

-- the symbol that a name entry defines on an operation
abbrev pub label_on : OpMeaning → List ℕ → Option (List ℕ)
label_on op entry = if defines op then symbol_of entry else None

-- what an operation of a kind asks for, with an operand field and its operands
abbrev pub task_by : Kind → OpMeaning → (field : List ℕ) → List (List ℕ) → Task
task_by (kind.Instruction format) op field operands = Instruction format (lists.literals operands)
task_by (kind.Constants used) op field operands = Constants (lists.constants used operands)
task_by kind.ControlSection op field operands = ControlSection
task_by kind.DummySection op field operands = DummySection
task_by kind.Equate op field operands = Equate (equates.equate op field operands)
task_by kind.Org op field operands = Org (reading_at 0 operands)
task_by kind.Pool op field operands = Pool
task_by kind.Externals op field operands = Externals (symbol_readings operands)
task_by kind.Entries op field operands = Entries (symbol_readings operands)
task_by kind.End op field operands = End (reading_at 0 operands)
task_by kind.Using op field operands = Bases (using_reads_place operands)
task_by kind.Drop op field operands = Bases (any_reads_place operands)
task_by kind.Other op field operands = Nothing

abbrev pub task : OpMeaning → (field : List ℕ) → List (List ℕ) → Task
task op field operands = task_by (kind_of op) op field operands

-- a statement with a name entry, an operation and an operand field
abbrev pub statement_on : OpMeaning → (label operands : List ℕ) → Statement
statement_on op label operands = record { op = op; label = label_on op (encode_utf8_all label); task = task op operands (operands_of operands) }

abbrev pub statement : (label op operands : List ℕ) → Statement
statement label op operands = statement_on (meaning (encode_utf8_all op)) label operands
