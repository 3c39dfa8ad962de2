-- A statement as it is read (this project): what its fields say, before anything has a value. A function of the statement.
use Rattle.std.specs.Prelude.{ℕ, Bool, List, Option, Some, None, Result, Ok, Err, encode_utf8_all, if◌then◌else◌}
use Rattle.hl_base.specs.Symbols.{symbol_of}
use Rattle.hlasm_statements.specs.Fields.{ends_quoted}
use Rattle.hlasm_statements.specs.declared.statement.Shape.{Shape}
use Rattle.hlasm_statements.specs.declared.statement.Shape.TheVariants as shape
use Rattle.hlasm_statements.specs.declared.statement.Statement.{Statement}
use Rattle.instruction_table.specs.Operations.{operation_of}
use Rattle.conditional_fields.specs.Sequences.{sequence}
use Rattle.statement_reading.specs.declared.task.Task.{Task}
use Rattle.statement_reading.specs.Bodies.{Body, body}
use Rattle.statement_reading.specs.Tasks.{task, is_lasting}
use Rattle.statement_reading.specs.Templates.{Part, template, has_ampersand}

-- what a statement is told to do: nothing, as a comment or a blank; an operation that cannot be read; one that is no name;
-- one that is known, with what the fields say for its task; or one with variable symbols, which is known only when they
-- have values. An open end says that the operand field as it is read ends within quotes.
pub data Instruction : Type 0 where
  idle : Instruction
  unread : (at : ℕ) → Instruction
  nameless : (op : List ℕ) (open_end : Bool) → Instruction
  known : (name op : List ℕ) (does : Task) (lasting open_end : Bool) (body : Body) → Instruction
  varying : (op : List Part) (label operands : List ℕ) (open_end : Bool) → Instruction

-- a statement as it is read, and the sequence symbol that is its name entry
pub record Reading : Type 0 where
  pub label : Option (List ℕ)
  pub instruction : Instruction

-- the name that a text is
abbrev pub name_of : List ℕ → Option (List ℕ)
name_of text = symbol_of (encode_utf8_all text)

-- an operation that is no name
abbrev pub read_nameless : (op operands : List ℕ) → Instruction
read_nameless op operands = nameless op (ends_quoted operands)

-- an operation with a name: its task is what it does where no macro definition has that name, and it is lasting where none
-- replaces it
abbrev pub read_named : (name label op operands : List ℕ) → Instruction
read_named name label op operands =
    known name op (task name (operation_of name)) (is_lasting (operation_of name)) (ends_quoted operands) (body (task name (operation_of name)) label operands)

-- an operation without an ampersand
abbrev pub read_known : Option (List ℕ) → (label op operands : List ℕ) → Instruction
read_known None label op operands = read_nameless op operands
read_known (Some name) label op operands = read_named name label op operands

-- an operation with an ampersand
abbrev pub read_varying : Result (List Part) ℕ → (label operands : List ℕ) → Instruction
read_varying (Ok parts) label operands = varying parts label operands (ends_quoted operands)
read_varying (Err at) label operands = unread at

-- an instruction with these fields
abbrev pub read_instruction : (label op operands : List ℕ) → Instruction
read_instruction label op operands = if has_ampersand op then read_varying (template op) label operands else read_known (name_of op) label op operands

-- what a name entry is as a sequence symbol
abbrev pub found : Result (List ℕ) ℕ → Option (List ℕ)
found (Ok name) = Some name
found (Err at) = None

abbrev pub sequence_label : List ℕ → Option (List ℕ)
sequence_label label = found (sequence label)

-- a statement of some shape
abbrev pub read_shape : Shape → (label op operands : List ℕ) → Reading
read_shape shape.Plain label op operands = record { label = sequence_label label; instruction = read_instruction label op operands }
read_shape other label op operands = record { label = None; instruction = idle }

-- a statement
abbrev pub read_statement : Statement → Reading
read_statement s = read_shape s.shape s.label s.op s.operands
