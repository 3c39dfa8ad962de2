-- What a definition says, apart from the columns in which it stands: two definitions are one where they say the same at the
-- same places (this project).
use Rattle.std.specs.Prelude.{ℕ, ◌+◌, ◌*◌, ◌%◌, ◌^◌, List, [], ◌∷◌, map, fold, Bool, Option}
use Rattle.hl_base.specs.declared.place.Origin.{Origin}
use Rattle.hlasm_statements.specs.declared.fault.ColumnFault.{ColumnFault}
use Rattle.hlasm_statements.specs.declared.statement.Shape.{Shape}
use Rattle.hlasm_statements.specs.declared.statement.Statement.{Statement}
use Rattle.statement_listing.specs.Listings.{Listed}
use Rattle.macro_binding.specs.Prototypes.{Prototype}
use Rattle.macro_library.specs.declared.variables.SystemVariables.{SystemVariables}
use Rattle.macro_library.specs.Definitions.{Definition, prototype_at}
use Rattle.macro_library.specs.Later.{copies_later}
use Rattle.macro_library.specs.Variables.{variables_of}

-- what a statement says, where it stands, and the faults of its columns
pub record Written : Type 0 where
  pub path : ℕ
  pub line : ℕ
  pub shape : Shape
  pub label : List ℕ
  pub op : List ℕ
  pub operands : List ℕ
  pub faults : List ColumnFault

abbrev pub written_at : Origin → Statement → Written
written_at origin statement = record {
  path = origin.path.0;
  line = origin.line;
  shape = statement.shape;
  label = statement.label;
  op = statement.op;
  operands = statement.operands;
  faults = statement.faults;
}

abbrev pub written : Listed → Written
written one = written_at one.origin one.statement

-- the content of a definition: its prototype and its statements as they are written. Its parameters and the system variables
-- that it names follow from them
pub record Content : Type 0 where
  pub prototype : Written
  pub list : List Written

abbrev pub content_of : Definition → Content
content_of definition = record {
  prototype = written_at definition.origin definition.statement;
  list = map written definition.list;
}

-- ---- what follows from a content

-- a statement that says this: in which columns it does is no part of what it says
abbrev pub statement_in : Written → Statement
statement_in one = record {
  first = one.line;
  last = one.line;
  shape = one.shape;
  faults = one.faults;
  label = one.label;
  op = one.op;
  operands = one.operands;
  label_places = [];
  op_places = [];
  operand_places = [];
}

abbrev pub listed_in : Written → Listed
listed_in one = record { origin = record { path = record { 0 = one.path }; line = one.line }; statement = statement_in one }

-- the prototype as it is read
abbrev pub prototype_in : Content → Option Prototype
prototype_in content = prototype_at (listed_in content.prototype)

-- the system variables that the statements name
abbrev pub variables_in : Content → SystemVariables
variables_in content = variables_of (map listed_in content.list)

-- whether one of them may copy a member when the macro is called
abbrev pub copies_later_in : Content → Bool
copies_later_in content = copies_later (map listed_in content.list)

-- ---- the number by which contents are told apart

-- what one more number makes of the number of what stands before it, in 64 bits (FNV's factor)
abbrev pub mixed : ℕ → ℕ → ℕ
mixed start n = ((start * 1099511628211) % 2 ^ 64 + n) % 2 ^ 64

-- the same of the characters of a text
abbrev pub text_number : ℕ → List ℕ → ℕ
text_number start text = fold mixed start text

-- the same of what a statement says
abbrev pub written_number : ℕ → Written → ℕ
written_number start one =
    text_number (text_number (text_number (mixed (mixed start one.path) one.line) one.label) one.op) one.operands

-- the number of a content: equal contents have one number
abbrev pub content_number : Content → ℕ
content_number content = fold written_number (written_number 0 content.prototype) content.list
