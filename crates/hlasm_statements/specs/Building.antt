-- Statements as they are put together. This project.
use Rattle.std.specs.Prelude.{◌≡◌, ℕ, Bool, true, false, List, [], ◌∷◌, ◌++◌}
use Rattle.std.specs.List.{list_any}
use Rattle.hlasm_statements.specs.declared.fault.ColumnFault.{ColumnFault}
use Rattle.hlasm_statements.specs.declared.reader.Reader.{Reader}
use Rattle.hlasm_statements.specs.declared.statement.Shape.{Shape}
use Rattle.hlasm_statements.specs.declared.statement.Shape.TheVariants.{Plain, Comment, InnerComment, Blank}
use Rattle.hlasm_statements.specs.declared.statement.Statement.{Statement}
use Rattle.hlasm_statements.specs.Fields.{is_alternate}
use Rattle.hlasm_statements.specs.Faults.{has_margin_text, faults_met}
use Rattle.hlasm_statements.specs.Reading.{IsRead, whole_source}
use Rattle.hlasm_statements.specs.Statements.{lines_read, statement_in}

-- whether a shape has fields
abbrev pub is_plain : Shape → Bool
is_plain Plain = true
is_plain Comment = false
is_plain InnerComment = false
is_plain Blank = false

-- a statement without fields
abbrev pub empty_statement : (first last : ℕ) → Shape → List ColumnFault → Statement
empty_statement first last shape faults = record {
  first = first;
  last = last;
  shape = shape;
  label = [];
  op = [];
  operands = [];
  faults = faults;
  label_places = [];
  op_places = [];
  operand_places = [];
}

-- a plain statement with the fields that were read
abbrev pub filled_statement : (first last : ℕ) → Reader → List ColumnFault → Statement
filled_statement first last reader faults = record {
  first = first;
  last = last;
  shape = Plain;
  label = reader.label;
  op = reader.op;
  operands = reader.operands;
  faults = faults;
  label_places = reader.label_places;
  op_places = reader.op_places;
  operand_places = reader.operand_places;
}

-- the plain statement of these lines, of which all are read in the alternate format, stands behind others
pub record AddsAlternate (old new : List Statement) (number last : ℕ) (marked : Bool) (first : List ℕ) (rest : List (List ℕ)) : Type 0 where
  pub reader : Reader
  pub read : IsRead reader true (whole_source number (first ∷ rest))
  pub added : new ≡ old ++ filled_statement number last reader (faults_met (list_any has_margin_text rest) false marked) ∷ []

-- the statement whose lines have these columns 1 to 71
abbrev pub whole_statement : (number : ℕ) (marked : Bool) → List (List ℕ) → Statement
whole_statement number marked bodies = statement_in number marked (is_alternate lines_read number bodies) bodies
