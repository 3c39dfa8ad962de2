-- The statements of a text. HLASM Language Reference SC26-4940, "Assembler language coding conventions"; that at most
-- nine continuation lines are read is its rule for the standard format.
use Rattle.std.specs.Prelude.{ℕ, ◌+◌, ◌-◌, Bool, List, [], ◌∷◌, length, map, if◌then◌else◌}
use Rattle.hl_base.specs.Texts.{lines}
use Rattle.hlasm_statements.specs.declared.statement.Field.{Field}
use Rattle.hlasm_statements.specs.declared.statement.Field.TheVariants.{Label, Op, Operands}
use Rattle.hlasm_statements.specs.declared.statement.Statement.{Statement}
use Rattle.hlasm_statements.specs.Columns.{groups, body_of, source_of, text_of, places_of}
use Rattle.hlasm_statements.specs.Shape.{shape_of, label_of, operation_of, field_of}
use Rattle.hlasm_statements.specs.Fields.{operands_of, is_alternate}
use Rattle.hlasm_statements.specs.Faults.{ends_marked, faults_of}

-- how many continuation lines are read in the standard format
abbrev pub lines_read : ℕ
lines_read = 9

-- the first of some lines
abbrev pub first_of : List (List ℕ) → List ℕ
first_of [] = []
first_of (line ∷ rest) = line

-- how many continuation lines are read: all of them in the alternate format
abbrev pub read_of : (alternate : Bool) → List (List ℕ) → ℕ
read_of alternate bodies = if alternate then length bodies else lines_read

-- the statement whose lines have these columns 1 to 71, the first of them with this number
unfoldable pub statement_in : (number : ℕ) (marked alternate : Bool) → List (List ℕ) → Statement
statement_in number marked alternate bodies =
    let read = read_of alternate bodies in
    let source = source_of read number bodies in
    let shape = shape_of (first_of bodies) (text_of source) in
    let label = field_of shape (label_of source) in
    let op = field_of shape (operation_of source) in
    let operands = field_of shape (operands_of alternate source) in
    record {
      first = number;
      last = number + length bodies - 1;
      shape = shape;
      label = text_of label;
      op = text_of op;
      operands = text_of operands;
      faults = faults_of read marked bodies;
      label_places = places_of label;
      op_places = places_of op;
      operand_places = places_of operands;
    }

-- the statement of these lines, of which the first has this number
unfoldable pub statement_of : (number : ℕ) → List (List ℕ) → Statement
statement_of number group =
    let bodies = map body_of group in
    statement_in number (ends_marked group) (is_alternate lines_read number bodies) bodies

-- the statements of these groups of lines, in order, from this line number on
abbrev pub statements_from : ℕ → List (List (List ℕ)) → List Statement
statements_from number [] = []
statements_from number (group ∷ rest) = statement_of number group ∷ statements_from (number + length group) rest

-- the statements of a text
abbrev pub statements_of : List ℕ → List Statement
statements_of text = statements_from 0 (groups (lines text))

-- where the characters of a field stand: line and column of each
abbrev pub places : Statement → Field → List (ℕ × ℕ)
places statement Label = statement.label_places
places statement Op = statement.op_places
places statement Operands = statement.operand_places

-- the characters of a field
abbrev pub field : Statement → Field → List ℕ
field statement Label = statement.label
field statement Op = statement.op
field statement Operands = statement.operands
