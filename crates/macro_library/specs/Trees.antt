-- Definitions as trees, by what they say, and as they are read back from their trees. This project.
use Rattle.std.specs.Prelude.{◌≡◌, ℕ, ◌==◌, List, [], ◌∷◌, map, if◌then◌else◌}
use Rattle.hlasm_statements.specs.declared.fault.ColumnFault.{ColumnFault}
use Rattle.hlasm_statements.specs.declared.fault.ColumnFault.TheVariants.{MarginText, SurplusLines, MissingLine}
use Rattle.hlasm_statements.specs.declared.statement.Shape.{Shape}
use Rattle.hlasm_statements.specs.declared.statement.Shape.TheVariants.{Plain, Comment, InnerComment, Blank}
use Rattle.kept_values.specs.Trees.{Tree, Leaf, Fork}
use Rattle.kept_values.specs.Lists.{list_tree}
use Rattle.macro_library.specs.Contents.{Content, Written, content_number, content_of}
use Rattle.macro_library.specs.declared.kept_definition.KeptDefinition.{KeptDefinition}

-- ---- what a tree is made of

-- the parts of a tree; a number has itself
abbrev pub left_in : Tree → Tree
left_in (Leaf n) = Leaf n
left_in (Fork a b) = a

abbrev pub right_in : Tree → Tree
right_in (Leaf n) = Leaf n
right_in (Fork a b) = b

-- the number that a tree is
abbrev pub number_in : Tree → ℕ
number_in (Leaf n) = n
number_in (Fork a b) = 0

-- the numbers of a list, in order
abbrev pub list_in : Tree → List ℕ
list_in (Leaf n) = []
list_in (Fork a b) = number_in a ∷ list_in b

-- trees in order, one below the other, and 0 behind the last
abbrev pub row_tree : List Tree → Tree
row_tree [] = Leaf 0
row_tree (t ∷ ts) = Fork t (row_tree ts)

abbrev pub row_in : Tree → List Tree
row_in (Leaf n) = []
row_in (Fork a b) = a ∷ row_in b

-- ---- statements

abbrev pub shape_number : Shape → ℕ
shape_number Plain = 0
shape_number Comment = 1
shape_number InnerComment = 2
shape_number Blank = 3

abbrev pub shape_in : ℕ → Shape
shape_in n = if n == 0 then Plain else (if n == 1 then Comment else (if n == 2 then InnerComment else Blank))

abbrev pub fault_number : ColumnFault → ℕ
fault_number MarginText = 0
fault_number SurplusLines = 1
fault_number MissingLine = 2

abbrev pub fault_in : ℕ → ColumnFault
fault_in n = if n == 0 then MarginText else (if n == 1 then SurplusLines else MissingLine)

-- what a statement says, where it stands, and the faults of its columns
abbrev pub fields_tree : Written → Tree
fields_tree one = Fork (list_tree one.label) (Fork (list_tree one.op) (list_tree one.operands))

abbrev pub written_tree : Written → Tree
written_tree one =
    Fork (Fork (Leaf one.path) (Leaf one.line)) (Fork (Fork (Leaf (shape_number one.shape)) (list_tree (map fault_number one.faults))) (fields_tree one))

abbrev pub written_in : Tree → Written
written_in tree =
    let place = left_in tree in
    let shape = left_in (right_in tree) in
    let fields = right_in (right_in tree) in
    record {
      path = number_in (left_in place);
      line = number_in (right_in place);
      shape = shape_in (number_in (left_in shape));
      label = list_in (left_in fields);
      op = list_in (left_in (right_in fields));
      operands = list_in (right_in (right_in fields));
      faults = map fault_in (list_in (right_in shape));
    }

-- ---- definitions

-- the prototype, and then the statements
abbrev pub content_tree : Content → Tree
content_tree content = Fork (written_tree content.prototype) (row_tree (map written_tree content.list))

abbrev pub content_in : Tree → Content
content_in tree = record { prototype = written_in (left_in tree); list = map written_in (row_in (right_in tree)) }

-- reading the tree of a content gives the content
abbrev pub ContentsAreReadBack : Type 0
ContentsAreReadBack = (content : Content) → content_in (content_tree content) ≡ content

-- a definition that is kept, as the tree of what it says, and its number
abbrev pub definition_tree : KeptDefinition → Tree
definition_tree kept = content_tree (content_of kept.definition.value)

abbrev pub definition_number : Tree → ℕ
definition_number tree = content_number (content_in tree)
