-- Reading the tree of what a definition says gives it back.
use Rattle.std.proofs.Common.{◌≡◌, ℕ, List, [], ◌∷◌, map, refl, ap, sym, ◌∙◌}
use Rattle.hlasm_statements.specs.declared.fault.ColumnFault.{ColumnFault}
use Rattle.hlasm_statements.specs.declared.fault.ColumnFault.TheVariants.{MarginText, SurplusLines, MissingLine}
use Rattle.hlasm_statements.specs.declared.statement.Shape.{Shape}
use Rattle.hlasm_statements.specs.declared.statement.Shape.TheVariants.{Plain, Comment, InnerComment, Blank}
use Rattle.kept_values.specs.Trees.{Tree}
use Rattle.kept_values.specs.Lists.{list_tree}
use Rattle.macro_library.specs.Contents.{Content, Written, content_number}
use Rattle.macro_library.specs.Trees.{list_in, row_tree, row_in, shape_number, shape_in, fault_number, fault_in, written_tree, written_in, content_tree, content_in, definition_number}

list_back : (xs : List ℕ) → list_in (list_tree xs) ≡ xs
list_back [] = refl
list_back (x ∷ xs) = ap (λ l. x ∷ l) (list_back xs)

row_back : (ts : List Tree) → row_in (row_tree ts) ≡ ts
row_back [] = refl
row_back (t ∷ ts) = ap (λ l. t ∷ l) (row_back ts)

shape_back : (s : Shape) → shape_in (shape_number s) ≡ s
shape_back Plain = refl
shape_back Comment = refl
shape_back InnerComment = refl
shape_back Blank = refl

fault_back : (f : ColumnFault) → fault_in (fault_number f) ≡ f
fault_back MarginText = refl
fault_back SurplusLines = refl
fault_back MissingLine = refl

faults_back : (fs : List ColumnFault) → map fault_in (map fault_number fs) ≡ fs
faults_back [] = refl
faults_back (f ∷ fs) = ap (λ x. x ∷ map fault_in (map fault_number fs)) (fault_back f) ∙ ap (λ l. f ∷ l) (faults_back fs)

-- the parts of what a statement says, each by itself
same_written : (path line : ℕ) (shape other_shape : Shape) (label other_label op other_op operands other_operands : List ℕ)
    (faults other_faults : List ColumnFault) →
    shape ≡ other_shape → label ≡ other_label → op ≡ other_op → operands ≡ other_operands → faults ≡ other_faults →
    (let a : Written = record { path = path; line = line; shape = shape; label = label; op = op; operands = operands; faults = faults } in
    let b : Written = record { path = path; line = line; shape = other_shape; label = other_label; op = other_op; operands = other_operands; faults = other_faults } in
    a ≡ b)
same_written path line shape other_shape label other_label op other_op operands other_operands faults other_faults a b c d e = cc

pub written_back : (one : Written) → written_in (written_tree one) ≡ one
written_back one =
    same_written one.path one.line (shape_in (shape_number one.shape)) one.shape
    (list_in (list_tree one.label)) one.label (list_in (list_tree one.op)) one.op (list_in (list_tree one.operands)) one.operands
    (map fault_in (list_in (list_tree (map fault_number one.faults)))) one.faults
    (shape_back one.shape) (list_back one.label) (list_back one.op) (list_back one.operands)
    (ap (map fault_in) (list_back (map fault_number one.faults)) ∙ faults_back one.faults)

all_back : (list : List Written) → map written_in (map written_tree list) ≡ list
all_back [] = refl
all_back (one ∷ list) = ap (λ w. w ∷ map written_in (map written_tree list)) (written_back one) ∙ ap (λ l. one ∷ l) (all_back list)

pub content_back : (content : Content) → content_in (content_tree content) ≡ content
content_back content =
    ap (λ (p : Written). record { prototype = p; list = map written_in (row_in (row_tree (map written_tree content.list))) }) (written_back content.prototype)
    ∙ ap (λ (ts : List Tree). record { prototype = content.prototype; list = map written_in ts }) (row_back (map written_tree content.list))
    ∙ ap (λ (l : List Written). record { prototype = content.prototype; list = l }) (all_back content.list)

-- contents are one where their trees are
pub content_of_tree : (one other : Content) → content_tree one ≡ content_tree other → one ≡ other
content_of_tree one other is = sym (content_back one) ∙ ap content_in is ∙ content_back other

-- the number of a tree is that of the content
pub number_back : (content : Content) → definition_number (content_tree content) ≡ content_number content
number_back content = ap content_number (content_back content)
