-- The shape of a statement and its first two fields.
-- HLASM Language Reference SC26-4940, "Comment statement format" and "Instruction statement format": `*` in column 1 is
-- a comment, `.*` an inner comment of a macro; the name entry begins in column 1, and blanks end it and the operation.
use Rattle.std.specs.Prelude.{ℕ, Bool, ◌==◌, ◌&&◌, List, [], drop, take_while, if◌then◌else◌, slice_index}
use Rattle.std.specs.List.{prefix_len, list_all}
use Rattle.hlasm_statements.specs.declared.statement.Shape.{Shape}
use Rattle.hlasm_statements.specs.declared.statement.Shape.TheVariants.{Plain, Comment, InnerComment, Blank}
use Rattle.hlasm_statements.specs.Columns.{Placed, is_blank, is_ink}

-- the shape of what is not a comment: blank where all of its source is
abbrev pub plain_or_blank : List ℕ → Shape
plain_or_blank text = if list_all is_blank text then Blank else Plain

-- the shape of a statement with this first line and this text of its source
abbrev pub shape_of : List ℕ → List ℕ → Shape
shape_of line text =
    if slice_index line 0 == 42 then Comment
    else (if (slice_index line 0 == 46) && (slice_index line 1 == 42) then InnerComment else plain_or_blank text)

-- what stands behind the elements that pass a test from the front on
abbrev pub skip_while : {X : Type 0} → (X → Bool) → List X → List X
skip_while test list = drop (prefix_len test list) list

-- the name entry: what begins in column 1, up to a blank
abbrev pub label_of : List Placed → List Placed
label_of source = take_while (λ p. is_ink p.char) source

-- the operation: behind the name entry and blanks, up to a blank
abbrev pub operation_of : List Placed → List Placed
operation_of source =
    take_while (λ p. is_ink p.char) (skip_while (λ p. is_blank p.char) (skip_while (λ p. is_ink p.char) source))

-- a field of a plain statement; the others have none
abbrev pub field_of : Shape → List Placed → List Placed
field_of Plain field = field
field_of Comment field = []
field_of InnerComment field = []
field_of Blank field = []
