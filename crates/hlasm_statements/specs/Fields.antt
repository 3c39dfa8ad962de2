-- The operand field, and the format in which it is written. HLASM Language Reference SC26-4940, "Instruction statement
-- format", "Attributes" and "Alternate format for continuation lines".
use Rattle.std.specs.Prelude.{ℕ, Bool, true, false, not, ◌||◌, ◌&&◌, ◌==◌, List, [], ◌∷◌, Option, Some, None, codes, nat_lt, slice_index, reverse, encode_utf8_all, if◌then◌else◌}
use Rattle.std.specs.List.{list_any}
use Rattle.std.specs.Str.{str_eq_ignore_ascii_case}
use Rattle.hl_base.specs.Quoting.{is_quoted, depth}
use Rattle.hl_base.specs.Symbols.{symbol_of}
use Rattle.instruction_table.specs.Operations.{operation_of as meaning_of}
use Rattle.instruction_table.specs.declared.meaning.Operation.{Operation}
use Rattle.instruction_table.specs.declared.meaning.Operation.TheVariants.{Conditional, Ordinary, Both, Silent, LeftOut, Machine, Unknown}
use Rattle.hlasm_statements.specs.Columns.{Placed, is_blank, is_ink, source_of, text_of}
use Rattle.hlasm_statements.specs.Shape.{skip_while, shape_of, operation_of, field_of}

-- whether an operation is this one, in either case of letters
abbrev pub is_operation : List ℕ → List ℕ → Bool
is_operation name operation = str_eq_ignore_ascii_case (encode_utf8_all operation) name

-- whether blanks within parentheses belong to the operands: those of AIF, AGO, SETA, SETB and SETC
abbrev pub keeps_groups : List ℕ → Bool
keeps_groups operation =
    is_operation (codes "AIF") operation || (is_operation (codes "AGO") operation || (is_operation (codes "SETA") operation
    || (is_operation (codes "SETB") operation || is_operation (codes "SETC") operation)))

-- whether a blank with these characters of the operand field before it, the nearest first, ends the field: one outside
-- quotes, and, where parentheses keep their blanks, outside parentheses
abbrev pub ends_field : (keeps : Bool) (blank : ℕ) (before : List ℕ) → Bool
ends_field keeps blank before = not (is_quoted blank before || (nat_lt 0 (depth before) && keeps))

-- whether the line of a character is the one that is remarks from here on
abbrev pub is_remark : Option ℕ → ℕ → Bool
is_remark None line = false
is_remark (Some remarks) line = line == remarks

-- what of a source belongs to the operand field, behind these characters of it, the nearest first. A blank that ends
-- the field ends it for good; but in the alternate format, where the field so far ends in a comma, the rest of that line
-- is remarks, and the field goes on in the next line that does not begin with such a blank
abbrev pub operand_field : (alternate keeps : Bool) (remarks : Option ℕ) (before : List ℕ) → List Placed → List Placed
operand_field alternate keeps remarks before [] = []
operand_field alternate keeps remarks before (p ∷ rest) =
    if is_remark remarks p.line then operand_field alternate keeps remarks before rest
    else (if is_blank p.char && ends_field keeps p.char before
    then (if alternate && (slice_index before 0 == 44) then operand_field alternate keeps (Some p.line) before rest else [])
    else p ∷ operand_field alternate keeps None (p.char ∷ before) rest)

-- whether a text ends within quotes: a blank behind it would stand within them
abbrev pub ends_quoted : List ℕ → Bool
ends_quoted text = is_quoted 32 (reverse text)

-- what stands behind the operation and the blanks that follow it
abbrev pub behind_operation : List Placed → List Placed
behind_operation source =
    skip_while (λ p. is_blank p.char) (skip_while (λ p. is_ink p.char) (skip_while (λ p. is_blank p.char) (skip_while (λ p. is_ink p.char) source)))

-- the operand field of a source
abbrev pub operands_of : (alternate : Bool) → List Placed → List Placed
operands_of alternate source = operand_field alternate (keeps_groups (text_of (operation_of source))) None [] (behind_operation source)

-- whether statements with such an operation are in the alternate format: all but machine instructions and ordinary
-- assembler operations
abbrev pub is_alternate_meaning : Operation → Bool
is_alternate_meaning Conditional = true
is_alternate_meaning Ordinary = false
is_alternate_meaning Both = false
is_alternate_meaning Silent = false
is_alternate_meaning LeftOut = true
is_alternate_meaning (Machine format) = false
is_alternate_meaning Unknown = true

-- the same of a name; what is no name is no operation that is built in
abbrev pub is_alternate_name : Option (List ℕ) → Bool
is_alternate_name None = true
is_alternate_name (Some name) = is_alternate_meaning (meaning_of name)

-- and of the operation as written: none is not in the alternate format, and neither is one with a variable symbol
abbrev pub is_alternate_operation : List ℕ → Bool
is_alternate_operation [] = false
is_alternate_operation (c ∷ rest) = not (list_any (λ k. k == 38) (c ∷ rest)) && is_alternate_name (symbol_of (encode_utf8_all (c ∷ rest)))

-- whether the statement with these columns 1 to 71 of its lines is in the alternate format: its operation, as read from the
-- first line and at most nine continuation lines, decides. A statement of one line reads the same in both
abbrev pub is_alternate : (read number : ℕ) → List (List ℕ) → Bool
is_alternate read number [] = false
is_alternate read number (body ∷ []) = false
is_alternate read number (body ∷ next ∷ rest) =
    let source = source_of read number (body ∷ next ∷ rest) in
    is_alternate_operation (text_of (field_of (shape_of body (text_of source)) (operation_of source)))
