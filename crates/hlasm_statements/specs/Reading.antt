-- What the reader of a source keeps of the characters so far. This project.
use Rattle.std.specs.Prelude.{◌≡◌, ℕ, ◌+◌, not, ◌<◌, ◌≤◌, ⊤, Bool, true, false, ◌&&◌, ◌==◌, List, [], ◌∷◌, ◌++◌, Some, None, take, drop, take_while, nat_lt, length, slice_index, slice_index_or, reverse, map, chars, if◌then◌else◌}
use Rattle.std.specs.List.{list_all}
use Rattle.std.specs.Borrow.{Bor}
use Rattle.hl_base.specs.Quoting.{IsBehind, is_quoted, depth}
use Rattle.hlasm_statements.specs.declared.statement.Shape.{Shape}
use Rattle.hlasm_statements.specs.declared.statement.Shape.TheVariants.{Plain, Comment, InnerComment}
use Rattle.hlasm_statements.specs.declared.reader.Stage.{Stage}
use Rattle.hlasm_statements.specs.declared.reader.Stage.TheVariants.{Label, Gap, Operation, OperandGap, Operands, Remarks, Done}
use Rattle.hlasm_statements.specs.declared.reader.Reader.{Reader}
use Rattle.hlasm_statements.specs.declared.reader.Scan.{Scan}
use Rattle.hlasm_statements.specs.declared.column.Front.{Front}
use Rattle.hlasm_statements.specs.declared.front_field.Sight.{Sight}
use Rattle.hlasm_statements.specs.declared.front_field.FrontField.{FrontField}
use Rattle.hlasm_statements.specs.Columns.{Placed, placed, continued, is_blank, is_ink, text_of, places_of}
use Rattle.hlasm_statements.specs.Shape.{skip_while, label_of, operation_of}
use Rattle.hlasm_statements.specs.Fields.{keeps_groups, ends_field, operand_field, operands_of}

-- what begins with a character that is no blank, and what begins behind it
abbrev pub word : List Placed → List Placed
word source = take_while (λ p. is_ink p.char) source

abbrev pub behind_word : List Placed → List Placed
behind_word source = skip_while (λ p. is_ink p.char) source

abbrev pub behind_blanks : List Placed → List Placed
behind_blanks source = skip_while (λ p. is_blank p.char) source

-- the stage that blanks leave before the operands
abbrev pub stage_behind_blanks : Stage → Stage
stage_behind_blanks Label = Gap
stage_behind_blanks Gap = Gap
stage_behind_blanks Operation = OperandGap
stage_behind_blanks OperandGap = OperandGap
stage_behind_blanks Operands = Operands
stage_behind_blanks (Remarks remarks) = Remarks remarks
stage_behind_blanks Done = Done

-- whether a character that is a blank or is none stands before the operands
abbrev pub precedes : Stage → Bool → Bool
precedes Label blank = true
precedes Gap blank = true
precedes Operation blank = true
precedes OperandGap blank = blank
precedes Operands blank = false
precedes (Remarks remarks) blank = false
precedes Done blank = false

-- whether characters begin before the operands
abbrev pub is_before_operands : Stage → List ℕ → Bool
is_before_operands stage [] = false
is_before_operands stage (c ∷ rest) = precedes stage (is_blank c)

-- whether the rest of a line is no part of the fields
abbrev pub is_past : Stage → (line : ℕ) → Bool
is_past Label line = false
is_past Gap line = false
is_past Operation line = false
is_past OperandGap line = false
is_past Operands line = false
is_past (Remarks remarks) line = line == remarks
is_past Done line = true

-- the name entry, where this much of it was read and this comes behind the stage that was reached
abbrev pub label_after : Stage → List Placed → List Placed → List Placed
label_after Label label tail = label ++ word tail
label_after Gap label tail = label
label_after Operation label tail = label
label_after OperandGap label tail = label
label_after Operands label tail = label
label_after (Remarks remarks) label tail = label
label_after Done label tail = label

-- the operation, likewise
abbrev pub op_after : Stage → List Placed → List Placed → List Placed
op_after Label op tail = op ++ word (behind_blanks (behind_word tail))
op_after Gap op tail = op ++ word (behind_blanks tail)
op_after Operation op tail = op ++ word tail
op_after OperandGap op tail = op
op_after Operands op tail = op
op_after (Remarks remarks) op tail = op
op_after Done op tail = op

-- what of the source is still to come of the operand field, likewise
abbrev pub rest_after : (alternate keeps : Bool) (before : List ℕ) → Stage → List Placed → List Placed
rest_after alternate keeps before Label tail = operand_field alternate keeps None before (behind_blanks (behind_word (behind_blanks (behind_word tail))))
rest_after alternate keeps before Gap tail = operand_field alternate keeps None before (behind_blanks (behind_word (behind_blanks tail)))
rest_after alternate keeps before Operation tail = operand_field alternate keeps None before (behind_blanks (behind_word tail))
rest_after alternate keeps before OperandGap tail = operand_field alternate keeps None before (behind_blanks tail)
rest_after alternate keeps before Operands tail = operand_field alternate keeps None before tail
rest_after alternate keeps before (Remarks remarks) tail = operand_field alternate keeps (Some remarks) before tail
rest_after alternate keeps before Done tail = []

-- whether nothing more is read
abbrev pub is_done : Stage → Bool
is_done Label = false
is_done Gap = false
is_done Operation = false
is_done OperandGap = false
is_done Operands = false
is_done (Remarks remarks) = false
is_done Done = true

-- the characters of a field, the nearest first
abbrev pub backwards : List Placed → List ℕ
backwards field = reverse (text_of field)

-- the reader has read this source: these are its fields so far, and whatever follows, they come to the fields of all of it
pub record IsRead (reader : Reader) (alternate : Bool) (source : List Placed) : Type 0 where
  pub label : List Placed
  pub op : List Placed
  pub operands : List Placed
  pub label_text : reader.label ≡ text_of label
  pub op_text : reader.op ≡ text_of op
  pub operands_text : reader.operands ≡ text_of operands
  pub label_places : reader.label_places ≡ places_of label
  pub op_places : reader.op_places ≡ places_of op
  pub operand_places : reader.operand_places ≡ places_of operands
  pub nesting : is_done reader.stage ≡ false → IsBehind reader.nesting (backwards operands)
  pub comma : reader.ends_in_comma ≡ (slice_index (backwards operands) 0 == 44)
  pub label_goes : (tail : List Placed) → label_after reader.stage label tail ≡ label_of (source ++ tail)
  pub op_goes : (tail : List Placed) → op_after reader.stage op tail ≡ operation_of (source ++ tail)
  pub operands_go : (tail : List Placed) →
      operands ++ rest_after alternate (keeps_groups (text_of (op_after reader.stage op tail))) (backwards operands) reader.stage tail ≡ operands_of alternate (source ++ tail)

-- so many characters at the front of a text, and what stands behind them
pub record IsFront (front : Front) (size : ℕ) (whole : List ℕ) : Type 0 where
  pub count : front.count ≡ size
  pub text : chars front.text.now ≡ take size whole
  pub behind : chars front.behind.now ≡ drop size whole

-- whether a byte is ASCII and no blank
abbrev pub is_ascii_ink : ℕ → Bool
is_ascii_ink b = nat_lt b 128 && not (is_blank b)

-- whether a byte is ASCII and stands behind the parentheses there, so that it is no blank, apostrophe or parenthesis
abbrev pub is_plain : ℕ → Bool
is_plain b = nat_lt 41 b && nat_lt b 128

-- what is kept of the bytes of an operand field so far, the nearest first
pub record IsSeen (sight : Sight) (before : List ℕ) : Type 0 where
  pub quoted : (c : ℕ) → is_quoted c before ≡ sight.is_quoted
  pub depth : sight.depth ≡ depth before
  pub last : sight.last ≡ slice_index before 0

-- these characters are read on from any source
abbrev pub ReadsOn : (old new : Reader) (alternate : Bool) (more : List Placed) → Type 0
ReadsOn old new alternate more = (source : List Placed) → IsRead old alternate source → IsRead new alternate (source ++ more)

-- each of these characters goes on with the operand field, behind those before it
abbrev pub Passes : (keeps : Bool) (before : List ℕ) → List ℕ → Type 0
Passes keeps before [] = ⊤
Passes keeps before (c ∷ rest) = ((is_blank c && ends_field keeps c before) ≡ false) × Passes keeps (c ∷ before) rest

-- these are all the characters, or a blank that ends the field comes behind them
abbrev pub EndsAt : (ended keeps : Bool) (count : ℕ) (before : List ℕ) → List ℕ → Type 0
EndsAt false keeps count before text = count ≡ length text
EndsAt true keeps count before text = (c : ℕ) × (count < length text) × (c ≡ slice_index_or text count c) × ((is_blank c && ends_field keeps c before) ≡ true)

-- so many bytes at the front are the operand field that begins there, a blank ends it, and each is a character
pub record IsFrontField (alternate keeps : Bool) (bytes : List ℕ) (field : FrontField) : Type 0 where
  pub within : field.count < length bytes
  pub ascii : list_all (λ b. nat_lt b 128) (take field.count bytes) ≡ true
  pub passes : Passes keeps [] (take field.count bytes)
  pub ends : (is_blank (slice_index bytes field.count) && ends_field keeps (slice_index bytes field.count) (reverse (take field.count bytes))) ≡ true
  pub comma : field.ends_in_comma ≡ (slice_index (reverse (take field.count bytes)) 0 == 44)
  pub over : (alternate && field.ends_in_comma) ≡ false

-- so many characters go on with the operand field, and this is what they leave
pub record IsScan (alternate keeps : Bool) (before text : List ℕ) (scan : Scan) : Type 0 where
  pub passes : Passes keeps before (take scan.count text)
  pub fits : scan.count ≤ length text
  pub ends : EndsAt scan.is_ended keeps scan.count (reverse (take scan.count text) ++ before) text
  pub nesting : (scan.is_ended && not (alternate && scan.ends_in_comma)) ≡ false → IsBehind scan.nesting (reverse (take scan.count text) ++ before)
  pub comma : scan.ends_in_comma ≡ (slice_index (reverse (take scan.count text) ++ before) 0 == 44)

-- what a scan says of the characters behind those that a reader has read
abbrev pub Scans : (alternate : Bool) → Reader → List ℕ → Scan → Type 0
Scans alternate reader text scan =
    IsBehind reader.nesting (reverse reader.operands) → reader.ends_in_comma ≡ (slice_index (reverse reader.operands) 0 == 44)
    → IsScan alternate (keeps_groups reader.op) (reverse reader.operands) text scan

-- the stage that they leave, with a blank that ends the field
abbrev pub stage_scanned : (alternate : Bool) → Stage → Scan → (line : ℕ) → Stage
stage_scanned alternate stage scan line =
    if scan.is_ended then (if alternate && scan.ends_in_comma then Remarks line else Done)
    else (if nat_lt 0 scan.count then Operands else stage)

-- the shape by the first line alone: plain where it is no comment
abbrev pub opening_of : List ℕ → Shape
opening_of line =
    if slice_index line 0 == 42 then Comment
    else (if (slice_index line 0 == 46) && (slice_index line 1 == 42) then InnerComment else Plain)

-- the source of lines of which all are read
abbrev pub whole_source : (number : ℕ) → List (List ℕ) → List Placed
whole_source number [] = []
whole_source number (body ∷ rest) = placed number 1 body ++ continued (number + 1) rest

-- columns 1 to 71 of some lines, as the code holds them
abbrev pub bodies_of : List (Bor (List ℕ)) → List (List ℕ)
bodies_of bodies = map (λ body. chars body.now) bodies
