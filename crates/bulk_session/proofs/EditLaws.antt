-- What an edit makes of the program's text.
use Rattle.std.proofs.Common.{◌≡◌, ◌∙◌, ℕ, suc, ◌+◌, ◌^◌, ◌<◌, ◌≤◌, false, List, [], ◌∷◌, ◌++◌, Some, Ok, length, refl, ap, sym, arith, length-append}
use Rattle.std.specs.Prelude.{codes, encode_utf8_all}
use Rattle.std.specs.Str.{chars}
use Rattle.std.specs.Fmt.{decimal}
use Rattle.std.proofs.lemmas.Bool.{le-ltb, eq-eqb}
use Rattle.std.proofs.lemmas.Str.{chars-IsAscii, encodes-IsAscii}
use Rattle.hl_base.specs.declared.edit.Edit.{Edit}
use Rattle.text_pool.specs.declared.pool.TheConstants.{LONGEST_TEXT}
use Rattle.document_store.specs.Edits.{edited, is_backward, is_too_long, after_edits}
use Rattle.bulk_script.specs.Texts.{text_of, edited_call, edited_line, first_column, end_column, operand, call_front, call_text, program_text}
use Rattle.bulk_session.specs.Bulk.{text_behind}
use Rattle.bulk_session.proofs.PrintedLaws.{line_changed}
use Rattle.bulk_session.proofs.ProgramTexts.{program_short, program_ascii, program_before, program_after, before_printed, line_printed, lines_before, text_behind_edit, length-lines_before, call_within, front_short, call_short}

-- the text is its bytes
same : (count edits : ℕ) → count ≤ 10000 → text_behind count edits ≡ program_text count edits
same count edits few = chars-IsAscii (program_text count edits) (program_ascii count edits few)

pub may_be_opened : (count edits : ℕ) → count ≤ 10000 → is_too_long (text_behind count edits) ≡ false
may_be_opened count edits few =
    let bytes : encode_utf8_all (text_behind count edits) ≡ program_text count edits =
    ap encode_utf8_all (same count edits few) ∙ encodes-IsAscii (program_text count edits) (program_ascii count edits few) in
    let short = program_short count edits few in
    let within : length (encode_utf8_all (text_behind count edits)) ≤ LONGEST_TEXT = omega (arith, ap length bytes) in
    le-ltb LONGEST_TEXT (length (encode_utf8_all (text_behind count edits))) within

-- the change of an edit
abbrev pub edit_of : (line first end : ℕ) → Edit
edit_of line first end = record {
  from = Some (record { line = line; character = first });
  to = Some (record { line = line; character = end });
  text = codes "5";
}

forward : (line first end : ℕ) → first ≤ end → is_backward (edit_of line first end).from (edit_of line first end).to ≡ false
forward line first end within = rw (le-ltb line line (omega arith), eq-eqb line line refl, le-ltb end first within) refl

one_edit : (text other : List ℕ) (edit : Edit) → is_backward edit.from edit.to ≡ false → edited text edit ≡ other → is_too_long other ≡ false → after_edits (edit ∷ []) 0 text ≡ Ok other
one_edit text other edit on made short = rw (on, made, short) refl

edited_is : (count edit : ℕ) → 0 < count → count ≤ 10000 → edit < 10
    → edited (program_text count edit) (edit_of (edited_line count edit) (first_column count edit) (end_column count edit)) ≡ program_text count (suc edit)
unfolding call_text
edited_is count edit some few low =
    let front : List ℕ = call_front (edited_call count edit) in
    let old : List ℕ = decimal (operand count edit (edited_call count edit)) in
    let text : List ℕ = text_of (lines_before count edit) ++ ((front ++ old) ++ 10 ∷ text_behind_edit count edit) in
    ap (λ t. edited t (edit_of (edited_call count edit + 2) (length front) (length (front ++ old)))) (program_before count edit some low)
    ∙ ap (λ line. edited text (edit_of line (length front) (length (front ++ old)))) (sym (length-lines_before count edit))
    ∙ line_changed (lines_before count edit) front old (text_behind_edit count edit) (codes "5") (before_printed count edit some few low) (line_printed count edit some few low)
    ∙ sym (program_after count edit some low)

columns_in_order : (count edit : ℕ) → first_column count edit ≤ end_column count edit
unfolding call_text
columns_in_order count edit = omega (arith, length-append (call_front (edited_call count edit)) (decimal (operand count edit (edited_call count edit))))

-- an edit makes the next text of the one before
pub edit_makes : (count edit : ℕ) → 0 < count → count ≤ 10000 → edit < 10
    → after_edits (edit_of (edited_line count edit) (first_column count edit) (end_column count edit) ∷ []) 0 (text_behind count edit) ≡ Ok (text_behind count (suc edit))
edit_makes count edit some few low =
    one_edit (text_behind count edit) (text_behind count (suc edit)) (edit_of (edited_line count edit) (first_column count edit) (end_column count edit))
    (forward (edited_line count edit) (first_column count edit) (end_column count edit) (columns_in_order count edit))
    (ap (λ t. edited t (edit_of (edited_line count edit) (first_column count edit) (end_column count edit))) (same count edit few) ∙ edited_is count edit some few low ∙ sym (same count (suc edit) few))
    (may_be_opened count (suc edit) few)

-- its line and its columns are small
pub line_small : (count edit : ℕ) → 0 < count → count ≤ 10000 → edit < 10 → edited_line count edit < 2 ^ 31
line_small count edit some few low = let within = call_within count edit some low in omega arith

pub first_small : (count edit : ℕ) → 0 < count → count ≤ 10000 → edit < 10 → first_column count edit < 2 ^ 31
first_small count edit some few low =
    let within = call_within count edit some low in
    let short = front_short (edited_call count edit) (omega arith) in
    omega arith

pub end_small : (count edit : ℕ) → 0 < count → count ≤ 10000 → edit < 10 → end_column count edit < 2 ^ 31
end_small count edit some few low =
    let within = call_within count edit some low in
    let short = call_short count edit (edited_call count edit) (omega arith) in
    let whole = length-append (call_text count edit (edited_call count edit)) (10 ∷ []) in
    omega arith
