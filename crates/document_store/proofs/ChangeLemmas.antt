-- A change of a text that is split before a line: of its second part alone.
use Rattle.std.proofs.Common.{◌≡◌, ◌∙◌, ℕ, ◌+◌, ◌-◌, ◌≤◌, false, List, ◌++◌, length, take, drop, refl, sym, ap, arith, length-append}
use Rattle.std.proofs.lemmas.Str.{chars-append, encodes-append, encodes-chars, IsUtf8-append, IsUtf8-take, IsUtf8-drop}
use Rattle.std.specs.Option.{option_map}
use Rattle.std.specs.Prelude.{chars, IsUtf8, IsCharBoundary, encode_utf8_all}
use Rattle.hl_base.specs.declared.edit.Edit.{Edit}
use Rattle.document_store.specs.Edits.{edited, is_backward, start_of, stop_of}
use Rattle.document_store.specs.Parts.{BeginsLine, position_behind, edit_behind, first_line_of}
use Rattle.document_store.specs.Places.{bytes_before}
use Rattle.document_store.specs.Positions.{whole_lines}
use Rattle.document_store.proofs.EditLemmas.{cut_at, chars-edited}
use Rattle.document_store.proofs.OrderLemmas.{span_in_order, span_within, edited_length}
use Rattle.document_store.proofs.PartLemmas.{edited-behind, backward-behind}

-- what is known of a change, and of the bytes that it replaces
pub record IsMade (front back : List ℕ) (edit : Edit) (start stop : ℕ) (line : ℕ) : Type 0 where
  pub begins : BeginsLine line (chars front) (chars back)
  pub order : start ≤ stop
  pub within : stop ≤ length back
  pub first : IsCharBoundary back start
  pub last : IsCharBoundary back stop
  pub size : length (encode_utf8_all (edited (chars (front ++ back)) edit)) ≡ length front + (length back - (stop - start)) + length (encode_utf8_all edit.text)
  pub text : edited (chars (front ++ back)) edit ≡ chars (front ++ (take start back ++ encode_utf8_all edit.text ++ drop stop back))
  pub bytes : length front + length (take start back ++ encode_utf8_all edit.text ++ drop stop back) ≡ length front + (length back - (stop - start)) + length (encode_utf8_all edit.text)

pub made : (front back : List ℕ) (line : ℕ) (edit : Edit) (start stop : ℕ) → IsUtf8 front → IsUtf8 back → IsUtf8 (encode_utf8_all edit.text) →
    whole_lines (chars back) ≡ drop line (whole_lines (chars (front ++ back))) → line ≤ first_line_of edit.from → is_backward edit.from edit.to ≡ false →
    start ≡ bytes_before (chars back) (start_of (chars back) (option_map (position_behind line) edit.from)) →
    stop ≡ bytes_before (chars back) (stop_of (chars back) (option_map (position_behind line) edit.to)) →
    IsMade front back edit start stop line
made front back line edit start stop u v w before reached forward e f =
    let later : Edit = edit_behind line edit in
    let begins : BeginsLine line (chars front) (chars back) = before ∙ ap (λ t. drop line (whole_lines t)) (chars-append front back u) in
    let still : is_backward later.from later.to ≡ false = backward-behind line edit.from edit.to reached forward in
    let first : IsCharBoundary back start = cut_at back start _ v e in
    let last : IsCharBoundary back stop = cut_at back stop _ v f in
    let whole : edited (chars (front ++ back)) edit ≡ chars front ++ edited (chars back) later =
    ap (λ t. edited t edit) (chars-append front back u) ∙ edited-behind line (chars front) (chars back) edit begins reached forward in
    let new : List ℕ = take start back ++ encode_utf8_all edit.text ++ drop stop back in
    let utf8 : IsUtf8 new =
    IsUtf8-append (take start back ++ encode_utf8_all edit.text) (drop stop back)
    (IsUtf8-append (take start back) (encode_utf8_all edit.text) (IsUtf8-take back start v first) w) (IsUtf8-drop back stop v last) in
    let text : edited (chars (front ++ back)) edit ≡ chars (front ++ new) =
    whole
    ∙ ap (λ t. chars front ++ t)
    (chars-edited back new later (take start back) (encode_utf8_all edit.text) (drop stop back) start stop v utf8 e f refl refl refl refl)
    ∙ sym (chars-append front new u) in
    let size : length (encode_utf8_all (edited (chars (front ++ back)) edit)) ≡ length front + (length back - (stop - start)) + length (encode_utf8_all edit.text) =
    ap (λ t. length (encode_utf8_all t)) whole
    ∙ ap length (encodes-append (chars front) (edited (chars back) later))
    ∙ length-append (encode_utf8_all (chars front)) (encode_utf8_all (edited (chars back) later))
    ∙ omega (arith, ap length (encodes-chars front u), edited_length back later start stop v still e f) in
    record {
      begins = begins;
      order = span_in_order back later.from later.to start stop still e f;
      within = span_within back later.to stop v f;
      first = first;
      last = last;
      size = size;
      text = text;
      bytes =
          sym (length-append front new)
          ∙ sym (ap length (encodes-chars (front ++ new) (IsUtf8-append front new u utf8)))
          ∙ ap (λ t. length (encode_utf8_all t)) (sym text) ∙ size;
    }
