use Rattle.std.proofs.Common.{◌≡◌, ◌∙◌, ◌≤◌, ◌<◌, ℕ, List, false, Option, ◌++◌, length, take, drop, sym, ap, subst, arith}
use Rattle.std.specs.Option.{option_map}
use Rattle.std.specs.Prelude.{chars, encode_utf8_all, IsUtf8, Ok}
use Rattle.hl_base.specs.declared.edit.Edit.{Edit}
use Rattle.hl_base.specs.declared.edit.Position.{Position}
use Rattle.text_pool.specs.declared.pool.TheConstants.{LONGEST_TEXT}
use Rattle.document_store.specs.Edits.{edited, after_edit, is_backward, start_of, stop_of}
use Rattle.document_store.specs.Parts.{Parts, BeginsLine, IsBeforeLine, text_in, position_behind, first_line_of}
use Rattle.document_store.specs.Places.{bytes_before}
use Rattle.document_store.proofs.ChangeLemmas.{IsMade, made}
use Rattle.document_store.proofs.EditLemmas.{after_edit-long, after_edit-made}
use Rattle.document_store.proofs.OrderLemmas.{span_in_order, span_within}
use Rattle.document_store.proofs.PartLemmas.{backward-behind}
use Rattle.document_store.proofs.changes.make_edit.Goals as goal

-- the change counted from the line where the text is split is no more backward
still : (line : ℕ) (from to : Option Position) (first second : Option Position) → line ≤ first_line_of from → is_backward from to ≡ false →
    first ≡ option_map (position_behind line) from → second ≡ option_map (position_behind line) to → is_backward first second ≡ false
still line from to first second reached order e f =
    ap (λ p. is_backward p second) e ∙ ap (is_backward (option_map (position_behind line) from)) f ∙ backward-behind line from to reached order

reached_from : (line first : ℕ) (from : Option Position) → line ≤ first → first ≡ first_line_of from → line ≤ first_line_of from
reached_from line first from h is = subst (λ (n : ℕ). line ≤ n) is h

start_in : (found back : List ℕ) (start : ℕ) (at wanted : Option Position) → start ≡ bytes_before (chars found) (start_of (chars found) at) →
    found ≡ back → at ≡ wanted → start ≡ bytes_before (chars back) (start_of (chars back) wanted)
start_in found back start at wanted h e f =
    h ∙ ap (λ bs. bytes_before (chars bs) (start_of (chars bs) at)) e ∙ ap (λ p. bytes_before (chars back) (start_of (chars back) p)) f

stop_in : (found back : List ℕ) (stop : ℕ) (at wanted : Option Position) → stop ≡ bytes_before (chars found) (stop_of (chars found) at) →
    found ≡ back → at ≡ wanted → stop ≡ bytes_before (chars back) (stop_of (chars back) wanted)
stop_in found back stop at wanted h e f =
    h ∙ ap (λ bs. bytes_before (chars bs) (stop_of (chars bs) at)) e ∙ ap (λ p. bytes_before (chars back) (stop_of (chars back) p)) f

pub span_of-span-requires : goal.span_of-span-requires
span_of-span-requires c =
    still c.seek-line.result c.args.edit.now.from c.args.edit.now.to c.position_behind.result c.position_behind-2.result
    (reached_from c.seek-line.result c.first_line_of.result c.args.edit.now.from c.seek-line.ensures.reached c.first_line_of.ensures)
    (sym c.if-is_backward.ensures) c.position_behind.ensures c.position_behind-2.ensures

pub overflow_sub-kept : goal.overflow_sub-kept
overflow_sub-kept c =
    span_in_order c.back.result.now c.position_behind.result c.position_behind-2.result c.span_of-span.result.start c.span_of-span.result.end
    (still c.seek-line.result c.args.edit.now.from c.args.edit.now.to c.position_behind.result c.position_behind-2.result
    (reached_from c.seek-line.result c.first_line_of.result c.args.edit.now.from c.seek-line.ensures.reached c.first_line_of.ensures)
    (sym c.if-is_backward.ensures) c.position_behind.ensures c.position_behind-2.ensures)
    c.span_of-span.ensures.start c.span_of-span.ensures.end

pub overflow_sub-kept-2 : goal.overflow_sub-kept-2
overflow_sub-kept-2 c =
    omega (
      arith,
      span_within c.back.result.now c.position_behind-2.result c.span_of-span.result.end c.back.utf8 c.span_of-span.ensures.end,
      ap length c.back.ensures,
      ap length c.back-2.ensures,
    )

pub overflow_add-kept : goal.overflow_add-kept
overflow_add-kept c = omega (arith, c.requires.short, c.seek-line.ensures.size, ap length c.front.ensures, ap length c.back-2.ensures)

pub overflow_sub-kept-3 : goal.overflow_sub-kept-3
overflow_sub-kept-3 c = omega (arith, c.requires.short, c.seek-line.ensures.size, ap length c.front.ensures, ap length c.back-2.ensures)

facts : (text : Parts) (front back middle : List ℕ) (line first : ℕ) (edit : Edit) (start stop : ℕ) (from to : Option Position) →
    IsUtf8 front → front ≡ text.front → IsUtf8 back → back ≡ text.back → IsUtf8 middle → middle ≡ encode_utf8_all edit.text →
    IsBeforeLine line text → line ≤ first → first ≡ first_line_of edit.from → is_backward edit.from edit.to ≡ false →
    start ≡ bytes_before (chars back) (start_of (chars back) from) → stop ≡ bytes_before (chars back) (stop_of (chars back) to) →
    from ≡ option_map (position_behind line) edit.from → to ≡ option_map (position_behind line) edit.to →
    IsMade text.front text.back edit start stop line
facts text front back middle line first edit start stop from to u is_front v is_back w is_middle before reached first_is order e f g h =
    made text.front text.back line edit start stop (subst IsUtf8 is_front u) (subst IsUtf8 is_back v) (subst IsUtf8 is_middle w) before
    (reached_from line first edit.from reached first_is) order
    (start_in back text.back start from (option_map (position_behind line) edit.from) e is_back g)
    (stop_in back text.back stop to (option_map (position_behind line) edit.to) f is_back h)

pub replace-requires-clause-order : goal.replace-requires-clause-order
replace-requires-clause-order c =
    let m = facts c.seek-line.new.text c.front.result.now c.back.result.now c.as_str-middle.result.now c.seek-line.result c.first_line_of.result c.args.edit.now
    c.span_of-span.result.start c.span_of-span.result.end c.position_behind.result c.position_behind-2.result c.front.utf8 c.front.ensures c.back.utf8 c.back.ensures
    c.as_str-middle.utf8 c.as_str-middle.ensures.bytes c.seek-line.ensures.before c.seek-line.ensures.reached c.first_line_of.ensures (sym c.if-is_backward.ensures)
    c.span_of-span.ensures.start c.span_of-span.ensures.end c.position_behind.ensures c.position_behind-2.ensures in
    m.order

pub replace-requires-clause-first : goal.replace-requires-clause-first
replace-requires-clause-first c =
    let m = facts c.seek-line.new.text c.front.result.now c.back.result.now c.as_str-middle.result.now c.seek-line.result c.first_line_of.result c.args.edit.now
    c.span_of-span.result.start c.span_of-span.result.end c.position_behind.result c.position_behind-2.result c.front.utf8 c.front.ensures c.back.utf8 c.back.ensures
    c.as_str-middle.utf8 c.as_str-middle.ensures.bytes c.seek-line.ensures.before c.seek-line.ensures.reached c.first_line_of.ensures (sym c.if-is_backward.ensures)
    c.span_of-span.ensures.start c.span_of-span.ensures.end c.position_behind.ensures c.position_behind-2.ensures in
    m.first

pub replace-requires-clause-last : goal.replace-requires-clause-last
replace-requires-clause-last c =
    let m = facts c.seek-line.new.text c.front.result.now c.back.result.now c.as_str-middle.result.now c.seek-line.result c.first_line_of.result c.args.edit.now
    c.span_of-span.result.start c.span_of-span.result.end c.position_behind.result c.position_behind-2.result c.front.utf8 c.front.ensures c.back.utf8 c.back.ensures
    c.as_str-middle.utf8 c.as_str-middle.ensures.bytes c.seek-line.ensures.before c.seek-line.ensures.reached c.first_line_of.ensures (sym c.if-is_backward.ensures)
    c.span_of-span.ensures.start c.span_of-span.ensures.end c.position_behind.ensures c.position_behind-2.ensures in
    m.last

pub replace-requires-clause-few : goal.replace-requires-clause-few
replace-requires-clause-few c = omega (arith, c.if-middle-kept.false)

pub replace-requires-clause-short : goal.replace-requires-clause-short
replace-requires-clause-short c = omega (arith, c.requires.short, c.seek-line.ensures.size)

pub returns-then-middle-kept-clause-given : goal.returns-then-middle-kept-clause-given
returns-then-middle-kept-clause-given c =
    let m = facts c.seek-line.new.text c.front.result.now c.back.result.now c.as_str-middle.result.now c.seek-line.result c.first_line_of.result c.args.edit.now
    c.span_of-span.result.start c.span_of-span.result.end c.position_behind.result c.position_behind-2.result c.front.utf8 c.front.ensures c.back.utf8 c.back.ensures
    c.as_str-middle.utf8 c.as_str-middle.ensures.bytes c.seek-line.ensures.before c.seek-line.ensures.reached c.first_line_of.ensures (sym c.if-is_backward.ensures)
    c.span_of-span.ensures.start c.span_of-span.ensures.end c.position_behind.ensures c.position_behind-2.ensures in
    let text = c.seek-line.new.text in
    let long : LONGEST_TEXT < length (encode_utf8_all (edited (text_in text) c.args.edit.now)) =
    omega (arith, m.size, c.if-middle-kept.true, ap length c.front.ensures, ap length c.back-2.ensures, ap length c.as_str-middle.ensures.bytes) in
    ap (λ t. after_edit t c.args.number c.args.edit.now) (sym c.seek-line.ensures.text)
    ∙ after_edit-long (text_in text) c.args.number c.args.edit.now (sym c.if-is_backward.ensures) long

pub returns-clause-given : goal.returns-clause-given
returns-clause-given c =
    let m = facts c.seek-line.new.text c.front.result.now c.back.result.now c.as_str-middle.result.now c.seek-line.result c.first_line_of.result c.args.edit.now
    c.span_of-span.result.start c.span_of-span.result.end c.position_behind.result c.position_behind-2.result c.front.utf8 c.front.ensures c.back.utf8 c.back.ensures
    c.as_str-middle.utf8 c.as_str-middle.ensures.bytes c.seek-line.ensures.before c.seek-line.ensures.reached c.first_line_of.ensures (sym c.if-is_backward.ensures)
    c.span_of-span.ensures.start c.span_of-span.ensures.end c.position_behind.ensures c.position_behind-2.ensures in
    let text = c.seek-line.new.text in
    let start = c.span_of-span.result.start in
    let stop = c.span_of-span.result.end in
    let short : length (encode_utf8_all (edited (text_in text) c.args.edit.now)) ≤ LONGEST_TEXT =
    omega (
      arith,
      m.size,
      c.if-middle-kept.false,
      c.requires.short,
      c.seek-line.ensures.size,
      m.order,
      m.within,
      ap length c.front.ensures,
      ap length c.back-2.ensures,
      ap length c.as_str-middle.ensures.bytes,
    ) in
    let bytes : c.replace.new.self.front ++ c.replace.new.self.back ≡ text.front ++ (take start text.back ++ encode_utf8_all c.args.edit.now.text ++ drop stop text.back) =
    ap (λ xs. xs ++ c.replace.new.self.back) c.in_ok-replace.ensures.front
    ∙ ap (λ xs. text.front ++ xs)
    (c.in_ok-replace.ensures.back ∙ ap (λ xs. take start text.back ++ xs ++ drop stop text.back) c.as_str-middle.ensures.bytes) in
    ap (λ t. after_edit t c.args.number c.args.edit.now) (sym c.seek-line.ensures.text)
    ∙ after_edit-made (text_in text) c.args.number c.args.edit.now (sym c.if-is_backward.ensures) short
    ∙ ap Ok (m.text ∙ ap chars (sym bytes) ∙ sym c.settle.ensures.text)

pub returns-clause-before : goal.returns-clause-before
returns-clause-before c =
    let m = facts c.seek-line.new.text c.front.result.now c.back.result.now c.as_str-middle.result.now c.seek-line.result c.first_line_of.result c.args.edit.now
    c.span_of-span.result.start c.span_of-span.result.end c.position_behind.result c.position_behind-2.result c.front.utf8 c.front.ensures c.back.utf8 c.back.ensures
    c.as_str-middle.utf8 c.as_str-middle.ensures.bytes c.seek-line.ensures.before c.seek-line.ensures.reached c.first_line_of.ensures (sym c.if-is_backward.ensures)
    c.span_of-span.ensures.start c.span_of-span.ensures.end c.position_behind.ensures c.position_behind-2.ensures in
    let text = c.seek-line.new.text in
    c.settle.ensures.before (chars text.back)
    (subst (λ (bs : List ℕ). BeginsLine c.seek-line.result (chars bs) (chars text.back)) (sym c.in_ok-replace.ensures.front) m.begins)

pub returns-clause-short : goal.returns-clause-short
returns-clause-short c =
    let m = facts c.seek-line.new.text c.front.result.now c.back.result.now c.as_str-middle.result.now c.seek-line.result c.first_line_of.result c.args.edit.now
    c.span_of-span.result.start c.span_of-span.result.end c.position_behind.result c.position_behind-2.result c.front.utf8 c.front.ensures c.back.utf8 c.back.ensures
    c.as_str-middle.utf8 c.as_str-middle.ensures.bytes c.seek-line.ensures.before c.seek-line.ensures.reached c.first_line_of.ensures (sym c.if-is_backward.ensures)
    c.span_of-span.ensures.start c.span_of-span.ensures.end c.position_behind.ensures c.position_behind-2.ensures in
    let text = c.seek-line.new.text in
    let start = c.span_of-span.result.start in
    let stop = c.span_of-span.result.end in
    let back : length c.replace.new.self.back ≡ length (take start text.back ++ encode_utf8_all c.args.edit.now.text ++ drop stop text.back) =
    ap length (c.in_ok-replace.ensures.back ∙ ap (λ xs. take start text.back ++ xs ++ drop stop text.back) c.as_str-middle.ensures.bytes) in
    omega (
      arith,
      c.settle.ensures.size,
      ap length c.in_ok-replace.ensures.front,
      back,
      m.bytes,
      m.order,
      m.within,
      c.if-middle-kept.false,
      c.requires.short,
      c.seek-line.ensures.size,
      ap length c.front.ensures,
      ap length c.back-2.ensures,
      ap length c.as_str-middle.ensures.bytes,
    )
