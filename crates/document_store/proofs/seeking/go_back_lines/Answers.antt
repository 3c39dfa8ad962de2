use Rattle.std.proofs.Common.{◌≡◌, ◌∙◌, ◌+◌, ◌-◌, true, List, ℕ, ◌++◌, length, take, drop, length-drop, refl, sym, ap, subst, arith}
use Rattle.std.proofs.Math.Seq.{drop-append_seam}
use Rattle.std.specs.Prelude.{chars, IsCharBoundary, IsUtf8}
use Rattle.document_store.specs.Parts.{Parts, text_in, parted, IsBeforeLine}
use Rattle.document_store.specs.Positions.{whole_lines}
use Rattle.document_store.proofs.SeekLemmas.{back_bytes, same_bytes-back, size-back}
use Rattle.document_store.proofs.seeking.go_back_lines.Goals as goal

-- the parts once so much was moved
abbrev moved : Parts → ℕ → Parts
moved p at = record { front = take at p.front; room = p.room; back = drop at p.front ++ p.back }

same_text : (p q : Parts) (at : ℕ) → q ≡ moved p at → text_in q ≡ text_in p
same_text p q at is = ap text_in is ∙ ap chars (same_bytes-back p.front p.back at)

same_size : (p q : Parts) (at : ℕ) → q ≡ moved p at → length q.front + length q.back ≡ length p.front + length p.back
same_size p q at is = ap (λ (r : Parts). length r.front + length r.back) is ∙ size-back p.front p.back at

at_first : (q : Parts) (line : ℕ) → line ≡ 0 → IsBeforeLine 0 q → IsBeforeLine line q
at_first q line none before = subst (λ (n : ℕ). IsBeforeLine n q) (sym none) before

pub go_back-requires : goal.go_back-requires
go_back-requires c = subst (λ (bs : List ℕ). IsCharBoundary bs c.place_back-at.result) c.front.ensures c.place_back-at.ensures

pub overflow_sub-passed : goal.overflow_sub-passed
overflow_sub-passed c =
    let cut = subst (λ (bs : List ℕ). IsCharBoundary bs c.place_back-at.result) c.front.ensures c.place_back-at.ensures in
    omega (arith, cut.0, ap length c.front-2.ensures)

pub returns-then-not-is_between_lines-clause-text : goal.returns-then-not-is_between_lines-clause-text
returns-then-not-is_between_lines-clause-text c = c.go_to_front.ensures.text ∙ same_text c.args.text.now c.go_back.new.self c.place_back-at.result c.go_back.ensures.parts

pub returns-then-not-is_between_lines-clause-size : goal.returns-then-not-is_between_lines-clause-size
returns-then-not-is_between_lines-clause-size c = c.go_to_front.ensures.size ∙ same_size c.args.text.now c.go_back.new.self c.place_back-at.result c.go_back.ensures.parts

pub returns-then-not-is_between_lines-clause-before : goal.returns-then-not-is_between_lines-clause-before
returns-then-not-is_between_lines-clause-before c = at_first c.go_to_front.new.text c.go_to_front.result c.go_to_front.ensures.line c.go_to_front.ensures.before

pub returns-then-not-is_between_lines-clause-reached : goal.returns-then-not-is_between_lines-clause-reached
returns-then-not-is_between_lines-clause-reached c = omega (arith, c.go_to_front.ensures.line)

pub returns-then-not-have_bytes-clause-text : goal.returns-then-not-have_bytes-clause-text
returns-then-not-have_bytes-clause-text c =
    c.go_to_front-then-not-have_bytes.ensures.text ∙ same_text c.args.text.now c.go_back.new.self c.place_back-at.result c.go_back.ensures.parts

pub returns-then-not-have_bytes-clause-size : goal.returns-then-not-have_bytes-clause-size
returns-then-not-have_bytes-clause-size c =
    c.go_to_front-then-not-have_bytes.ensures.size ∙ same_size c.args.text.now c.go_back.new.self c.place_back-at.result c.go_back.ensures.parts

pub returns-then-not-have_bytes-clause-before : goal.returns-then-not-have_bytes-clause-before
returns-then-not-have_bytes-clause-before c =
    at_first c.go_to_front-then-not-have_bytes.new.text c.go_to_front-then-not-have_bytes.result c.go_to_front-then-not-have_bytes.ensures.line c.go_to_front-then-not-have_bytes.ensures.before

pub returns-then-not-have_bytes-clause-reached : goal.returns-then-not-have_bytes-clause-reached
returns-then-not-have_bytes-clause-reached c = omega (arith, c.go_to_front-then-not-have_bytes.ensures.line)

pub returns-clause-text : goal.returns-clause-text
returns-clause-text c = same_text c.args.text.now c.go_back.new.self c.place_back-at.result c.go_back.ensures.parts

pub returns-clause-size : goal.returns-clause-size
returns-clause-size c = same_size c.args.text.now c.go_back.new.self c.place_back-at.result c.go_back.ensures.parts

pub returns-clause-before : goal.returns-clause-before
returns-clause-before c =
    let p = c.args.text.now in
    let at : ℕ = c.place_back-at.result in
    let q = c.go_back.new.self in
    let is : q ≡ moved p at = c.go_back.ensures.parts in
    let cut : IsCharBoundary p.front at = subst (λ (bs : List ℕ). IsCharBoundary bs at) c.front.ensures c.place_back-at.ensures in
    let first : c.front-3.result.now ≡ take at p.front = c.front-3.ensures ∙ ap (λ (r : Parts). r.front) is in
    let second : c.back.result.now ≡ drop at p.front ++ p.back = c.back.ensures ∙ ap (λ (r : Parts). r.back) is in
    let between : parted (chars (take at p.front)) (chars (drop at p.front ++ p.back)) ≡ true =
    ap (λ bs. parted (chars bs) (chars (drop at p.front ++ p.back))) (sym first)
    ∙ ap (λ bs. parted (chars c.front-3.result.now) (chars bs)) (sym second)
    ∙ c.if-not-is_between_lines.ensures refl in
    let last : c.back-2.result.now ≡ drop at p.front ++ p.back = c.back-2.ensures ∙ ap (λ (r : Parts). r.back) is in
    let passed : length c.front-2.result.now - at ≡ length (drop at p.front) = ap (λ bs. length bs - at) c.front-2.ensures ∙ sym (length-drop at p.front) in
    let lines : whole_lines (chars p.back) ≡ drop (c.args.line - c.args.wanted) (whole_lines (chars (drop at p.front ++ p.back))) =
    ap (λ bs. whole_lines (chars bs)) (sym (drop-append_seam (drop at p.front) p.back))
    ∙ ap (λ n. whole_lines (chars (drop n (drop at p.front ++ p.back)))) (sym passed)
    ∙ ap (λ bs. whole_lines (chars (drop (length c.front-2.result.now - at) bs))) (sym last)
    ∙ c.if-not-have_bytes.ensures refl
    ∙ ap (λ bs. drop (c.args.line - c.args.wanted) (whole_lines (chars bs))) last in
    let line : whole_lines (chars (drop at p.front ++ p.back)) ≡ drop (c.args.line - (c.args.line - c.args.wanted)) (whole_lines (chars (take at p.front ++ (drop at p.front ++ p.back)))) =
    back_bytes p.front p.back at c.args.line (c.args.line - c.args.wanted) (subst IsUtf8 c.front.ensures c.front.utf8) c.go_back.ensures.texts cut
    c.requires.before between lines in
    let wanted : c.args.line - (c.args.line - c.args.wanted) ≡ c.args.wanted = omega (arith, c.requires.back) in
    subst (λ (n : ℕ). IsBeforeLine n q) wanted (subst (λ (r : Parts). IsBeforeLine (c.args.line - (c.args.line - c.args.wanted)) r) (sym is) line)
