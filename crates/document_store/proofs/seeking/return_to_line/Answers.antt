use Rattle.std.proofs.Common.{◌≡◌, ◌∙◌, ◌+◌, ◌++◌, List, ℕ, length, take, drop, sym, ap, subst}
use Rattle.std.specs.Prelude.{chars, IsCharBoundary, IsUtf8}
use Rattle.document_store.specs.Parts.{Parts, text_in, IsBeforeLine}
use Rattle.document_store.specs.Positions.{whole_lines}
use Rattle.document_store.proofs.SeekLemmas.{same_bytes-back, size-back, within_bytes}
use Rattle.document_store.proofs.seeking.return_to_line.Goals as goal

-- the parts once so much was moved
abbrev moved : Parts → ℕ → Parts
moved p at = record { front = take at p.front; room = p.room; back = drop at p.front ++ p.back }

pub go_back-requires : goal.go_back-requires
go_back-requires c = subst (λ (bs : List ℕ). IsCharBoundary bs c.bytes_over-at.result) c.front-front.ensures c.bytes_over-at.ensures.cut

pub returns-clause-text : goal.returns-clause-text
returns-clause-text c = ap text_in c.go_back.ensures.parts ∙ ap chars (same_bytes-back c.args.text.now.front c.args.text.now.back c.bytes_over-at.result)

pub returns-clause-size : goal.returns-clause-size
returns-clause-size c =
    ap (λ (r : Parts). length r.front + length r.back) c.go_back.ensures.parts ∙ size-back c.args.text.now.front c.args.text.now.back c.bytes_over-at.result

pub returns-clause-before : goal.returns-clause-before
returns-clause-before c =
    let p = c.args.text.now in
    let at : ℕ = c.bytes_over-at.result in
    let cut : IsCharBoundary p.front at = subst (λ (bs : List ℕ). IsCharBoundary bs at) c.front-front.ensures c.bytes_over-at.ensures.cut in
    let line : whole_lines (chars (drop at p.front)) ≡ drop c.args.wanted (whole_lines (chars p.front)) =
    ap (λ bs. whole_lines (chars (drop at bs))) (sym c.front-front.ensures) ∙ ap (λ bs. whole_lines (chars bs)) c.bytes_over-at.ensures.rest
    ∙ c.in-Some.ensures ∙ ap (λ bs. drop c.args.wanted (whole_lines (chars bs))) c.front-front.ensures in
    subst (λ (r : Parts). IsBeforeLine c.args.wanted r) (sym c.go_back.ensures.parts)
    (within_bytes p.front p.back at c.args._line c.args.wanted (subst IsUtf8 c.front-front.ensures c.front-front.utf8) c.go_back.ensures.texts cut c.requires.before line)
