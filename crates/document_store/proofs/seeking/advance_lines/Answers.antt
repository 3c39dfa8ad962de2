use Rattle.std.proofs.Common.{◌≡◌, ◌∙◌, ◌-◌, drop, List, ℕ, sym, ap, subst}
use Rattle.std.specs.Prelude.{chars, IsCharBoundary}
use Rattle.document_store.specs.Parts.{Parts, text_in}
use Rattle.document_store.specs.Positions.{whole_lines}
use Rattle.document_store.proofs.SeekLemmas.{ahead_bytes}
use Rattle.document_store.proofs.seeking.advance_lines.Goals as goal

pub advance-requires : goal.advance-requires
advance-requires c = subst (λ (bs : List ℕ). IsCharBoundary bs c.bytes_over-passed.result) c.back-back.ensures c.bytes_over-passed.ensures.cut

pub returns-clause-before : goal.returns-clause-before
returns-clause-before c =
    subst (λ (p : Parts). whole_lines (chars p.back) ≡ drop c.args.wanted (whole_lines (text_in p))) (sym c.advance.ensures)
    (ahead_bytes c.args.text.now.front c.args.text.now.back c.in-Some.rest.now c.bytes_over-passed.result c.args.line c.args.wanted c.requires.ahead c.requires.before
    (c.in-Some.ensures ∙ ap (λ bs. drop (c.args.wanted - c.args.line) (whole_lines (chars bs))) c.back-back.ensures)
    (ap (drop c.bytes_over-passed.result) (sym c.back-back.ensures) ∙ c.bytes_over-passed.ensures.rest))
