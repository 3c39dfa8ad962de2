use Rattle.std.proofs.Common.{◌≡◌, ◌∙◌, drop, sym, ap}
use Rattle.std.specs.Prelude.{chars}
use Rattle.std.proofs.lemmas.Bool.{eqb-true}
use Rattle.document_store.specs.Positions.{whole_lines}
use Rattle.document_store.proofs.seeking.have_bytes.Goals as goal

pub returns-in-Some : goal.returns-in-Some
returns-in-Some c = λ yes.
    let all : c.bytes_over.result ≡ c.args.bytes = eqb-true c.bytes_over.result c.args.bytes yes in
    ap (λ n. whole_lines (chars (drop n c.args.text.now))) (sym all)
    ∙ ap (λ bs. whole_lines (chars bs)) c.bytes_over.ensures.rest
    ∙ c.in-Some.ensures
