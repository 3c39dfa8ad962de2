use Rattle.std.proofs.Common.{◌≡◌, ◌∙◌, ◌-◌, ◌<◌, drop, ap, subst, arith}
use Rattle.std.specs.Prelude.{chars, IsUtf8}
use Rattle.document_store.specs.Positions.{whole_lines}
use Rattle.document_store.specs.Places.{line_ends}
use Rattle.document_store.proofs.BlockLemmas.{drop-block}
use Rattle.document_store.proofs.lines.behind_block.Goals as goal

pub returns : goal.returns
returns c =
    let count : c.from-ends.result ≡ line_ends c.in_ok-at.at c.args.ahead.text.now =
    c.from-ends.ensures ∙ c.ends_in.ensures ∙ ap (line_ends c.in_ok-at.at) c.as_bytes.ensures.value in
    let fewer : line_ends c.in_ok-at.at c.args.ahead.text.now < c.args.ahead.ends = omega (arith, count, c.if-ends-ahead.false) in
    ap (λ n. drop (c.args.ahead.ends - n) (whole_lines (chars c.split_at.result.1.now))) count
    ∙ drop-block c.args.ahead.text.now c.split_at.result.1.now c.in_ok-at.at c.args.ahead.ends (subst IsUtf8 c.as_bytes.ensures.value c.as_bytes.ensures.utf8) c.in_ok-at.ensures.cut c.split_at.ensures.back fewer
