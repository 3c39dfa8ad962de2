use Rattle.std.proofs.Common.{◌∙◌, ap}
use Rattle.std.specs.Prelude.{chars}
use Rattle.std.specs.List.{prefix_len}
use Rattle.hlasm_statements.specs.Reading.{is_ascii_ink}
use Rattle.hlasm_statements.proofs.ByteLaws.{word-at}
use Rattle.hlasm_statements.proofs.CharLaws.{ascii-cut}
use Rattle.hlasm_statements.proofs.FrontLaws.{word-cut, front-cut, back-cut}
use Rattle.hlasm_statements.proofs.column.front_word.Goals as goal

pub split_at-requires : goal.split_at-requires
split_at-requires c =
    let text = c.args.text.now in
    let same = word-at text c.as_bytes-bytes.result.now c.ascii_length-count.result c.utf8.text c.as_bytes-bytes.ensures.value c.ascii_length-count.ensures (c.is_ascii_at.ensures c.if-not-is_ascii_at.false) in
    let is = word-cut text c.ascii_length-count.result _ (c.ascii_length-count.ensures ∙ ap (prefix_len is_ascii_ink) c.as_bytes-bytes.ensures.value) same in
    ascii-cut text _ c.utf8.text is.fits is.ascii

pub returns : goal.returns
returns c =
    let text = c.args.text.now in
    let same = word-at text c.as_bytes-bytes.result.now c.ascii_length-count.result c.utf8.text c.as_bytes-bytes.ensures.value c.ascii_length-count.ensures (c.is_ascii_at.ensures c.if-not-is_ascii_at.false) in
    let is = word-cut text c.ascii_length-count.result _ (c.ascii_length-count.ensures ∙ ap (prefix_len is_ascii_ink) c.as_bytes-bytes.ensures.value) same in
    record {
      count = is.same;
      text = ap chars c.split_at.ensures.front ∙ front-cut text _ _ c.utf8.text is;
      behind = ap chars c.split_at.ensures.back ∙ back-cut text _ _ c.utf8.text is;
    }
