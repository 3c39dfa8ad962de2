use Rattle.std.proofs.Common.{◌∙◌, ap}
use Rattle.std.specs.Prelude.{chars}
use Rattle.std.specs.List.{prefix_len}
use Rattle.hlasm_statements.specs.Columns.{is_blank}
use Rattle.hlasm_statements.proofs.ByteLaws.{blank-bytes}
use Rattle.hlasm_statements.proofs.CharLaws.{ascii-cut}
use Rattle.hlasm_statements.proofs.FrontLaws.{blanks-cut, front-cut, back-cut}
use Rattle.hlasm_statements.proofs.column.front_blanks.Goals as goal

pub split_at-requires : goal.split_at-requires
split_at-requires c =
    let text = c.args.text.now in
    let counts = c.blanks_length-count.ensures ∙ ap (prefix_len is_blank) c.as_bytes.ensures.value in
    let is = blanks-cut text c.blanks_length-count.result _ counts (counts ∙ blank-bytes text c.utf8.text) in
    ascii-cut text _ c.utf8.text is.fits is.ascii

pub returns : goal.returns
returns c =
    let text = c.args.text.now in
    let counts = c.blanks_length-count.ensures ∙ ap (prefix_len is_blank) c.as_bytes.ensures.value in
    let is = blanks-cut text c.blanks_length-count.result _ counts (counts ∙ blank-bytes text c.utf8.text) in
    record {
      count = is.same;
      text = ap chars c.split_at.ensures.front ∙ front-cut text _ _ c.utf8.text is;
      behind = ap chars c.split_at.ensures.back ∙ back-cut text _ _ c.utf8.text is;
    }
