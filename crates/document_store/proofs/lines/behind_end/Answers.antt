use Rattle.std.proofs.Common.{◌∙◌, ap}
use Rattle.std.specs.Prelude.{chars}
use Rattle.hl_base.proofs.LineLaws.{cut_behind_crlf, cut_behind_end}
use Rattle.document_store.specs.Positions.{whole_lines}
use Rattle.document_store.proofs.LineLemmas.{whole_lines-behind_crlf, whole_lines-behind_end}
use Rattle.document_store.proofs.lines.behind_end.Goals as goal

pub range_from-requires : goal.range_from-requires
range_from-requires c = λ _. cut_behind_crlf c.args.text.now c.utf8.text (cc)

pub range_from-requires-else-is_crlf : goal.range_from-requires-else-is_crlf
range_from-requires-else-is_crlf c = λ _. cut_behind_end c.args.text.now c.utf8.text c.requires

pub returns-then-is_crlf : goal.returns-then-is_crlf
returns-then-is_crlf c =
    ap (λ bytes. whole_lines (chars bytes)) c.range_from.ensures.value
    ∙ whole_lines-behind_crlf c.args.text.now c.utf8.text (cc)

pub returns-else-is_crlf : goal.returns-else-is_crlf
returns-else-is_crlf c =
    ap (λ bytes. whole_lines (chars bytes)) c.range_from-else-is_crlf.ensures.value
    ∙ whole_lines-behind_end c.args.text.now c.utf8.text c.requires (cc)
