use Rattle.std.proofs.Common.{◌≡◌}
use Rattle.std.specs.Prelude.{chars}
use Rattle.hl_base.specs.Texts.{lines}
use Rattle.hl_base.proofs.LineLaws.{cut_behind_crlf, cut_behind_end, lines-behind_crlf, lines-behind_end}
use Rattle.hl_base.proofs.line.behind_end.Goals as goal

pub range_from-requires : goal.range_from-requires
range_from-requires c = λ _. cut_behind_crlf c.args.text.now c.utf8.text (cc)

pub range_from-requires-else-is_crlf : goal.range_from-requires-else-is_crlf
range_from-requires-else-is_crlf c = λ _. cut_behind_end c.args.text.now c.utf8.text c.requires

pub returns-then-is_crlf : goal.returns-then-is_crlf
returns-then-is_crlf c =
    let e : lines (chars c.args.text.now) ≡ _ = lines-behind_crlf c.args.text.now c.utf8.text (cc) in cc

pub returns-else-is_crlf : goal.returns-else-is_crlf
returns-else-is_crlf c =
    let e : lines (chars c.args.text.now) ≡ _ = lines-behind_end c.args.text.now c.utf8.text c.requires (cc) in cc
