use Rattle.std.proofs.Common.{◌∙◌, sym, ap}
use Rattle.std.specs.Prelude.{chars}
use Rattle.hl_base.proofs.LineLaws.{cut_before_end}
use Rattle.document_store.proofs.LineLemmas.{line_of-first, line_of-one}
use Rattle.document_store.proofs.lines.first_line.Goals as goal

pub split_at-requires : goal.split_at-requires
split_at-requires c = cut_before_end c.args.text.now c.in-Some.at (sym c.end_of_line.ensures ∙ c.in-Some.is)

pub returns-in-None : goal.returns-in-None
returns-in-None c = line_of-one c.args.text.now c.utf8.text (sym c.end_of_line.ensures ∙ c.in-None.is)

pub returns-in-Some : goal.returns-in-Some
returns-in-Some c =
    ap chars c.split_at.ensures.front
    ∙ line_of-first c.args.text.now c.in-Some.at c.utf8.text (sym c.end_of_line.ensures ∙ c.in-Some.is)
