use Rattle.std.proofs.Common.{◌∙◌, sym, ap, get_or-drop, add-zero}
use Rattle.std.specs.Prelude.{chars}
use Rattle.hl_base.specs.Texts.{lines}
use Rattle.hl_base.proofs.LineLaws.{cut_before_end, found_end, lines-one, lines-first}
use Rattle.hl_base.proofs.line.first_line.Goals as goal

pub split_at-requires : goal.split_at-requires
split_at-requires c = cut_before_end c.args.text.now c.in-Some.at (sym c.end_of_line.ensures ∙ c.in-Some.is)

pub behind_end-requires : goal.behind_end-requires
behind_end-requires c =
    let end = found_end c.args.text.now c.in-Some.at (sym c.end_of_line.ensures ∙ c.in-Some.is) in
    rw (c.split_at.ensures.back, get_or-drop c.in-Some.at c.args.text.now 0 0, add-zero) end.1

pub returns-in-None : goal.returns-in-None
returns-in-None c = lines-one c.args.text.now c.utf8.text (sym c.end_of_line.ensures ∙ c.in-None.is)

pub returns-in-Some : goal.returns-in-Some
returns-in-Some c =
    rw c.split_at.ensures.front
    (lines-first c.args.text.now c.in-Some.at _ c.utf8.text (sym c.end_of_line.ensures ∙ c.in-Some.is)
    (ap (λ bytes. lines (chars bytes)) (sym c.split_at.ensures.back) ∙ c.behind_end.ensures))
