use Rattle.std.proofs.Common.{◌∙◌, sym, ap, get_or-drop, add-zero, drop}
use Rattle.std.specs.Prelude.{chars}
use Rattle.hl_base.proofs.LineLaws.{cut_before_end, found_end}
use Rattle.document_store.specs.Positions.{whole_lines}
use Rattle.document_store.proofs.LineLemmas.{whole_lines-behind_first, whole_lines-one}
use Rattle.document_store.proofs.lines.behind_first_line.Goals as goal

pub split_at-requires : goal.split_at-requires
split_at-requires c = cut_before_end c.args.text.now c.in_ok-at.at (sym c.end_of_line.ensures ∙ c.in_ok-at.was)

pub behind_end-requires : goal.behind_end-requires
behind_end-requires c =
    let end = found_end c.args.text.now c.in_ok-at.at (sym c.end_of_line.ensures ∙ c.in_ok-at.was) in
    rw (c.split_at.ensures.back, get_or-drop c.in_ok-at.at c.args.text.now 0 0, add-zero) end.1

pub returns-in_err-at : goal.returns-in_err-at
returns-in_err-at c =
    rw c.from_residual.ensures
    (sym (ap (drop 1) (whole_lines-one c.args.text.now c.utf8.text (sym c.end_of_line.ensures ∙ c.in_err-at.was))))

pub returns : goal.returns
returns c =
    c.behind_end.ensures
    ∙ ap (λ bytes. drop 1 (whole_lines (chars bytes))) c.split_at.ensures.back
    ∙ whole_lines-behind_first c.args.text.now c.in_ok-at.at c.utf8.text (sym c.end_of_line.ensures ∙ c.in_ok-at.was)
