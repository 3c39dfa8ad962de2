use Rattle.std.proofs.Common.{◌∙◌, ap, rules, string_bytes}
use Rattle.std.specs.Fmt.{decimal, signed_decimal}
use Rattle.std.specs.Int.{w32}
use Rattle.std.proofs.lemmas.Int.{to_z-of_z}
use mir.Val.{SFits}
use Rattle.bulk_script.specs.Lines.{lines_of}
use Rattle.bulk_script.proofs.LineLaws.{six_lines}
use Rattle.bulk_script.proofs.lines.lines_of.Goals as goal

pub returns : goal.returns
unfolding lines_of
returns c =
    let outcome = c.args.outcome in
    let total_fits : SFits w32 c.args.outcome.total = search rules in
    let behind_fits : SFits w32 c.args.outcome.total_behind = search rules in
    c.in_ok-format.ensures.ok
    ∙ six_lines (decimal outcome.points) (decimal outcome.symbols) (decimal outcome.diagnostics) (string_bytes c.in_ok-total.total) (signed_decimal outcome.total)
    (decimal 10) (string_bytes c.in_ok-behind.behind) (signed_decimal outcome.total_behind)
    (c.in_ok-total.ensures ∙ ap signed_decimal (to_z-of_z w32 c.args.outcome.total total_fits))
    (c.in_ok-behind.ensures ∙ ap signed_decimal (to_z-of_z w32 c.args.outcome.total_behind behind_fits))
