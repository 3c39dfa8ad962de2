use Rattle.std.proofs.Common.{◌∙◌, ap}
use Rattle.std.specs.Fmt.{signed_decimal}
use Rattle.std.specs.Int.{w32}
use Rattle.std.proofs.lemmas.Int.{to_z-of_z}
use Rattle.bulk_script.proofs.lines.signed.Goals as goal

pub returns : goal.returns
returns c = c.in_ok-digits.ensures.ok ∙ ap signed_decimal (to_z-of_z w32 c.args.number c.ranges.number)
