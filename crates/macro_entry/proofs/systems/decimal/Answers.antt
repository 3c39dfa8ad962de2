use Rattle.std.proofs.Common.{◌∙◌, ap, sym, arith}
use Rattle.std.specs.Str.{chars}
use Rattle.std.specs.Fmt.{signed_decimal}
use Rattle.std.specs.Int.{w32}
use Rattle.std.proofs.lemmas.Int.{to_z-of_z}
use Rattle.std.proofs.lemmas.Result.{IfOk-weaker}
use Rattle.cond_expr.proofs.TextLemmas.{chars-signed_decimal}
use Rattle.macro_entry.proofs.systems.decimal.Goals as goal

pub returns : goal.returns
returns c =
    IfOk-weaker c.of.result _ _
    (λ t is. is ∙ ap chars (c.as_str.ensures.value ∙ c.in_ok-digits.ensures.ok ∙ ap signed_decimal (to_z-of_z w32 c.args.number c.ranges.number)) ∙ sym (chars-signed_decimal c.args.number (omega (arith, c.ranges.number))))
    c.of.ensures
