use Rattle.std.proofs.Common.{◌∙◌, ap, arith, ◌<◌}
use Rattle.std.specs.Str.{chars}
use Rattle.std.proofs.lemmas.Result.{IfOk-weaker}
use Rattle.cond_expr.proofs.TextLemmas.{chars-encode_utf8}
use Rattle.cond_expr.proofs.symbol.letter.Goals as goal

pub returns : goal.returns
returns c =
    let small : c.args.letter < 256 = omega arith in
    IfOk-weaker c.of.result _ _ (λ t is. is ∙ ap chars c.encode_utf8.ensures.value ∙ chars-encode_utf8 c.args.letter small) c.of.ensures
