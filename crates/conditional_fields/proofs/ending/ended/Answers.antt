use Rattle.std.proofs.Common.{◌∙◌, ap, take, []}
use Rattle.std.specs.Str.{chars}
use Rattle.std.proofs.lemmas.Result.{IfOk-weaker}
use Rattle.conditional_fields.proofs.EndingLaws.{ended-front}
use Rattle.conditional_fields.proofs.ending.ended.Goals as goal

pub returns : goal.returns
returns c =
    let all = chars c.args.text.now in
    IfOk-weaker c.of.result _ _ (λ t is. is ∙ c.before-2.ensures ∙ ap (λ n. take n all) c.in_ok-length.ensures ∙ ended-front [] all) c.of.ensures
