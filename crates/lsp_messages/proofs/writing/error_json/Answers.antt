use Rattle.std.proofs.Common.{ℤ, ap, ◌∙◌}
use Rattle.std.specs.Int.{w32}
use Rattle.std.proofs.lemmas.Int.{to_z-of_z}
use Rattle.std.proofs.lemmas.Result.{IfOk-weaker}
use Rattle.lsp_messages.specs.Written.{error_value}
use Rattle.lsp_messages.proofs.writing.error_json.Goals as goal

pub returns : goal.returns
returns c =
    let made = c.object.ensures _ (c.with_text.ensures _ (c.with_integer-made.ensures _ c.no_members.ensures)) in
    IfOk-weaker c.object.result _ _
    (λ v exact. exact ∙ ap (λ (n : ℤ). error_value n c.args.message.now) (to_z-of_z w32 c.args.code c.ranges.code))
    made
