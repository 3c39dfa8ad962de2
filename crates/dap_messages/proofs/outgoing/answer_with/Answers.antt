use Rattle.std.proofs.Common.{ℤ, Some, ap, ◌∙◌}
use Rattle.std.specs.Int.{w32}
use Rattle.std.proofs.lemmas.Int.{to_z-of_z}
use Rattle.std.proofs.lemmas.Result.{IfOk-weaker}
use Rattle.serde_json.specs.View.{view}
use Rattle.dap_messages.specs.Written.{response_value}
use Rattle.dap_messages.proofs.outgoing.answer_with.Goals as goal

pub returns : goal.returns
returns c =
    let made = c.object.ensures _ (c.with_word.ensures _ (c.with_flag-made.ensures _ (c.with_long-made.ensures _
    (c.with_integer-made.ensures _ (c.with_text-made.ensures _ (c.with_copy-made.ensures _ c.no_members.ensures)))))) in
    IfOk-weaker c.object.result _ _
    (λ v exact. exact ∙ ap (λ (n : ℤ). response_value c.args.command.now n c.args.seq (Some (view c.args.body.now))) (to_z-of_z w32 c.args.request c.ranges.request))
    made
