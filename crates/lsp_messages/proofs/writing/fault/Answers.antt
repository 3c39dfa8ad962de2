use Rattle.std.proofs.Common.{ℤ, ap, ◌∙◌}
use Rattle.std.specs.Int.{w32}
use Rattle.std.proofs.lemmas.Int.{to_z-of_z}
use Rattle.std.proofs.lemmas.Result.{IfOk-weaker}
use Rattle.lsp_messages.specs.Written.{fault_value}
use Rattle.lsp_messages.proofs.writing.fault.Goals as goal

pub returns : goal.returns
returns c =
    let made = c.object.ensures _ (c.with_word.ensures _ (c.with_made-made-2.ensures _ _
    (c.with_made-made.ensures _ _ c.no_members.ensures c.error_json-error.ensures) c.answered_json.ensures)) in
    IfOk-weaker c.object.result _ _
    (λ v exact. exact ∙ ap (λ (n : ℤ). fault_value c.args.id.now n c.args.message.now) (to_z-of_z w32 c.args.code c.ranges.code))
    made
