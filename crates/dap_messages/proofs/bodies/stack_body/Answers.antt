use Rattle.std.proofs.Common.{length, ap, ◌∙◌}
use Rattle.std.proofs.lemmas.Result.{IfOk-weaker}
use Rattle.serde_json.specs.Written.{has_float}
use Rattle.dap_messages.specs.Written.{counted_value}
use Rattle.dap_messages.proofs.WrittenLaws.{whole_stack}
use Rattle.dap_messages.proofs.bodies.stack_body.Goals as goal

pub returns-clause-whole : goal.returns-clause-whole
returns-clause-whole c =
    IfOk-weaker c.counted.result _ _
    (λ v exact. ap has_float (exact ∙ ap (λ list. counted_value list (length c.args.frames.now)) c.in_ok-list.ensures) ∙ whole_stack c.args.frames.now)
    c.counted.ensures
