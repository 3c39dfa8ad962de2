use Rattle.std.proofs.Common.{ap, ◌∙◌}
use Rattle.std.specs.Prelude.{codes}
use Rattle.std.proofs.lemmas.Result.{IfOk-weaker}
use Rattle.serde_json.specs.Data.{object, member, no_members}
use Rattle.serde_json.specs.Written.{has_float}
use Rattle.dap_messages.proofs.WrittenLaws.{whole_breakpoints}
use Rattle.dap_messages.proofs.bodies.breakpoints_body.Goals as goal

pub returns-clause-whole : goal.returns-clause-whole
returns-clause-whole c =
    IfOk-weaker c.named.result _ _
    (λ v exact. ap has_float (exact ∙ ap (λ list. object (member (codes "breakpoints") list no_members)) c.in_ok-list.ensures) ∙ whole_breakpoints c.args.lines.now)
    c.named.ensures
