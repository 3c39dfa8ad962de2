use Rattle.std.proofs.Common.{ap}
use Rattle.std.proofs.lemmas.Result.{IfOk-weaker}
use Rattle.serde_json.specs.Written.{has_float}
use Rattle.dap_messages.proofs.bodies.continued_body.Goals as goal

pub returns-clause-body : goal.returns-clause-body
returns-clause-body c =
    let made = c.object.ensures _ (c.with_flag.ensures _ c.no_members.ensures) in
    made

pub returns-clause-whole : goal.returns-clause-whole
returns-clause-whole c =
    let made = c.object.ensures _ (c.with_flag.ensures _ c.no_members.ensures) in
    IfOk-weaker c.object.result _ _ (λ v exact. ap has_float exact) made
