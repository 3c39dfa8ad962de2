use Rattle.dap_messages.proofs.bodies.named.Goals as goal

pub returns : goal.returns
returns c =
    let made = c.object.ensures _ (c.with_value.ensures _ c.no_members.ensures) in
    made
