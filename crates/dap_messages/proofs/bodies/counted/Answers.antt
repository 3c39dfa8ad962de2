use Rattle.dap_messages.proofs.bodies.counted.Goals as goal

pub returns : goal.returns
returns c =
    let made = c.object.ensures _ (c.with_count.ensures _ (c.with_value-made.ensures _ c.no_members.ensures)) in
    made
