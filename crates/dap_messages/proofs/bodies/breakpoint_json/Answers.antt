use Rattle.dap_messages.proofs.bodies.breakpoint_json.Goals as goal

pub returns : goal.returns
returns c =
    let made = c.object.ensures _ (c.with_flag.ensures _ (c.with_number-made.ensures _ c.no_members.ensures)) in
    made
