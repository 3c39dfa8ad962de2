use Rattle.dap_messages.proofs.bodies.source_json.Goals as goal

pub returns : goal.returns
returns c =
    let made = c.object.ensures _ (c.with_text.ensures _ c.no_members.ensures) in
    made
