use Rattle.dap_messages.proofs.bodies.frame_json.Goals as goal

pub returns : goal.returns
returns c =
    let made = c.object.ensures _ (c.with_made.ensures _ _ (c.with_text-made.ensures _ (c.with_number-made-2.ensures _
    (c.with_count-made.ensures _ (c.with_number-made.ensures _ c.no_members.ensures)))) c.source_json.ensures) in
    made
