use Rattle.dap_messages.proofs.bodies.scope_json.Goals as goal

pub returns : goal.returns
returns c =
    let made = c.object.ensures _ (c.with_long.ensures _ (c.with_word-made.ensures _
    (c.with_flag-made.ensures _ c.no_members.ensures))) in
    made
