use Rattle.dap_messages.proofs.outgoing.told_alone.Goals as goal

pub returns : goal.returns
returns c =
    let made = c.object.ensures _ (c.with_word.ensures _ (c.with_long-made.ensures _
    (c.with_text-made.ensures _ c.no_members.ensures))) in
    made
