use Rattle.lsp_messages.proofs.writing.notification.Goals as goal

pub returns : goal.returns
returns c =
    let made = c.object.ensures _ (c.with_value.ensures _ (c.with_word-made-2.ensures _
    (c.with_word-made.ensures _ c.no_members.ensures))) in
    made
