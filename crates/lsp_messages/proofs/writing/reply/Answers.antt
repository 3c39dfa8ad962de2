use Rattle.lsp_messages.proofs.writing.reply.Goals as goal

pub returns : goal.returns
returns c =
    let made = c.object.ensures _ (c.with_copy.ensures _ (c.with_word-made.ensures _
    (c.with_made-made.ensures _ _ c.no_members.ensures c.id_json.ensures))) in
    made
