use Rattle.lsp_messages.proofs.writing.capabilities_json.Goals as goal

pub returns : goal.returns
returns c =
    let made = c.object.ensures _ (c.with_flag.ensures _ (c.with_flag-made-3.ensures _ (c.with_flag-made-2.ensures _
    (c.with_flag-made.ensures _ (c.with_made-made.ensures _ _
    (c.with_word-made.ensures _ c.no_members.ensures) c.sync_json.ensures))))) in
    made
