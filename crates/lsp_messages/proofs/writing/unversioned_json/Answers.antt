use Rattle.lsp_messages.proofs.writing.unversioned_json.Goals as goal

pub returns : goal.returns
returns c =
    let made = c.object.ensures _ (c.with_text.ensures _
    (c.with_made-made.ensures _ _ c.no_members.ensures c.diagnostics_json-list.ensures)) in
    made
