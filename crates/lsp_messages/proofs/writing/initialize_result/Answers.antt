use Rattle.lsp_messages.proofs.writing.initialize_result.Goals as goal

pub returns : goal.returns
returns c =
    let made = c.object.ensures _ (c.with_made.ensures _ _
    (c.with_made-made.ensures _ _ c.no_members.ensures c.capabilities_json-capabilities.ensures) c.server_json.ensures) in
    made
