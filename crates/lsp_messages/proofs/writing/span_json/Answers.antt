use Rattle.lsp_messages.proofs.writing.span_json.Goals as goal

pub returns : goal.returns
returns c =
    let made = c.object.ensures _ (c.with_made.ensures _ _
    (c.with_made-made.ensures _ _ c.no_members.ensures c.position_json-end.ensures) c.position_json-start.ensures) in
    made
