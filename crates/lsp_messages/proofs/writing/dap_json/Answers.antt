use Rattle.lsp_messages.proofs.writing.dap_json.Goals as goal

pub returns : goal.returns
returns c =
    let made = c.object.ensures _ (c.with_number.ensures _ (c.with_copy-made.ensures _ c.no_members.ensures)) in
    made
