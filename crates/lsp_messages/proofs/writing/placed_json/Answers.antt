use Rattle.lsp_messages.proofs.writing.placed_json.Goals as goal

pub returns : goal.returns
returns c =
    let made = c.object.ensures _ (c.with_word.ensures _ (c.with_made-made-2.ensures _ _ (c.with_made-made.ensures _ _
    (c.with_text-made-2.ensures _ (c.with_text-made.ensures _
    (c.with_value-made.ensures _ c.no_members.ensures))) c.span_json.ensures) c.from-severity.ensures)) in
    made
