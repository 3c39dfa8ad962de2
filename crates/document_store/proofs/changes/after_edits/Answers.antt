use Rattle.std.proofs.Common.{◌≡◌, ◌∙◌, ℕ, ◌+◌, ◌≤◌, List, ◌++◌, length, take, drop, sym, ap, subst, arith, take-append-drop, length-append}
use Rattle.std.specs.Prelude.{chars}
use Rattle.hl_base.specs.declared.edit.Edit.{Edit}
use Rattle.text_pool.specs.declared.pool.TheConstants.{LONGEST_TEXT}
use Rattle.document_store.specs.Edits.{after_edits}
use Rattle.document_store.specs.Parts.{Parts, text_in, IsBeforeLine}
use Rattle.document_store.specs.Positions.{whole_lines}
use Rattle.document_store.proofs.changes.after_edits.Goals as goal

-- the text is split before a line of it
begun : (text front back : List ℕ) (at line room : ℕ) (edits : List Edit) (p : Parts) → front ≡ take at text → back ≡ drop at text →
    whole_lines (chars (drop at text)) ≡ drop line (whole_lines (chars text)) → length text ≤ LONGEST_TEXT →
    p ≡ record { front = front; room = room; back = back } →
    (after_edits edits 0 (chars text) ≡ after_edits edits 0 (text_in p)) × IsBeforeLine line p × (length p.front + length p.back ≤ LONGEST_TEXT)
begun text front back at line room edits p is_front is_back begins short is =
    let whole : front ++ back ≡ text = ap (λ xs. xs ++ back) is_front ∙ ap (λ xs. take at text ++ xs) is_back ∙ take-append-drop at text in
    subst
    (λ (q : Parts). (after_edits edits 0 (chars text) ≡ after_edits edits 0 (text_in q)) × IsBeforeLine line q × (length q.front + length q.back ≤ LONGEST_TEXT))
    (sym is) (
      ap (λ xs. after_edits edits 0 (chars xs)) (sym whole),
      ap (λ xs. whole_lines (chars xs)) is_back ∙ begins ∙ ap (λ xs. drop line (whole_lines (chars xs))) (sym whole),
      omega (arith, short, ap length whole, length-append front back),
    )

pub loop-index-init : goal.loop-index-init
loop-index-init c =
    begun c.args.text.now c.split_at.result.0.now c.split_at.result.1.now c.line_start-first.result.at c.line_start-first.result.line _ c.args.edits.now _
    c.split_at.ensures.front c.split_at.ensures.back c.line_start-first.ensures.line c.requires c.in_ok-changed.ensures
