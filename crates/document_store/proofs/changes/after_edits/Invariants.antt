use Rattle.std.proofs.Common.{◌≡◌, ◌+◌, ◌≤◌, drop, length}
use Rattle.std.specs.Prelude.{chars}
use Rattle.text_pool.specs.declared.pool.TheConstants.{LONGEST_TEXT}
use Rattle.document_store.specs.Edits.{after_edits}
use Rattle.document_store.specs.Parts.{text_in, IsBeforeLine}
use Rattle.document_store.proofs.changes.after_edits.Given as goal

-- the changes that are left, to the text so far, come to what all of them do
abbrev pub invariant-loop-index : goal.invariant-loop-index
invariant-loop-index l =
    (after_edits l.edits 0 (chars l.text) ≡ after_edits (drop l.index l.edits) l.index (text_in l.changed))
    × IsBeforeLine l.line l.changed
    × (length l.changed.front + length l.changed.back ≤ LONGEST_TEXT)
