use Rattle.std.proofs.Common.{◌∙◌, ap}
use Rattle.conditional_asm.specs.Repeating.{once}
use Rattle.conditional_asm.proofs.RepeatingLaws.{next, none_yet, all_told}
use Rattle.conditional_asm.proofs.repeating.once.Goals as goal

pub loop-note-init : goal.loop-note-init
loop-note-init c = none_yet c.new-left.result c.as_slice-note-items.result.now c.new-left.ensures

pub loop-note-preserved : goal.loop-note-preserved
loop-note-preserved c =
    let notes = c.as_slice-note-items.result.now in
    next c.loop-note.left c.keep.new.left notes (once notes) c.loop-note.note-index c.note-item.result c.loop-note-test.true c.note-item.is c.in_ok-keep.ensures c.loop-note.invariant

pub returns : goal.returns
returns c =
    let notes = c.as_slice-note-items.result.now in
    all_told c.loop-note.left notes (once notes) c.loop-note.note-index c.loop-note-test.false c.loop-note.invariant
    ∙ ap once c.as_slice-note-items.ensures
