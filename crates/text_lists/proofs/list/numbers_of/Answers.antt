use Rattle.std.proofs.Common.{◌∙◌, ap, arith}
use Rattle.std.specs.Map.{lookup}
use Rattle.hl_base.specs.declared.place.Origin.{Origin}
use Rattle.text_lists.specs.Numbers.{is_line, noted}
use Rattle.text_lists.proofs.NumberLaws.{index_next}
use Rattle.text_lists.proofs.list.numbers_of.Goals as goal

pub loop-number-preserved : goal.loop-number-preserved
loop-number-preserved c =
    let i = c.loop-number.number in
    let old = c.loop-number.found.entries in
    index_next c.args.lines.now i c.index-lines-number.result old c.note.new.numbers.entries (omega arith) c.index-lines-number.is c.loop-number.invariant
    (λ line. c.in_ok-note.ensures line ∙ ap (λ (o : Origin). noted (lookup (is_line line) old) line o.line i) c.origin.ensures)
