use Rattle.program_occurrences.proofs.PushLaws.{label-has-place, label-pushed}
use Rattle.program_occurrences.proofs.label.push_label.Goals as goal

pub occurrence_of-requires : goal.occurrence_of-requires
occurrence_of-requires c = label-has-place c.args.statement.now c.args.name.now c.in_ok-label.label c.requires c.in_ok-label.ensures c.if-label-eq0.false

pub returns : goal.returns
returns c =
    label-pushed c.args.path c.args.statement.now c.args.name.now c.in_ok-label.label c.copy.result c.occurrence_of.result c.args.kept.now c.push.new.self c.in_ok-label.ensures
    c.if-label-eq0.false c.copy.ensures c.occurrence_of.ensures c.in_ok-push.ensures.ok
