use Rattle.std.proofs.Common.{◌∙◌, sym, arith}
use Rattle.running_calls.specs.Calls.{held}
use Rattle.program_occurrences.proofs.CallLaws.{labelled-lower}
use Rattle.program_occurrences.proofs.label.labelled_call.Goals as goal

pub loop-level-preserved : goal.loop-level-preserved
loop-level-preserved c =
    labelled-lower c.args.texts.now c.args.name.now (held c.args.calls.now) c.loop-level.level (omega arith) (sym c.is_call_labelled.ensures ∙ c.if-is_call_labelled.false)
    ∙ c.loop-level.invariant
