use Rattle.std.proofs.Common.{length, refl}
use Rattle.std.specs.Prelude.{fold, map}
use Rattle.macro_library.specs.Contents.{written, written_number}
use Rattle.macro_library.specs.Later.{copies_later}
use Rattle.macro_library.specs.Variables.{variables_of}
use Rattle.macro_library.proofs.VariableLaws.{split-first, variables_from-step}
use Rattle.macro_library.proofs.SurveyLaws.{copies_from-step, number-step}
use Rattle.macro_library.proofs.survey.survey_of.Goals as goal

pub loop-left-preserved : goal.loop-left-preserved
loop-left-preserved c =
    let whole = c.args.lines.now in
    let left = c.loop-left.left.now in
    let line = c.line-item.result in
    let split = split-first left line (length left) c.in-len1-up.len_at_least c.line-item.is refl in (
      variables_from-step (variables_of whole) c.loop-left.variables c.named_within.result c.joined-variables.result c.loop-left.begun c.in_ok-begun.begun
          line left _ split c.loop-left.invariant.0 c.named_within.ensures c.in_ok-begun.ensures c.joined-variables.ensures,
      copies_from-step (copies_later whole) c.loop-left.copies_later c.may_copy_by-copies_later.result c.loop-left.begun c.in_ok-begun.begun
          line left _ split c.loop-left.invariant.1 c.may_copy_by-copies_later.ensures c.in_ok-begun.ensures,
      number-step (fold written_number c.args.start (map written whole)) c.loop-left.number c.line_number-number.result
          line left _ split c.loop-left.invariant.2 c.line_number-number.ensures,
    )
