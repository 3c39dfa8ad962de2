use Rattle.cond_expr.specs.Frames.{told_by}
use Rattle.cond_expr.proofs.AskingLaws.{more_changes_nothing, restarts_end}
use Rattle.macro_operands.specs.Calling.{call_of}
use Rattle.macro_operands.proofs.AskingCalls.{call-asks}
use Rattle.macro_operands.proofs.laws.calls_stay.Goals as goal

pub returns : goal.returns
returns c = record {
  stays = λ label operands frame. more_changes_nothing (λ answers. call_of label operands (told_by frame answers)) (call-asks frame label operands);
  ends = λ label operands frame answers. restarts_end (λ some. call_of label operands (told_by frame some)) answers (call-asks frame label operands);
}
