use Rattle.cond_expr.proofs.AskingValues.{number-asks, text-asks, numbers-asks}
use Rattle.cond_expr.proofs.laws.values_are_asked.Goals as goal

pub returns : goal.returns
returns c = record { number = λ tree frame. number-asks frame tree; text = λ tree frame. text-asks frame tree; numbers = λ trees frame. numbers-asks frame trees }
