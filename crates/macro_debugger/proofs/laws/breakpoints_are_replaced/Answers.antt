use Rattle.macro_debugger.proofs.BreakLemmas.{breakpoints_are_replaced}
use Rattle.macro_debugger.proofs.laws.breakpoints_are_replaced.Goals as goal

pub returns : goal.returns
returns c = breakpoints_are_replaced
