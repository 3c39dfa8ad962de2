use Rattle.macro_debugger.proofs.LeastLemmas.{stops_are_the_least}
use Rattle.macro_debugger.proofs.laws.stops_are_the_least.Goals as goal

pub returns : goal.returns
returns c = stops_are_the_least
