use Rattle.asking_core.proofs.CounterLaws.{counters_fit}
use Rattle.asking_core.proofs.example.counters_that_go_round_fit.Goals as goal

pub returns : goal.returns
returns c = counters_fit
