use Rattle.io_edge.proofs.ToldLaws.{Gives-append, Gains-append, same_of_Gives-nil, same_of_Gains-nil, HasRisen-widen}
use Rattle.io_edge.proofs.laws.calls_join.Goals as goal

pub returns-clause-gives : goal.returns-clause-gives
returns-clause-gives c = Gives-append

pub returns-clause-gains : goal.returns-clause-gains
returns-clause-gains c = Gains-append

pub returns-clause-empty : goal.returns-clause-empty
returns-clause-empty c = λ before now. (same_of_Gives-nil before now, same_of_Gains-nil before now)

pub returns-clause-rises : goal.returns-clause-rises
returns-clause-rises c = HasRisen-widen
