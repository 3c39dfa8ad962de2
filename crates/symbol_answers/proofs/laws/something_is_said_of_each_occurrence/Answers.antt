use Rattle.symbol_answers.proofs.ReferenceLaws.{nothing_is_said}
use Rattle.symbol_answers.proofs.laws.something_is_said_of_each_occurrence.Goals as goal

pub returns : goal.returns
returns c = nothing_is_said
