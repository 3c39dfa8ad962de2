use Rattle.symbol_answers.proofs.OrderLaws.{only_order}
use Rattle.symbol_answers.proofs.laws.order_of_spots_is_unique.Goals as goal

pub returns : goal.returns
returns c = only_order
