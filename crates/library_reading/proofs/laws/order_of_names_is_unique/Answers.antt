use Rattle.library_reading.proofs.OrderLaws.{only_order}
use Rattle.library_reading.proofs.laws.order_of_names_is_unique.Goals as goal

pub returns : goal.returns
returns c = only_order
