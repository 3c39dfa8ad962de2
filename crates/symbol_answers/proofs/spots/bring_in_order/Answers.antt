use Rattle.symbol_answers.specs.Seen.{seen}
use Rattle.symbol_answers.proofs.OrderLaws.{in_order-sorted}
use Rattle.std.proofs.Common.{sym}
use Rattle.symbol_answers.proofs.spots.bring_in_order.Goals as goal

pub returns : goal.returns
returns c = sym (in_order-sorted seen _ _ c.sort_unstable.ensures.permutation c.sort_unstable.ensures.sorted)
