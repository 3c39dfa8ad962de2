use Rattle.std.proofs.Common.{length, map}
use Rattle.std.specs.Cmp.{then_total, on_total, nat_cmp_total}
use Rattle.std.specs.Cmp.Lexicographic.{nat_list_cmp_total}
use Rattle.hl_base.specs.Order as codes
use Rattle.hl_base.proofs.order.texts_are_ordered.Goals as goal

-- lengths are ordered, and so are the texts of one length by their bytes
pub returns : goal.returns
unfolding codes.compare_bytes
returns c = then_total (on_total length nat_cmp_total) (on_total (map codes.ebcdic) nat_list_cmp_total)
