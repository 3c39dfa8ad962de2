use Rattle.std.proofs.Common.{arith}
use Rattle.text_sites.proofs.WidthLaws.{width-small}
use Rattle.text_sites.proofs.site.width_before.Goals as goal

pub overflow_cast-result : goal.overflow_cast-result
overflow_cast-result c =
    let small = width-small _ _ _ (omega (arith, c.min-before.ensures)) c.split_columns.ensures.front in
    omega (arith, small, c.units.ensures)
