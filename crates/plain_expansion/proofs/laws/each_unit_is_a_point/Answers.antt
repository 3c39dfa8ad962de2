use Rattle.plain_expansion.proofs.Counting.{each_unit_is_a_point}
use Rattle.plain_expansion.proofs.laws.each_unit_is_a_point.Goals as goal

pub returns : goal.returns
returns g c = each_unit_is_a_point g.L.MacroLanguage.language g.W.World.model
