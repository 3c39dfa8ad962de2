use Rattle.std.proofs.Common.{sym, subst}
use Rattle.std.specs.Prelude.{option_map}
use Rattle.logical_grammar.specs.declared.logic_point.LogicPoint.{LogicPoint}
use Rattle.logical_grammar.specs.declared.logic_point.LogicPoint.TheVariants as point
use Rattle.logical_grammar.specs.LogicViews.{LogicTakes, point_of, relation_of}
use Rattle.logical_grammar.proofs.parse_truth.take_in_place.Goals as goal

pub returns-in_ok-taken-in-Text : goal.returns-in_ok-taken-in-Text
returns-in_ok-taken-in-Text c =
    subst (λ (q : LogicPoint). LogicTakes (point_of q) c.args.c (point_of (point.Text c.in-Text.field-0 c.take_in_text.new.inner c.take_in_text.new.touch)) c.in_ok-taken-in-Text.taken) (sym c.in-Text.is)
    (c.in_ok-taken-in-Text.ensures (option_map relation_of c.in-Text.field-0))
