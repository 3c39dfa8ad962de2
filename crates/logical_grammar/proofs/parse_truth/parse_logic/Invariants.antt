use Rattle.std.proofs.Common.{◌≡◌, [], length, take}
use Rattle.std.specs.Str.{chars}
use Rattle.expression_grammar.specs.Spelling.{most_parts}
use Rattle.logical_grammar.specs.LogicReading.{LogicReaches, at_point, logic_weight}
use Rattle.logical_grammar.specs.LogicViews.{open_of, point_of}
use Rattle.logical_grammar.proofs.parse_truth.parse_logic.Given as goal

abbrev pub invariant-loop-c : goal.invariant-loop-c
invariant-loop-c l =
    (l.at ≡ length l.yielded)
    × LogicReaches most_parts (take (length l.yielded) (chars l.text)) (at_point (open_of l.progress.stack.items []) (point_of l.progress.point))
    × (l.progress.weight ≡ logic_weight (at_point (open_of l.progress.stack.items []) (point_of l.progress.point)))
