use Rattle.std.proofs.Common.{◌≡◌, ◌≤◌, [], length, drop}
use Rattle.std.specs.Str.{chars}
use Rattle.expression_grammar.specs.Readings.{front_by}
use Rattle.expression_grammar.specs.Spelling.{most_parts}
use Rattle.logical_grammar.specs.LogicReading.{at_point, logic_accept, logic_advance, logic_weight}
use Rattle.logical_grammar.specs.LogicReadings.{read_logic_front}
use Rattle.logical_grammar.specs.LogicViews.{open_of, point_of}
use Rattle.logical_grammar.proofs.parse_truth.find_front.Given as goal

-- what is left to read is read from where it stands
abbrev pub invariant-loop-c : goal.invariant-loop-c
invariant-loop-c l =
    (l.at ≡ length l.yielded)
    × (l.progress.weight ≡ logic_weight (at_point (open_of l.progress.stack.items []) (point_of l.progress.point)))
    × (l.progress.weight ≤ most_parts)
    × (read_logic_front (chars l.text)
    ≡ front_by (logic_advance most_parts) logic_accept (at_point (open_of l.progress.stack.items []) (point_of l.progress.point)) (length l.yielded) (drop (length l.yielded) (chars l.text)))
