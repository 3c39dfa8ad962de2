use Rattle.std.proofs.Common.{◌≡◌, [], length, take}
use Rattle.std.specs.Str.{chars}
use Rattle.expression_grammar.specs.Reading.{Reaches, weight}
use Rattle.expression_grammar.specs.Spelling.{most_parts}
use Rattle.expression_grammar.specs.Stacks.{stack_of, stand}
use Rattle.expression_grammar.proofs.parse.parse.Given as goal

abbrev pub invariant-loop-c : goal.invariant-loop-c
invariant-loop-c l =
    (l.at ≡ length l.yielded)
    × Reaches l.grammar most_parts (take (length l.yielded) (chars l.text)) (stand l.progress.point (stack_of l.progress.stack.items []))
    × (l.progress.weight ≡ weight (stand l.progress.point (stack_of l.progress.stack.items [])))
