use Rattle.std.proofs.Common.{◌≡◌, ◌≤◌, [], length, drop}
use Rattle.std.specs.Str.{chars}
use Rattle.expression_grammar.specs.Reading.{advance, accept, weight}
use Rattle.expression_grammar.specs.Readings.{read_front, front_by}
use Rattle.expression_grammar.specs.Spelling.{most_parts}
use Rattle.expression_grammar.specs.Stacks.{stack_of, stand}
use Rattle.expression_grammar.proofs.front.find_front.Given as goal

-- what is left to read is read from where it stands
abbrev pub invariant-loop-c : goal.invariant-loop-c
invariant-loop-c l =
    (l.at ≡ length l.yielded)
    × (l.progress.weight ≡ weight (stand l.progress.point (stack_of l.progress.stack.items [])))
    × (l.progress.weight ≤ most_parts)
    × (read_front l.grammar (chars l.text) ≡ front_by (advance l.grammar most_parts) (accept l.grammar) (stand l.progress.point (stack_of l.progress.stack.items [])) (length l.yielded) (drop (length l.yielded) (chars l.text)))
