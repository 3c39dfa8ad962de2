use Rattle.std.proofs.Common.{◌≡◌, drop}
use Rattle.kept_values.specs.Trees.{look_up}
use Rattle.asking_core.specs.Places.{pairs_of}
use Rattle.plain_expansion.specs.Example.{value_key}
use Rattle.example_language.specs.Values.{question_tree, value_tree}
use Rattle.example_language.proofs.effects.value_told.Given as goal

-- what is left tells what all does
abbrev pub invariant-loop-noted : goal.invariant-loop-noted
invariant-loop-noted l =
    look_up (pairs_of question_tree value_tree (drop l.noted-index l.answers)) value_key
    ≡ look_up (pairs_of question_tree value_tree l.answers) value_key
