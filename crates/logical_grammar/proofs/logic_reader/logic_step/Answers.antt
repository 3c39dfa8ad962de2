use Rattle.std.proofs.Common.{ℕ, ◌+◌, List, [], subst}
use Rattle.expression_grammar.specs.Trees.{size}
use Rattle.expression_grammar.specs.Views.{tree_of}
use Rattle.logical_grammar.specs.LogicReading.{Open, logic_step, after_letters, after_comparing, comparison_of, open_size}
use Rattle.logical_grammar.specs.LogicViews.{LogicMoves, letter_of, letters_of, open_of}
use Rattle.logical_grammar.proofs.logic_reader.logic_step.Goals as goal

pub returns-in-Letters : goal.returns-in-Letters
unfolding logic_step
returns-in-Letters c =
    let old : List Open = open_of c.args.layers.now.items [] in
    rw c.in-Letters.is
    (subst (λ (letter : ℕ). LogicMoves (after_letters (letters_of c.in-Letters.rest) letter old) (open_size old + 1) c.after_letters.result old) c.to_ascii_uppercase.ensures.value (c.after_letters.ensures old))

pub returns-in-Comparing : goal.returns-in-Comparing
unfolding logic_step
returns-in-Comparing c =
    let old : List Open = open_of c.args.layers.now.items [] in
    rw c.in-Comparing.is
    (subst (λ (letter : ℕ). LogicMoves (after_comparing (comparison_of (letter_of c.in-Comparing.first) letter) c.in-Comparing.is_text (tree_of c.in-Comparing.left) old)
    (open_size old + (size (tree_of c.in-Comparing.left) + 2)) c.after_comparing.result old) c.to_ascii_uppercase-in-Comparing.ensures.value (c.after_comparing.ensures old))

pub returns-in_ok-moved-in-Right : goal.returns-in_ok-moved-in-Right
unfolding logic_step
returns-in_ok-moved-in-Right c = rw c.in-Right.is (c.in_ok-moved-in-Right.ensures (open_of c.args.layers.now.items []))
