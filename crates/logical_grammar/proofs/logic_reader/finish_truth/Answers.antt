use Rattle.std.proofs.Common.{◌≡◌, [], length, sym, ap, arith, ◌<◌}
use Rattle.std.proofs.lemmas.Bool.Decides.{nat_tests}
use Rattle.expression_grammar.specs.Views.{tree_of}
use Rattle.logical_grammar.specs.LogicReading.{logic_fold}
use Rattle.logical_grammar.specs.LogicViews.{open_of}
use Rattle.logical_grammar.proofs.LogicMoveLaws.{open_truth}
use Rattle.logical_grammar.proofs.logic_reader.finish_truth.Goals as goal

pub returns : goal.returns
returns c =
    let some : 0 < length c.logic_fold.new.stack.items = grind (arith, nat_tests) in
    sym (open_truth (tree_of c.in_ok-whole.whole) c.logic_fold.new.stack.items (logic_fold 0 (tree_of c.args.tree) (open_of c.args.layers.items [])) c.in_ok-whole.ensures
    (λ e. let none : length c.logic_fold.new.stack.items ≡ 0 = ap length e in absurd (omega arith)))
