use Rattle.std.proofs.Common.{◌≡◌, [], length, sym, ap, arith, ◌<◌}
use Rattle.std.proofs.lemmas.Bool.Decides.{nat_tests}
use Rattle.expression_grammar.specs.Reading.{fold}
use Rattle.expression_grammar.specs.Stacks.{stack_of}
use Rattle.expression_grammar.specs.Views.{tree_of}
use Rattle.expression_grammar.proofs.MoveLaws.{open_whole}
use Rattle.expression_grammar.proofs.reader.finish_tree.Goals as goal

pub returns-else-is_empty : goal.returns-else-is_empty
returns-else-is_empty c =
    let some : 0 < length c.fold.new.stack.items = grind (arith, nat_tests) in
    sym (open_whole (tree_of c.in_ok-whole.whole) c.fold.new.stack.items (fold 0 (tree_of c.args.tree) (stack_of c.args.stack.now.items [])) c.in_ok-whole.ensures
    (λ e. let none : length c.fold.new.stack.items ≡ 0 = ap length e in absurd (omega arith)))
