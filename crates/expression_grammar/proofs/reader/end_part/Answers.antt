use Rattle.std.proofs.Common.{[]}
use Rattle.expression_grammar.specs.Stacks.{stack_of}
use Rattle.expression_grammar.specs.Views.{tree_of}
use Rattle.expression_grammar.proofs.MoveLaws.{end_moves}
use Rattle.expression_grammar.proofs.reader.end_part.Goals as goal

pub returns-in_ok-moved-in-Some : goal.returns-in_ok-moved-in-Some
returns-in_ok-moved-in-Some c =
    end_moves c.args.grammar c.args.part c.args.kind (tree_of c.in-Some.tree) (stack_of c.args.stack.now.items []) c.in_ok-moved-in-Some.moved (stack_of c.go_behind.new.stack.items [])
    c.in-Some.ensures c.in_ok-moved-in-Some.ensures
