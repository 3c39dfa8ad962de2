use Rattle.std.proofs.Common.{◌≡◌, ℕ, [], ap, ◌∙◌, subst}
use Rattle.expression_grammar.specs.Reading.{fold, Folded}
use Rattle.expression_grammar.specs.Stacks.{stack_of}
use Rattle.expression_grammar.specs.Views.{tree_of}
use Rattle.expression_grammar.proofs.MoveLaws.{mark_moves, close_moves, comma_moves}
use Rattle.expression_grammar.proofs.StackLaws.{stack_of_push}
use Rattle.expression_grammar.proofs.reader.go_behind.Goals as goal

pub returns-in_ok-push-in-Mark : goal.returns-in_ok-push-in-Mark
returns-in_ok-push-in-Mark c =
    let folded : Folded = record { tree = tree_of c.in_ok-left-in-Mark.left; layers = stack_of c.fold.new.stack.items [] } in
    let e : fold c.strength.result (tree_of c.args.tree) (stack_of c.args.stack.now.items []) ≡ folded = c.in_ok-left-in-Mark.ensures in
    rw c.in-Mark.is
    (mark_moves c.in-Mark.operator (tree_of c.args.tree) (tree_of c.in_ok-left-in-Mark.left) (stack_of c.args.stack.now.items []) (stack_of c.fold.new.stack.items []) (stack_of c.push.new.self.items [])
    (subst (λ (n : ℕ). fold n (tree_of c.args.tree) (stack_of c.args.stack.now.items []) ≡ folded) c.strength.ensures e)
    (ap (λ xs. stack_of xs []) c.in_ok-push-in-Mark.ensures.items ∙ stack_of_push c.fold.new.stack.items _ []))

pub returns-in_ok-moved-in-Close : goal.returns-in_ok-moved-in-Close
returns-in_ok-moved-in-Close c =
    rw c.in-Close.is
    (close_moves (tree_of c.args.tree) (tree_of c.in_ok-inner-in-Close.inner) (stack_of c.args.stack.now.items []) (stack_of c.fold-in-Close.new.stack.items []) c.in_ok-moved-in-Close.moved (stack_of c.close.new.stack.items [])
    c.in_ok-inner-in-Close.ensures c.in_ok-moved-in-Close.ensures)

pub returns-in_ok-moved-in-Comma : goal.returns-in_ok-moved-in-Comma
returns-in_ok-moved-in-Comma c =
    rw c.in-Comma.is
    (comma_moves (tree_of c.args.tree) (tree_of c.in_ok-inner-in-Comma.inner) (stack_of c.args.stack.now.items []) (stack_of c.fold-in-Comma.new.stack.items []) c.in_ok-moved-in-Comma.moved (stack_of c.part_subscripts.new.stack.items [])
    c.in_ok-inner-in-Comma.ensures c.in_ok-moved-in-Comma.ensures)
