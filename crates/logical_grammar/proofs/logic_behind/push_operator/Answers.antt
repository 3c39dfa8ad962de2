use Rattle.std.proofs.Common.{◌≡◌, ℕ, [], ap, ◌∙◌, subst}
use Rattle.expression_grammar.specs.Views.{tree_of}
use Rattle.logical_grammar.specs.LogicReading.{logic_fold, LogicFolded}
use Rattle.logical_grammar.specs.LogicViews.{open_of, letters_of}
use Rattle.logical_grammar.proofs.LogicMoveLaws.{join_moves}
use Rattle.logical_grammar.proofs.LogicStackLaws.{open_of_push}
use Rattle.logical_grammar.proofs.logic_behind.push_operator.Goals as goal

pub returns : goal.returns
returns c =
    let folded : LogicFolded = record { tree = tree_of c.in_ok-left.left; layers = open_of c.logic_fold.new.stack.items [] } in
    let e : logic_fold c.strength.result (tree_of c.args.tree) (open_of c.args.stack.now.items []) ≡ folded = c.in_ok-left.ensures in
    rw c.logic_moved.ensures
    (join_moves c.args.operator (letters_of c.args.rest) (tree_of c.args.tree) (tree_of c.in_ok-left.left) (open_of c.args.stack.now.items []) (open_of c.logic_fold.new.stack.items []) (open_of c.push.new.self.items [])
    (subst (λ (n : ℕ). logic_fold n (tree_of c.args.tree) (open_of c.args.stack.now.items []) ≡ folded) c.strength.ensures e)
    (ap (λ xs. open_of xs []) c.in_ok-push.ensures.items ∙ open_of_push c.logic_fold.new.stack.items _ []))
