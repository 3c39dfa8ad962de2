use Rattle.expression_grammar.proofs.Finds.{one-tree}
use Rattle.expression_grammar.proofs.laws.one_tree.Goals as goal

pub returns : goal.returns
returns c = one-tree
