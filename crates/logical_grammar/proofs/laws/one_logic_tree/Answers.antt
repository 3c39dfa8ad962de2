use Rattle.logical_grammar.proofs.LogicFinds.{one_logic-tree}
use Rattle.logical_grammar.proofs.laws.one_logic_tree.Goals as goal

pub returns : goal.returns
returns c = one_logic-tree
