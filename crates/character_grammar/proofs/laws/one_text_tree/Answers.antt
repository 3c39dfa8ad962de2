use Rattle.character_grammar.proofs.TextFinds.{one_text-tree}
use Rattle.character_grammar.proofs.laws.one_text_tree.Goals as goal

pub returns : goal.returns
returns c = one_text-tree
