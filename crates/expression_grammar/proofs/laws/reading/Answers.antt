use Rattle.expression_grammar.specs.Readings.{read}
use Rattle.expression_grammar.specs.Spelling.{Spells}
use Rattle.expression_grammar.proofs.Finds.{one-tree}
use Rattle.expression_grammar.proofs.FrontLaws.{read-finds}
use Rattle.expression_grammar.proofs.ReadLaws.{read-tree, read-fault}
use Rattle.expression_grammar.proofs.laws.reading.Goals as goal

pub returns-clause-tree : goal.returns-clause-tree
returns-clause-tree c = λ g text tree. read-tree (Spells g) text (read g text) (read-finds g text) (one-tree g) tree

pub returns-clause-fault : goal.returns-clause-fault
returns-clause-fault c = λ g text count. read-fault (Spells g) text (read g text) (read-finds g text) count
