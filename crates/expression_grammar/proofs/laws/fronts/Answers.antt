use Rattle.expression_grammar.specs.Fronts.{IsClosed}
use Rattle.expression_grammar.specs.Readings.{read_front}
use Rattle.expression_grammar.specs.Spelling.{Spells}
use Rattle.expression_grammar.proofs.Finds.{one-tree}
use Rattle.expression_grammar.proofs.FrontLaws.{read_front-finds}
use Rattle.expression_grammar.proofs.ReadLaws.{front-tree, front-fault, one-closed}
use Rattle.expression_grammar.proofs.laws.fronts.Goals as goal

pub returns-clause-front : goal.returns-clause-front
returns-clause-front c = λ g text front. front-tree (Spells g) (IsClosed (Spells g) text) text (read_front g text) (read_front-finds g text) (one-closed (Spells g) text (one-tree g)) front

pub returns-clause-fault : goal.returns-clause-fault
returns-clause-fault c = λ g text count. front-fault (Spells g) (IsClosed (Spells g) text) text (read_front g text) (read_front-finds g text) count
