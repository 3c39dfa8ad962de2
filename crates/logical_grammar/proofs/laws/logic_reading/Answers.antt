use Rattle.expression_grammar.proofs.ReadLaws.{read-tree, read-fault}
use Rattle.logical_grammar.specs.LogicReadings.{read_logic}
use Rattle.logical_grammar.specs.Logics.{SpellsLogic}
use Rattle.logical_grammar.proofs.LogicFinds.{one_logic-tree, read_logic-finds}
use Rattle.logical_grammar.proofs.laws.logic_reading.Goals as goal

pub returns-clause-tree : goal.returns-clause-tree
returns-clause-tree c = λ text tree. read-tree SpellsLogic text (read_logic text) (read_logic-finds text) one_logic-tree tree

pub returns-clause-fault : goal.returns-clause-fault
returns-clause-fault c = λ text count. read-fault SpellsLogic text (read_logic text) (read_logic-finds text) count
