use Rattle.expression_grammar.specs.Fronts.{IsClosed}
use Rattle.expression_grammar.proofs.ReadLaws.{front-tree, front-fault, one-closed}
use Rattle.logical_grammar.specs.LogicReadings.{read_logic_front}
use Rattle.logical_grammar.specs.Logics.{SpellsLogic}
use Rattle.logical_grammar.proofs.LogicFinds.{one_logic-tree, read_logic_front-finds}
use Rattle.logical_grammar.proofs.laws.logic_fronts.Goals as goal

pub returns-clause-front : goal.returns-clause-front
returns-clause-front c =
    λ text front. front-tree SpellsLogic (IsClosed SpellsLogic text) text (read_logic_front text) (read_logic_front-finds text) (one-closed SpellsLogic text one_logic-tree) front

pub returns-clause-fault : goal.returns-clause-fault
returns-clause-fault c = λ text count. front-fault SpellsLogic (IsClosed SpellsLogic text) text (read_logic_front text) (read_logic_front-finds text) count
