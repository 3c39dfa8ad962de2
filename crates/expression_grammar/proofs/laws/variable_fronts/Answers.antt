use Rattle.expression_grammar.specs.declared.character.Grammar.TheVariants.{Arithmetic}
use Rattle.expression_grammar.specs.Fronts.{IsVariableClosed}
use Rattle.expression_grammar.specs.Readings.{read_variable}
use Rattle.expression_grammar.specs.Spelling.{Spells}
use Rattle.expression_grammar.proofs.Finds.{one-tree}
use Rattle.expression_grammar.proofs.FrontLaws.{read_variable-finds}
use Rattle.expression_grammar.proofs.ReadLaws.{front-tree, front-fault, one-variable}
use Rattle.expression_grammar.proofs.laws.variable_fronts.Goals as goal

pub returns-clause-front : goal.returns-clause-front
returns-clause-front c = λ text front. front-tree (Spells Arithmetic) (IsVariableClosed text) text (read_variable text) (read_variable-finds text) (one-variable text (one-tree Arithmetic)) front

pub returns-clause-fault : goal.returns-clause-fault
returns-clause-fault c = λ text count. front-fault (Spells Arithmetic) (IsVariableClosed text) text (read_variable text) (read_variable-finds text) count
