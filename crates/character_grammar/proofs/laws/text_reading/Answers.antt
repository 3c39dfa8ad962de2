use Rattle.character_grammar.specs.TextReadings.{read_text}
use Rattle.character_grammar.specs.Texts.{SpellsText}
use Rattle.character_grammar.proofs.TextFinds.{one_text-tree, read_text-finds}
use Rattle.expression_grammar.proofs.ReadLaws.{read-tree, read-fault}
use Rattle.character_grammar.proofs.laws.text_reading.Goals as goal

pub returns-clause-tree : goal.returns-clause-tree
returns-clause-tree c = λ text tree. read-tree SpellsText text (read_text text) (read_text-finds text) one_text-tree tree

pub returns-clause-fault : goal.returns-clause-fault
returns-clause-fault c = λ text count. read-fault SpellsText text (read_text text) (read_text-finds text) count
