use Rattle.character_grammar.specs.TextReadings.{read_text}
use Rattle.statement_reading.specs.Messages.{severity}
use Rattle.operand_laws.specs.Fields.{IsMessage, IsSeverity}
use Rattle.operand_laws.proofs.Longest.{reads-wrong}
use Rattle.operand_laws.proofs.Messages.{reads-message, reads-severity}
use Rattle.operand_laws.proofs.wrong_messages.Goals as goal

pub returns-clause-severity : goal.returns-clause-severity
returns-clause-severity c = λ text count. reads-wrong IsSeverity text count (severity text) (reads-severity text)

pub returns-clause-message : goal.returns-clause-message
returns-clause-message c = λ text count. reads-wrong IsMessage text count (read_text text) (reads-message text)
