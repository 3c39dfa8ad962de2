use Rattle.statement_reading.proofs.BranchLaws.{number-chosen, condition-chosen}
use Rattle.statement_reading.proofs.laws.choices.Goals as goal

pub returns-clause-number : goal.returns-clause-number
returns-clause-number c = number-chosen

pub returns-clause-condition : goal.returns-clause-condition
returns-clause-condition c = condition-chosen
