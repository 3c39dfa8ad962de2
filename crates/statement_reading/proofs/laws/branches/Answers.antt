use Rattle.statement_reading.proofs.BranchLaws.{says_goto, says_pair}
use Rattle.statement_reading.proofs.laws.branches.Goals as goal

pub returns-clause-goto : goal.returns-clause-goto
returns-clause-goto c = says_goto

pub returns-clause-pair : goal.returns-clause-pair
returns-clause-pair c = says_pair
