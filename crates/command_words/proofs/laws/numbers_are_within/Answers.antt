use Rattle.command_words.proofs.NumberLaws.{budget_is_within, count_is_within}
use Rattle.command_words.proofs.laws.numbers_are_within.Goals as goal

pub returns-clause-budget : goal.returns-clause-budget
returns-clause-budget c = budget_is_within

pub returns-clause-count : goal.returns-clause-count
returns-clause-count c = count_is_within
