use Rattle.session_core.proofs.AnswerLaws.{answered_start, answered_message, answered_turn}
use Rattle.session_core.proofs.laws.requests_wait_for_programs.Goals as goal

pub returns-clause-at_first : goal.returns-clause-at_first
returns-clause-at_first c = answered_start

pub returns-clause-message : goal.returns-clause-message
returns-clause-message c = answered_message

pub returns-clause-turn : goal.returns-clause-turn
returns-clause-turn c = answered_turn
