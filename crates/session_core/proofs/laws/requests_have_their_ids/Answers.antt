use Rattle.session_core.proofs.AnswerLaws.{ids_start, ids_message, ids_turn}
use Rattle.session_core.proofs.laws.requests_have_their_ids.Goals as goal

pub returns-clause-at_first : goal.returns-clause-at_first
returns-clause-at_first c = ids_start

pub returns-clause-message : goal.returns-clause-message
returns-clause-message c = ids_message

pub returns-clause-turn : goal.returns-clause-turn
returns-clause-turn c = ids_turn
