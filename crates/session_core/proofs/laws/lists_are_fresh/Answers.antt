use Rattle.session_core.proofs.FreshLaws.{fresh_start, fresh_message, fresh_turn}
use Rattle.session_core.proofs.laws.lists_are_fresh.Goals as goal

pub returns-clause-at_first : goal.returns-clause-at_first
returns-clause-at_first c = fresh_start

pub returns-clause-message : goal.returns-clause-message
returns-clause-message c = fresh_message

pub returns-clause-turn : goal.returns-clause-turn
returns-clause-turn c = fresh_turn
