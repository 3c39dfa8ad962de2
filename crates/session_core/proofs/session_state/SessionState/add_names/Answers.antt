use Rattle.session_core.proofs.TextLaws.{number_within}
use Rattle.session_core.proofs.session_state.SessionState.add_names.Goals as goal

pub names_of-requires-clause-given : goal.names_of-requires-clause-given
names_of-requires-clause-given g c = number_within c.self.inside.store.store c.args.path c.in-Some.document c.in-Some.ensures
