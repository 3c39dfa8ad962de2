-- what the programs so far tell
use Rattle.std.proofs.Common.{◌≡◌, take}
use Rattle.std.specs.List.{flat_map}
use Rattle.session_core.specs.Names.{names_at}
use Rattle.session_core.proofs.session_state.SessionState.names_over.Given as goal

abbrev pub invariant-loop-path : goal.invariant-loop-path
invariant-loop-path g l = l.names.items ≡ flat_map (names_at l.self) (take l.path-index l.path-items)
