use Rattle.std.proofs.Common.{◌≡◌, take}
use Rattle.session_core.proofs.symbols.lent.Given as goal

-- those so far are lent
abbrev pub invariant-loop-one : goal.invariant-loop-one
invariant-loop-one l = l.programs.items ≡ take l.one-index l.names
