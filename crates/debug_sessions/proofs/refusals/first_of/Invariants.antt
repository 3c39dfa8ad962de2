use Rattle.std.proofs.Common.{◌≡◌, drop}
use Rattle.debug_sessions.specs.Refusals.{first_of}
use Rattle.debug_sessions.proofs.refusals.first_of.Given as goal

-- no reason so far holds
abbrev pub invariant-loop-reason : goal.invariant-loop-reason
invariant-loop-reason l = first_of (drop l.reason-index l.reasons) ≡ first_of l.reasons
