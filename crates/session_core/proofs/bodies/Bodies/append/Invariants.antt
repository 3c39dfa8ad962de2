use Rattle.std.proofs.Common.{◌≡◌, ◌++◌}
use Rattle.session_core.proofs.bodies.Bodies.append.Given as goal

-- the bodies so far were added
abbrev pub invariant-loop-body : goal.invariant-loop-body
invariant-loop-body l = l.self-inside.bodies.items ≡ l.initial.self-inside.bodies.items ++ l.yielded
