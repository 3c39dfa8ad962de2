use Rattle.std.proofs.Common.{◌≡◌, map, take}
use Rattle.session_core.specs.Step.{written}
use Rattle.session_core.proofs.bodies.Bodies.framed.Given as goal

-- the bodies so far were framed
abbrev pub invariant-loop-body : goal.invariant-loop-body
invariant-loop-body l = l.bytes.items ≡ written (map (λ body. body.items) (take l.body-index l.body-items))
