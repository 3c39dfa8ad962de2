use Rattle.std.proofs.Common.{◌≡◌, map}
use Rattle.waiting_requests.specs.Bodies.{replies_to}
use Rattle.waiting_requests.proofs.waiting.replies.Given as goal

-- the bodies so far are the replies to the requests so far
abbrev pub invariant-loop-request : goal.invariant-loop-request
invariant-loop-request l = map (λ body. body.items) l.bodies.items ≡ replies_to l.store.store l.programs l.yielded
