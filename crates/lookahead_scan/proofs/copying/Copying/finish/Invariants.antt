use Rattle.std.proofs.Common.{◌≡◌}
use Rattle.lookahead_scan.specs.Copying.{comes}
use Rattle.lookahead_scan.proofs.copying.Copying.finish.Given as goal

-- in all, the same is met
abbrev pub invariant-loop : goal.invariant-loop
invariant-loop g l = comes (g.P.Present.members l.present) l.copying ≡ comes (g.P.Present.members l.present) l.fn.self
