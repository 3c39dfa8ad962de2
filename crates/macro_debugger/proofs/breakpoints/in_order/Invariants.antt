use Rattle.std.proofs.Common.{◌≡◌, take}
use Rattle.macro_debugger.specs.Stops.{in_order}
use Rattle.macro_debugger.proofs.breakpoints.in_order.Given as goal

-- the lines so far, in order
abbrev pub invariant-loop-line : goal.invariant-loop-line
invariant-loop-line l = l.set.keys ≡ in_order (take l.line-index l.lines)
