use Rattle.std.proofs.Common.{◌≡◌, map, take}
use Rattle.session_core.specs.Replies.{logged_line}
use Rattle.session_core.proofs.watching.Watch.lines.Given as goal

-- the lines so far are bodies
abbrev pub invariant-loop-line : goal.invariant-loop-line
invariant-loop-line l = l.bodies ≡ map logged_line (take l.line-index l.line-items)
