use Rattle.std.proofs.Common.{◌-◌, length}
use Rattle.hlasm_server.proofs.FeedingLaws.{IsReading}
use Rattle.hlasm_server.proofs.feeding.next_body.Given as goal

-- what was taken so far is less than a whole frame
abbrev pub invariant-frame : goal.invariant-frame
invariant-frame g l =
    let s = g.S.Source in
    IsReading l.most (s.left l.initial.source) (s.left l.source) (s.waits l.initial.source) (s.waits l.source) (s.faults l.initial.source) (s.faults l.source) l.initial.reader l.reader

abbrev pub decreases-frame : goal.decreases-frame
decreases-frame g l = 16781312 - length l.reader.rest
