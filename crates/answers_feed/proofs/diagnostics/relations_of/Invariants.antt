use Rattle.std.proofs.Common.{◌≡◌, map, take}
use Rattle.answers_feed.specs.Diagnostics.{relation_of}
use Rattle.answers_feed.specs.Kept.{members_in}
use Rattle.answers_feed.specs.Sites.{site_at}
use Rattle.answers_feed.proofs.diagnostics.relations_of.Given as goal

-- the frames so far are shown, and the members are what they were
abbrev pub invariant-loop-frame : goal.invariant-loop-frame
invariant-loop-frame l =
    (l.related ≡ map (relation_of (site_at l.program.0 l.own (members_in l.initial.members))) (take l.frame-index l.frames)) × (members_in l.members ≡ members_in l.initial.members)
