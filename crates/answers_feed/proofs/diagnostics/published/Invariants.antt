use Rattle.std.proofs.Common.{◌≡◌, map, take}
use Rattle.answers_feed.specs.Diagnostics.{diagnostic_of_note}
use Rattle.answers_feed.specs.Kept.{members_in}
use Rattle.answers_feed.specs.Sites.{site_at, shelf}
use Rattle.answers_feed.proofs.diagnostics.published.Given as goal

-- the notes so far are shown, and the members are those of the store
abbrev pub invariant-loop-note : goal.invariant-loop-note
invariant-loop-note l =
    (l.list ≡ map (diagnostic_of_note l.program.0 (site_at l.program.0 l.own (shelf l.folders l.store.store))) (take l.note-index l.most))
    × (members_in l.members ≡ shelf l.folders l.store.store)
