-- The members that the frames of a list name, as they are kept. No public clause cites this file. This project.
use Rattle.std.specs.Prelude.{ℕ, Option}
use Rattle.text_sites.specs.Sites.{Site}
use Rattle.answers_feed.specs.Sites.{shelf}
use Rattle.answers_feed.specs.declared.shelf.Shelf.{Shelf}

-- the sites of the members, by the numbers of their paths
abbrev pub members_in : Shelf → (number : ℕ) → Option Site
members_in members = shelf members.folders.now members.store.now.store
