use Rattle.std.proofs.Common.{◌≡◌, map, take}
use Rattle.symbol_answers.specs.Answers.{location_of}
use Rattle.symbol_answers.specs.Kept.{store_in}
use Rattle.symbol_answers.specs.Seen.{all_seen}
use Rattle.symbol_answers.proofs.spots.locations_at.Given as goal

-- the places so far are shown, and the site that is kept is of this store
abbrev pub invariant-loop-place : goal.invariant-loop-place
invariant-loop-place l =
    (l.list ≡ map (location_of l.store.store) (all_seen (take l.place-index l.places))) × (store_in l.kept ≡ l.store.store)
