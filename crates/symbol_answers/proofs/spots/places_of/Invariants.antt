use Rattle.std.proofs.Common.{◌≡◌, map, take}
use Rattle.symbol_answers.specs.Seen.{all_seen}
use Rattle.symbol_answers.specs.Order.{spot_of}
use Rattle.symbol_answers.specs.Questions.{references_of}
use Rattle.symbol_answers.proofs.spots.places_of.Given as goal

-- the places are those of the references so far
abbrev pub invariant-loop-one : goal.invariant-loop-one
invariant-loop-one l = all_seen l.places.items ≡ map (spot_of l.store.store) (references_of (take l.one-index l.occurrences) l.entity l.declarations)
