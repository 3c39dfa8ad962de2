use Rattle.std.proofs.Common.{◌≡◌, ◌++◌, length, drop}
use Rattle.statement_listing.specs.Listings.{plain_numbers}
use Rattle.statement_listing.specs.Sources.{places_before}
use Rattle.statement_listing.proofs.numbering.Numbering.of.Given as goal

-- what was read, and then what is left
abbrev pub invariant-loop-at : goal.invariant-loop-at
invariant-loop-at l =
    (plain_numbers 0 l.lines ≡ l.numbers.items ++ plain_numbers l.at (drop l.at l.lines))
    × (places_before 0 l.lines ≡ l.before.items ++ places_before (length l.numbers.items) (drop l.at l.lines))
