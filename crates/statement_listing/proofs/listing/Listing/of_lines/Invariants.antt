use Rattle.std.proofs.Common.{◌≡◌, ◌≤◌, ℕ, List, drop}
use Rattle.std.specs.Map.{lookup}
use Rattle.statement_listing.specs.Listings.{elements, elements_from, place_of}
use Rattle.statement_listing.specs.Sources.{spells}
use Rattle.statement_listing.proofs.ListingLaws.{place_behind}
use Rattle.statement_listing.proofs.listing.Listing.of_lines.Given as goal

-- where labels are, by what was read and what is left
abbrev pub invariant-loop-line : goal.invariant-loop-line
invariant-loop-line l =
    ((name : List ℕ) → place_of name (elements l.fn.lines.items) ≡ place_behind (lookup (spells name) l.places.entries) l.place (place_of name (elements_from l.begun (drop l.line-index l.fn.lines.items))))
    × (l.begun ≤ l.line-index)
    × (l.place ≤ l.line-index)
