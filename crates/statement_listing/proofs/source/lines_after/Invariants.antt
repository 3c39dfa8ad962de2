use Rattle.std.proofs.Common.{◌≡◌, ◌++◌, map, drop}
use Rattle.statement_listing.specs.Listings.{listed, listing_of}
use Rattle.statement_listing.proofs.source.lines_after.Given as goal

-- the lines so far, and then those that are left
abbrev pub invariant-loop-at : goal.invariant-loop-at
invariant-loop-at l = listing_of l.fn.path l.fn.statements ≡ l.lines.items ++ map (listed l.fn.path) (drop l.at l.fn.statements)
