use Rattle.std.specs.Prelude.{IsCharBoundary}
use Rattle.document_store.proofs.seeking.place_back.Given as goal

-- the text may be cut at the place
abbrev pub invariant-loop : goal.invariant-loop
invariant-loop l = IsCharBoundary l.text l.at
