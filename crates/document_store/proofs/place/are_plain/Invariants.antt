use Rattle.std.proofs.Common.{◌≡◌, ◌<◌, ℕ, true}
use Rattle.std.specs.Prelude.{slice_index}
use Rattle.document_store.specs.Places.{is_plain}
use Rattle.document_store.proofs.place.are_plain.Given as goal

-- the bytes so far are characters by themselves
abbrev pub invariant-loop-at : goal.invariant-loop-at
invariant-loop-at l = (k : ℕ) → k < l.at → is_plain (slice_index l.text k) ≡ true
