use Rattle.std.proofs.Common.{◌≡◌, drop}
use Rattle.layout_statements.specs.Bases.{any_reads_place}
use Rattle.layout_statements.proofs.bases.any_reads_place.Given as goal

-- none of those so far
abbrev pub invariant-loop-text : goal.invariant-loop-text
invariant-loop-text l = any_reads_place l.texts ≡ any_reads_place (drop l.text-index l.texts)
