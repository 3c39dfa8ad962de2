use denote.Shadow.{shadow}
use denote.Text.{Utf8}
use Rattle.std.proofs.Common.{length}
use Rattle.std.specs.Prelude.{chars}
use Rattle.hlasm_statements.proofs.ReadingLaws.{HasReadOn}
use Rattle.hlasm_statements.proofs.reader.Reader.read_part.Given as goal

-- what stands before the rest is read on
abbrev pub invariant-loop-self : goal.invariant-loop-self
invariant-loop-self l = HasReadOn l.initial.self l.self l.line l.column l.at (chars l.part) (chars l.rest) × shadow (Utf8 l.rest)

abbrev pub decreases-loop-self : goal.decreases-loop-self
decreases-loop-self l = length (chars l.rest)
