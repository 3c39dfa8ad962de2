use Rattle.std.specs.Prelude.{chars}
use Rattle.document_store.proofs.FromLemmas.{IsFrom}
use Rattle.document_store.proofs.lines.behind_ends.Given as goal
use denote.Shadow.{shadow}
use denote.Text.{Utf8}

-- what is left stands from the next line on
abbrev pub invariant-loop : goal.invariant-loop
invariant-loop l = IsFrom (chars l.text) l.counter (chars l.rest) × shadow (Utf8 l.rest)
