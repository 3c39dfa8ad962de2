use Rattle.std.specs.Prelude.{chars}
use Rattle.document_store.proofs.FromLemmas.{IsFrom}
use Rattle.document_store.proofs.lines.line_or_last.Given as goal
use denote.Shadow.{shadow}
use denote.Text.{Utf8}

-- what is left stands from the next line on
abbrev pub invariant-loop-number : goal.invariant-loop-number
invariant-loop-number l = IsFrom (chars l.text) l.number (chars l.rest) × shadow (Utf8 l.rest)
