use Rattle.std.specs.Prelude.{◌≡◌, chars, drop}
use Rattle.document_store.specs.Positions.{whole_lines}
use Rattle.document_store.proofs.lines.near_line.Given as goal

-- the line that is looked for is the same
abbrev pub invariant-loop : goal.invariant-loop
invariant-loop l = drop l.ahead.ends (whole_lines (chars l.ahead.text.now)) ≡ drop l.line (whole_lines (chars l.text))
