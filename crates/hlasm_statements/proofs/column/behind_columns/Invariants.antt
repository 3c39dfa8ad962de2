use Rattle.std.proofs.Common.{◌≡◌, drop}
use Rattle.std.specs.Prelude.{encode_utf8_all, chars}
use Rattle.hlasm_statements.proofs.column.behind_columns.Given as goal

-- what is left is behind the columns so far
abbrev pub invariant-loop : goal.invariant-loop
invariant-loop l = l.rest.rest.now ≡ encode_utf8_all (drop l.counter (chars l.text))
