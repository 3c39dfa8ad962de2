use Rattle.std.specs.Prelude.{reverse}
use Rattle.hl_base.specs.Quoting.{IsBehind}
use Rattle.hlasm_statements.proofs.quotes.ends_quoted.Given as goal

-- the nesting is that behind the characters so far
abbrev pub invariant-loop-c : goal.invariant-loop-c
invariant-loop-c l = IsBehind l.nesting (reverse l.yielded)
