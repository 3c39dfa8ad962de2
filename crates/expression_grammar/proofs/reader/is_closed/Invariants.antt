use Rattle.std.proofs.Common.{◌≡◌, drop}
use Rattle.expression_grammar.specs.Stacks.{all_close}
use Rattle.expression_grammar.proofs.reader.is_closed.Given as goal

-- as what is left
abbrev pub invariant-loop-pending : goal.invariant-loop-pending
invariant-loop-pending l = all_close l.stack ≡ all_close (drop l.pending-index l.stack)
