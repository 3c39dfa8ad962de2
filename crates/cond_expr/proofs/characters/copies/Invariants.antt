use Rattle.std.proofs.Common.{◌≡◌}
use Rattle.cond_expr.specs.Characters.{repeated}
use Rattle.cond_expr.proofs.characters.copies.Given as goal

-- so many copies so far
abbrev pub invariant-loop-copy : goal.invariant-loop-copy
invariant-loop-copy l = l.whole ≡ repeated l._copy l.text
