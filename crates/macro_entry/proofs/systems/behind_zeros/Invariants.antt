use Rattle.std.proofs.Common.{◌≡◌, replicate}
use Rattle.macro_entry.proofs.systems.behind_zeros.Given as goal

-- so many zeros are there
abbrev pub invariant-loop-place : goal.invariant-loop-place
invariant-loop-place l = l.padded ≡ replicate l._place 48
