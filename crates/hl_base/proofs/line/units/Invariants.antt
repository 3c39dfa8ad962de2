use Rattle.std.proofs.Common.{◌≡◌, ◌+◌, length, drop}
use Rattle.std.specs.Prelude.{chars}
use Rattle.hl_base.specs.Texts.{units}
use Rattle.hl_base.proofs.line.units.Given as goal

-- the width so far and that of what is left are that of the line
abbrev pub invariant-loop-c : goal.invariant-loop-c
invariant-loop-c l = l.width + units (drop (length l.yielded) (chars l.line)) ≡ units (chars l.line)
