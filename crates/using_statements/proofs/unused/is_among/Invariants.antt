use Rattle.std.proofs.Common.{◌≡◌, drop}
use Rattle.using_ranges.specs.Ranges.{is_among}
use Rattle.using_statements.proofs.unused.is_among.Given as goal

abbrev pub invariant-loop-other : goal.invariant-loop-other
invariant-loop-other l = is_among l.register (drop l.other-index l.registers) ≡ is_among l.register l.registers
