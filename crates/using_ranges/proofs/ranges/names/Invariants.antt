use Rattle.std.proofs.Common.{◌≡◌, drop}
use Rattle.using_ranges.specs.Ranges.{is_among}
use Rattle.using_ranges.proofs.ranges.names.Given as goal

abbrev pub invariant-loop-named : goal.invariant-loop-named
invariant-loop-named l = is_among l.register (drop l.named-index l.registers) ≡ is_among l.register l.registers
