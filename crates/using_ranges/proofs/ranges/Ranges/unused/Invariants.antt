use Rattle.std.proofs.Common.{◌≡◌, ◌<◌, ◌^◌, ◌&&◌}
use Rattle.using_ranges.specs.Ranges.{is_unused, is_among, mask_of}
use Rattle.using_ranges.proofs.ranges.Ranges.unused.Given as goal

abbrev pub invariant-loop-register : goal.invariant-loop-register
invariant-loop-register l = (l.mask < 2 ^ l.register) × (l.mask ≡ mask_of (λ r. is_among r l.registers && is_unused l.self r) l.register)
