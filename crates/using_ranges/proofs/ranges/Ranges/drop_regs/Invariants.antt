use Rattle.std.proofs.Common.{◌≡◌, ℕ, ◌<◌, length, drop, None, if◌then◌else◌}
use Rattle.using_ranges.specs.Ranges.{range_at, is_among}
use Rattle.using_ranges.proofs.ranges.Ranges.drop_regs.Given as goal

abbrev pub invariant-loop-register : goal.invariant-loop-register
invariant-loop-register l = (length l.self-inside.held ≡ 16) × ((r : ℕ) → r < 16 →
    (if is_among r (drop l.register-index l.registers) then None else range_at l.self-inside.held r)
    ≡ (if is_among r l.registers then None else range_at l.initial.self-inside.held r))
