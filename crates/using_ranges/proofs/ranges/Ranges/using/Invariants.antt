use Rattle.std.proofs.Common.{◌≡◌, ℕ, ◌<◌, length, drop}
use Rattle.using_ranges.specs.Ranges.{range_at, named_range, last_place}
use Rattle.using_ranges.proofs.ranges.Ranges.using.Given as goal

abbrev pub invariant-loop-pages : goal.invariant-loop-pages
invariant-loop-pages l = (length l.self-inside.held ≡ 16) × ((r : ℕ) → r < 16 →
    named_range l.base.section l.base.value l.end (last_place l.pages (drop l.pages l.registers) r) (range_at l.self-inside.held r)
    ≡ named_range l.base.section l.base.value l.end (last_place 0 l.registers r) (range_at l.initial.self-inside.held r))
