use Rattle.std.proofs.Common.{◌≡◌, ◌-◌, ◌++◌, ◌<◌, length, replicate, None}
use Rattle.running_calls.proofs.calls.pad.Given as goal

-- none was put for each level so far; where there is no level to go to, none was
abbrev pub invariant-loop : goal.invariant-loop
invariant-loop l =
    (l.levels.items ≡ l.initial.levels.items ++ replicate (l.counter - length l.initial.levels.items) None)
    × (l.level < length l.initial.levels.items → l.counter ≡ length l.initial.levels.items)
