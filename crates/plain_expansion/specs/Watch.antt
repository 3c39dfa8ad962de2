-- What a machine that watches itself lets pass, told of a run. This project.
use Rattle.std.specs.Prelude.{◌≡◌, ◌<◌, ℕ, ◌-◌, Bool, true, false}
use Rattle.kept_values.specs.Trees.{Tree}
use Rattle.asking_core.specs.Runs.{Run, Leaves, Ends, Spent, Asks, Puts, Counts, Bumps, Emits, Moves, Deepens, Rises, Refused, Calls, Barred}

-- A run keeps to the watch where so much may still be done before the next unit of fuel, and `full` behind each: it does no more
-- than that, asks moving keys only while it is still at its entry, where it has done nothing else, and puts writable keys alone.
-- A nested call has a watch of its own.
abbrev pub KeepsToWatch : {C I : Type 0} → (full : ℕ) → (moving writable : Tree → Bool) → (entry : Bool) → (left : ℕ) → Run C I → Type 0
KeepsToWatch full moving writable entry left Leaves = Unit {0}
KeepsToWatch full moving writable entry left Ends = Unit {0}
KeepsToWatch full moving writable entry left Spent = Unit {0}
KeepsToWatch full moving writable entry left (Asks key value t) =
    (0 < left) × (moving key ≡ true → entry ≡ true) × KeepsToWatch full moving writable entry (left - 1) t
KeepsToWatch full moving writable entry left (Puts key value t) = (0 < left) × (writable key ≡ true) × KeepsToWatch full moving writable false (left - 1) t
KeepsToWatch full moving writable entry left (Counts t) = KeepsToWatch full moving writable false full t
KeepsToWatch full moving writable entry left (Bumps t) = (0 < left) × KeepsToWatch full moving writable false (left - 1) t
KeepsToWatch full moving writable entry left (Emits item t) = (0 < left) × KeepsToWatch full moving writable false (left - 1) t
KeepsToWatch full moving writable entry left (Moves n t) = (0 < left) × KeepsToWatch full moving writable false (left - 1) t
KeepsToWatch full moving writable entry left (Deepens t) = (0 < left) × KeepsToWatch full moving writable false (left - 1) t
KeepsToWatch full moving writable entry left (Rises t) = (0 < left) × KeepsToWatch full moving writable false (left - 1) t
KeepsToWatch full moving writable entry left (Refused t) = (0 < left) × KeepsToWatch full moving writable false (left - 1) t
KeepsToWatch full moving writable entry left (Calls c child t) =
    (0 < left) × KeepsToWatch full moving writable true full child × KeepsToWatch full moving writable false (left - 1) t
KeepsToWatch full moving writable entry left (Barred c t) = (0 < left) × KeepsToWatch full moving writable false (left - 1) t
