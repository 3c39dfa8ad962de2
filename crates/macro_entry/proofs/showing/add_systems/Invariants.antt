use Rattle.std.proofs.Common.{◌≡◌, ◌++◌, map, take}
use Rattle.macro_entry.specs.Shown.{system_shown}
use Rattle.macro_entry.proofs.showing.add_systems.Given as goal

-- the system variables so far are added
abbrev pub invariant-loop-system : goal.invariant-loop-system
invariant-loop-system l = l.settings ≡ l.initial.settings ++ map system_shown (take l.system-index l.systems)
