use Rattle.std.proofs.Common.{◌≡◌, ◌++◌, ◌-◌, drop, length, map}
use Rattle.macro_entry.specs.Shown.{parameter_shown}
use Rattle.macro_entry.proofs.showing.add_parameters.Given as goal

-- the parameters so far, and then those that are left
abbrev pub invariant-loop-bound : goal.invariant-loop-bound
invariant-loop-bound l =
    l.settings ++ map parameter_shown (drop l.place l.binding.parameters) ≡ l.initial.settings ++ map parameter_shown l.binding.parameters

abbrev pub decreases-loop-bound : goal.decreases-loop-bound
decreases-loop-bound l = length l.binding.parameters - l.place
