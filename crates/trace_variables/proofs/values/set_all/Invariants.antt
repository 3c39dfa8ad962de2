use Rattle.std.proofs.Common.{◌≡◌, take}
use Rattle.std.specs.List.{fold}
use Rattle.trace_variables.specs.Values.{after_setting}
use Rattle.trace_variables.specs.Seen.{seen}
use Rattle.trace_variables.proofs.values.set_all.Given as goal

-- the settings so far were made
abbrev pub invariant-loop-setting : goal.invariant-loop-setting
invariant-loop-setting l = seen l.values ≡ fold after_setting (seen l.initial.values) (take l.setting-index l.settings)
