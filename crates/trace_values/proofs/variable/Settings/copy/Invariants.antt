use Rattle.std.proofs.Common.{◌≡◌, take}
use Rattle.trace_values.proofs.variable.Settings.copy.Given as goal

-- the settings so far are copied
abbrev pub invariant-loop-setting : goal.invariant-loop-setting
invariant-loop-setting l = l.settings.items ≡ take l.setting-index l.setting-items
