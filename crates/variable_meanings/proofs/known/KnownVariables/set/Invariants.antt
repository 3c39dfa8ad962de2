use Rattle.std.proofs.Common.{◌≡◌, take}
use Rattle.std.specs.List.{fold}
use Rattle.variable_meanings.specs.Meanings.{with_setting}
use Rattle.variable_meanings.proofs.known.KnownVariables.set.Given as goal

-- those known behind the settings so far
abbrev pub invariant-loop-setting : goal.invariant-loop-setting
invariant-loop-setting l = l.self ≡ fold (with_setting l.own) l.initial.self (take l.setting-index l.settings)
