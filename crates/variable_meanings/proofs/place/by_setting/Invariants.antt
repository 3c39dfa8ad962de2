use Rattle.std.proofs.Common.{◌≡◌, drop}
use Rattle.std.specs.List.{find}
use Rattle.variable_meanings.specs.Meanings.{sets}
use Rattle.variable_meanings.proofs.place.by_setting.Given as goal

-- the first that is left is the first of all
abbrev pub invariant-loop-setting : goal.invariant-loop-setting
invariant-loop-setting l = find (sets l.name) (drop l.setting-index l.settings) ≡ find (sets l.name) l.settings
