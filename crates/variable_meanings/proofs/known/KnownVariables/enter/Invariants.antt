use Rattle.std.proofs.Common.{◌≡◌, take}
use Rattle.std.specs.List.{fold}
use Rattle.variable_meanings.specs.Meanings.{with_entry}
use Rattle.variable_meanings.proofs.known.KnownVariables.enter.Given as goal

-- those of the entry so far
abbrev pub invariant-loop-setting : goal.invariant-loop-setting
invariant-loop-setting l = l.self ≡ fold (with_entry l.own) l.initial.self (take l.setting-index l.entry)
