use Rattle.std.proofs.Common.{◌≡◌, map, take}
use Rattle.std.specs.List.{fold}
use Rattle.trace_variables.specs.Values.{after_locals}
use Rattle.trace_variables.specs.Seen.{seen}
use Rattle.trace_variables.proofs.values.pass_all.Given as goal

-- the items so far have done what they did
abbrev pub invariant-loop-item : goal.invariant-loop-item
invariant-loop-item l = seen l.values ≡ fold after_locals (seen l.initial.values) (map (λ i. i.now) (take l.item-index l.items))
