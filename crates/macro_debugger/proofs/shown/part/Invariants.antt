use Rattle.std.proofs.Common.{◌≡◌, take}
use Rattle.std.specs.List.{flat_map}
use Rattle.macro_debugger.specs.Seen.{part_of}
use Rattle.macro_debugger.proofs.shown.part.Given as goal

-- the part of the variables so far
abbrev pub invariant-loop-variable : goal.invariant-loop-variable
invariant-loop-variable l = l.part ≡ flat_map (part_of l.globals) (take l.variable-index l.variables)
