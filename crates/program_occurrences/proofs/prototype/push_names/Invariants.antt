use Rattle.std.proofs.Common.{◌≡◌, take}
use Rattle.std.specs.List.{flat_map, fold}
use Rattle.standing_occurrences.specs.Standing.{with_first}
use Rattle.program_occurrences.specs.Prototypes.{of_name}
use Rattle.program_occurrences.proofs.prototype.push_names.Given as goal

-- the names so far
abbrev pub invariant-loop-name : goal.invariant-loop-name
invariant-loop-name l = l.kept ≡ fold with_first l.initial.kept (flat_map (of_name l.origin l.statement l.operands) (take l.name-index l.names))
