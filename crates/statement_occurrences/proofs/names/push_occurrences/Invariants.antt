use Rattle.std.proofs.Common.{◌≡◌, [], take}
use Rattle.std.specs.List.{fold}
use Rattle.standing_occurrences.specs.Standing.{with_first}
use Rattle.statement_occurrences.specs.Named.{of_names}
use Rattle.statement_occurrences.specs.Views.{circumstances_of}
use Rattle.statement_occurrences.proofs.names.push_occurrences.Given as goal

-- the occurrences of the names so far
abbrev pub invariant-loop-at : goal.invariant-loop-at
invariant-loop-at l = l.kept ≡ fold with_first l.initial.kept (of_names (circumstances_of l.s) l.path l.statement [] (take l.at l.names))
