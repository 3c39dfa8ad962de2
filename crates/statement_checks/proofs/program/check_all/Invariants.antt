use Rattle.std.proofs.Common.{◌≡◌, map}
use Rattle.literal_places.specs.Shown.{literals_of}
use Rattle.ordinary_symbols.specs.Shown.{table_of}
use Rattle.ordinary_symbols.specs.Table.{known}
use Rattle.section_layout.specs.Views.{lines_of, statement_of}
use Rattle.statement_checks.proofs.Walks.{so_far}
use Rattle.statement_checks.proofs.program.check_all.Given as goal

-- the statements so far, and then those that are left, are all statements
abbrev pub invariant-loop-number : goal.invariant-loop-number
invariant-loop-number l =
    so_far (known (table_of l.symbols)) (literals_of l.literals) l.ranges (lines_of l.lines) (map statement_of l.statements) l.number
    ≡ so_far (known (table_of l.symbols)) (literals_of l.literals) l.initial.ranges (lines_of l.lines) (map statement_of l.initial.statements) 0
