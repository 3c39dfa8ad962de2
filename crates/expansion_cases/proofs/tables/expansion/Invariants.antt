use Rattle.example_language.specs.Lines.{lists_by}
use Rattle.expansion_cases.proofs.tables.expansion.Given as goal

-- the language that is made is the one of the lists that were read
abbrev pub ghosts-expand-P-Program : goal.ghosts-expand-P-Program
ghosts-expand-P-Program a = record { lists = lists_by a.lists.items; branches = a.limits.branches }

abbrev pub ghosts-expand-L-Ledger : goal.ghosts-expand-L-Ledger
ghosts-expand-L-Ledger a = record { name = a.blank.name; parts = a.blank.parts }
