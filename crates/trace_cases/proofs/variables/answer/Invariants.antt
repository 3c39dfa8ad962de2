use Rattle.trace_cases.proofs.variables.answer.Given as goal

abbrev pub ghosts-show_nested : goal.ghosts-show_nested
ghosts-show_nested a = record { name = a.blank.name; parts = a.blank.parts }
