use Rattle.trace_cases.proofs.stops.stepped.Given as goal

abbrev pub ghosts-step_nested : goal.ghosts-step_nested
ghosts-step_nested a = record { name = a.blank.name; parts = a.blank.parts }
