use Rattle.trace_cases.proofs.points.walked.Given as goal

abbrev pub ghosts-walk_twice : goal.ghosts-walk_twice
ghosts-walk_twice a = record { name = a.blank.name; parts = a.blank.parts }
