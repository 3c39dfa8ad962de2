use Rattle.trace_cases.proofs.points.counted.Given as goal

abbrev pub ghosts-count_points : goal.ghosts-count_points
ghosts-count_points a = record { name = a.blank.name; parts = a.blank.parts }
