use Rattle.occurrence_cases.proofs.programs.figures_of.Given as goal

abbrev pub ghosts-assembled : goal.ghosts-assembled
ghosts-assembled a = record { name = a.blank.name; parts = a.blank.parts }
