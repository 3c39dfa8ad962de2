use Rattle.occurrence_cases.proofs.scene.standing_at.Given as goal

abbrev pub ghosts-standing_of : goal.ghosts-standing_of
ghosts-standing_of a = record { name = a.blank.name; parts = a.blank.parts }
