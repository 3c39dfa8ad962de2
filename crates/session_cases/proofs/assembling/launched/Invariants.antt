use Rattle.session_cases.proofs.assembling.launched.Given as goal

abbrev pub ghosts-trace : goal.ghosts-trace
ghosts-trace a = record { name = a.blank.name; parts = a.blank.parts }
