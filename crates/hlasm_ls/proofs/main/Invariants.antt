use Rattle.hlasm_ls.proofs.main.Given as goal

abbrev pub ghosts-run_on_streams : goal.ghosts-run_on_streams
ghosts-run_on_streams a = record { name = a.blank.name; parts = a.blank.parts }
