use Rattle.tests_runs.proofs.tied.ran_tied.Given as goal

abbrev pub ghosts-ran_by : goal.ghosts-ran_by
ghosts-ran_by a = record { name = a.blank.name; parts = a.blank.parts }
