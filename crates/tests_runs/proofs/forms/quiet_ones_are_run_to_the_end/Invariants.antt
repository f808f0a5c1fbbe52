use Rattle.tests_runs.proofs.forms.quiet_ones_are_run_to_the_end.Given as goal

abbrev pub ghosts-quiet : goal.ghosts-quiet
ghosts-quiet g a = record { name = a.blank.name; parts = a.blank.parts }
