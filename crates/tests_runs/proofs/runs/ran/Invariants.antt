use Rattle.tests_runs.proofs.runs.ran.Given as goal

abbrev pub ghosts-answer : goal.ghosts-answer
ghosts-answer a = record { name = a.blank.name; parts = a.blank.parts }
