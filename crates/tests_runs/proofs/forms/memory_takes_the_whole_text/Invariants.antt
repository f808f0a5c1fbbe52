use Rattle.tests_runs.proofs.forms.memory_takes_the_whole_text.Given as goal

abbrev pub ghosts-in_memory : goal.ghosts-in_memory
ghosts-in_memory g a = record { name = a.blank.name; parts = a.blank.parts }
