use Rattle.tests_values.proofs.io.a_counter_takes_no_bytes.Given as goal

abbrev pub ghosts-ticked : goal.ghosts-ticked
ghosts-ticked g a = record { name = a.blank.name; parts = a.blank.parts }
