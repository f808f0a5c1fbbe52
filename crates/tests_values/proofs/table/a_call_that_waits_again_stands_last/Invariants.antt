use Rattle.tests_values.proofs.table.a_call_that_waits_again_stands_last.Given as goal

abbrev pub ghosts-waiting : goal.ghosts-waiting
ghosts-waiting g a = record { name = a.blank.name; parts = a.blank.parts }
