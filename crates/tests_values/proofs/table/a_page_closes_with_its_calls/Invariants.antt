use Rattle.tests_values.proofs.table.a_page_closes_with_its_calls.Given as goal

abbrev pub ghosts-closing : goal.ghosts-closing
ghosts-closing g a = record { name = a.blank.name; parts = a.blank.parts }
