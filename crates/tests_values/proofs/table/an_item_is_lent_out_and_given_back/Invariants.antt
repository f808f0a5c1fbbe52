use Rattle.tests_values.proofs.table.an_item_is_lent_out_and_given_back.Given as goal

abbrev pub ghosts-lending : goal.ghosts-lending
ghosts-lending g a = record { name = a.blank.name; parts = a.blank.parts }
