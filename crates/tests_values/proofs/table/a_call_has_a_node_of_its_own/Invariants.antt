use Rattle.tests_values.proofs.table.a_call_has_a_node_of_its_own.Given as goal

abbrev pub ghosts-numbering : goal.ghosts-numbering
ghosts-numbering g a = record { name = a.blank.name; parts = a.blank.parts }
