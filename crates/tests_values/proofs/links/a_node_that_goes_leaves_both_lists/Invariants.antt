use Rattle.tests_values.proofs.links.a_node_that_goes_leaves_both_lists.Given as goal

abbrev pub ghosts-waiting : goal.ghosts-waiting
ghosts-waiting g a = record { name = a.blank.name; parts = a.blank.parts }
