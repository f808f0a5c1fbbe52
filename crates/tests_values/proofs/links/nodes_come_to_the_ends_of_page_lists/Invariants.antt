use Rattle.tests_values.proofs.links.nodes_come_to_the_ends_of_page_lists.Given as goal

abbrev pub ghosts-reading : goal.ghosts-reading
ghosts-reading g a = record { name = a.blank.name; parts = a.blank.parts }
