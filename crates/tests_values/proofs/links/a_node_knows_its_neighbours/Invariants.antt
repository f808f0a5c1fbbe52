use Rattle.tests_values.proofs.links.a_node_knows_its_neighbours.Given as goal

abbrev pub ghosts-looking : goal.ghosts-looking
ghosts-looking g a = record { name = a.blank.name; parts = a.blank.parts }
