use Rattle.fedcm.proofs.main.Given as goal

-- the counter's book, of which nobody else has a part
abbrev pub ghosts-program : goal.ghosts-program
ghosts-program a = record { name = a.blank.name; parts = a.blank.parts }
