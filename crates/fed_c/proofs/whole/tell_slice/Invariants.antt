use Rattle.fed_c.proofs.whole.tell_slice.Given as goal

-- the counter's book, of which nobody else has a part
abbrev pub ghosts-tell_by : goal.ghosts-tell_by
ghosts-tell_by a = record { name = a.blank.name; parts = a.blank.parts }
