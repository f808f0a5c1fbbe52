use Rattle.fed_audit.proofs.lines.compare.Given as goal

-- the counter's book, of which nobody else has a part
abbrev pub ghosts-compare_by : goal.ghosts-compare_by
ghosts-compare_by a = record { name = a.counter.name; parts = a.counter.parts }
