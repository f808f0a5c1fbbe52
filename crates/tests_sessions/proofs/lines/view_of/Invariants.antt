use Rattle.tests_sessions.proofs.lines.view_of.Given as goal

-- the counter's book, of which nobody else has a part
abbrev pub ghosts-view_after : goal.ghosts-view_after
ghosts-view_after a = record { name = a.blank.name; parts = a.blank.parts }
