use Rattle.fed_run.proofs.save.state.Given as goal

-- the counter's book, of which nobody else has a part
abbrev pub ghosts-session_after : goal.ghosts-session_after
ghosts-session_after a = record { name = a.blank.name; parts = a.blank.parts }
