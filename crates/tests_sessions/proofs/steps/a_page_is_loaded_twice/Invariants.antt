use Rattle.tests_sessions.proofs.steps.a_page_is_loaded_twice.Given as goal

-- the counter's book, of which nobody else has a part
abbrev pub ghosts-loads : goal.ghosts-loads
ghosts-loads g a = record { name = a.blank.name; parts = a.blank.parts }
