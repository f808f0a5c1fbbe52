use Rattle.std.proofs.Common.{length, ◌+◌}
use Rattle.fed_run.proofs.memory.fedcm_in_memory.Given as goal

abbrev pub ghosts-calmly : goal.ghosts-calmly
ghosts-calmly g a = record { bytes = length a.sink.taken + a.sink.room }
