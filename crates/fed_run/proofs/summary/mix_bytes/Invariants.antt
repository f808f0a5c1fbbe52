use Rattle.std.proofs.Common.{◌≡◌, take}
use Rattle.std.specs.List.{fold}
use Rattle.fed_run.specs.Make.{mix_byte}
use Rattle.fed_run.proofs.summary.mix_bytes.Given as goal

-- the number after the bytes so far
abbrev pub invariant-loop-byte : goal.invariant-loop-byte
invariant-loop-byte l = l.mixed ≡ fold mix_byte l.fn.mix (take l.byte-index l.bytes)
