use Rattle.std.proofs.Common.{ℕ, ◌≤◌, ◌<◌, ◌+◌, ◌++◌, List, length, take, arith, length-append, length-drop}
use Rattle.std.proofs.KnownBytes.{Consumes-trans}
use Rattle.std.proofs.lemmas.List.{length-take}
use Rattle.fed_run.proofs.read.read_all.Goals as goal

-- so many bytes more
length-append-take : (bytes piece : List ℕ) (n room most : ℕ) → length bytes + room ≤ most → n ≤ length piece
    → length piece ≤ room
    → length (bytes ++ take n piece) < most + 1
length-append-take bytes piece n room most h read within = simp (length-append, length-take) (omega arith)

pub returns-in_err-extend_from_slice-in-Ok-clause-takes :
    goal.returns-in_err-extend_from_slice-in-Ok-clause-takes
returns-in_err-extend_from_slice-in-Ok-clause-takes g c =
    let within : length c.take.new.buf ≤ c.min-room.result = omega (arith, simp (length-take, length-drop) at c.take.auto.buf) in (
      c.loop-buffer.bytes.items ++ take c.in-Ok.n c.take.new.buf,
      Consumes-trans _ _ _ _ _ c.loop-buffer.invariant.read c.in-Ok.ensures.bytes.0,
      length-append-take c.loop-buffer.bytes.items c.take.new.buf c.in-Ok.n c.min-room.result 67108865 (omega arith) c.in-Ok.ensures.bound.0
          within,
    )
