use Rattle.std.proofs.Common.{length}
use Rattle.fed_reply.proofs.body.Chunks.{ReadsOn}
use Rattle.fed_reply.proofs.chunks.read_chunks.Given as goal

abbrev pub invariant-loop-line : goal.invariant-loop-line
invariant-loop-line l = ReadsOn l.fn.raw l.body.items l.rest

abbrev pub decreases-loop-line : goal.decreases-loop-line
decreases-loop-line l = length l.rest
