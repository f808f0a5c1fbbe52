use Rattle.std.proofs.Common.{◌≡◌, ◌<◌, length, sym, arith, Some}
use Rattle.fed_head.specs.Chunk.{size_line}
use Rattle.fed_reply.proofs.body.Chunks.{reads_chunk, ends_short, ends_last, ends_trailer, ends_without_line, after_chunk-shorter}
use Rattle.fed_reply.proofs.chunks.read_chunks.Goals as goal

pub returns-in-Ok : goal.returns-in-Ok
returns-in-Ok c =
    let filled : 0 < length c.loop-line.rest.now = omega (arith, c.in-Some.ensures.1, c.in-Some.ensures.2) in
    let line : size_line c.loop-line.rest.now ≡ Some (c.in-Some.line.size, c.split_at.result.1.now) =
    rw c.split_at.ensures.back c.in-Some.ensures.0 in
    rw c.from_vec.ensures (ends_last _ _ _ _ _ c.loop-line.invariant line c.if-line-eq0.true (sym c.in-Ok.ensures) filled)

pub returns-in-Err : goal.returns-in-Err
returns-in-Err c =
    let filled : 0 < length c.loop-line.rest.now = omega (arith, c.in-Some.ensures.1, c.in-Some.ensures.2) in
    let line : size_line c.loop-line.rest.now ≡ Some (c.in-Some.line.size, c.split_at.result.1.now) =
    rw c.split_at.ensures.back c.in-Some.ensures.0 in
    ends_trailer _ _ _ _ _ _ c.loop-line.invariant line c.if-line-eq0.true (sym c.in-Err.ensures) filled

pub returns-in-Err-after_chunk : goal.returns-in-Err-after_chunk
returns-in-Err-after_chunk c =
    let filled : 0 < length c.loop-line.rest.now = omega (arith, c.in-Some.ensures.1, c.in-Some.ensures.2) in
    let line : size_line c.loop-line.rest.now ≡ Some (c.in-Some.line.size, c.split_at.result.1.now) =
    rw c.split_at.ensures.back c.in-Some.ensures.0 in
    ends_short _ _ _ _ _ _ c.loop-line.invariant line c.if-line-eq0.false (sym c.in-Err-after_chunk.ensures.after) filled

pub loop-line-smaller : goal.loop-line-smaller
loop-line-smaller c =
    let shorter : length c.in-Ok-after_chunk.after.now < length c.split_at.result.1.now =
    after_chunk-shorter _ _ _ (sym c.in-Ok-after_chunk.ensures.after) in
    omega (arith, shorter, c.in-Some.ensures.1, c.in-Some.ensures.2, c.split_at.ensures.back_len)

pub loop-line-preserved : goal.loop-line-preserved
loop-line-preserved c =
    let shorter : length c.in-Ok-after_chunk.after.now < length c.split_at.result.1.now =
    after_chunk-shorter _ _ _ (sym c.in-Ok-after_chunk.ensures.after) in
    let less : length c.in-Ok-after_chunk.after.now < length c.loop-line.rest.now =
    omega (arith, shorter, c.in-Some.ensures.1, c.in-Some.ensures.2, c.split_at.ensures.back_len) in
    let line : size_line c.loop-line.rest.now ≡ Some (c.in-Some.line.size, c.split_at.result.1.now) =
    rw c.split_at.ensures.back c.in-Some.ensures.0 in
    rw c.in_ok-extend_from_slice.ensures.items (reads_chunk _ _ _ _ _ _ c.loop-line.invariant line c.if-line-eq0.false
    (sym c.in-Ok-after_chunk.ensures.after) less)

pub returns : goal.returns
returns c = ends_without_line _ _ _ c.loop-line.invariant c.in_default.ensures
