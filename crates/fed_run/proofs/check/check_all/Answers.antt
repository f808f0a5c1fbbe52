use Rattle.std.proofs.Common.{arith}
use Rattle.fed_run.proofs.checks.Ends.{ends_whole, ends_long, stops_whole, short_end, past_long, whole_not_long}
use Rattle.fed_run.proofs.checks.Pieces.{starts, stops_by}
use Rattle.fed_run.proofs.check.check_all.Goals as goal

pub check_pieces-requires : goal.check_pieces-requires
check_pieces-requires g c = starts _ _ c.new-checker.ensures.none

pub check_last-requires : goal.check_last-requires
check_last-requires g c =
    let end = rw c.if-long.false at c.in-Ok.ensures.ok in
    (_, end.bytes, end.is_at, let few = end.few in omega (arith, few))

pub returns-then-long-clause-ok : goal.returns-then-long-clause-ok
returns-then-long-clause-ok g c = ends_long _ _ _ _ (rw c.if-long.true at c.in-Ok.ensures.ok)

pub returns-in-Err-check_last-clause-err : goal.returns-in-Err-check_last-clause-err
returns-in-Err-check_last-clause-err g c =
    let end = rw c.if-long.false at c.in-Ok.ensures.ok in
    stops_by c.in-Err-check_last.stop c.in-Err-check_last.ensures.kind
    (stops_whole _ _ _ _ _ _ _ end (c.in-Err-check_last.ensures.err _ end.bytes end.is_at))

pub returns-in-Ok-check_last-clause-ok : goal.returns-in-Ok-check_last-clause-ok
returns-in-Ok-check_last-clause-ok g c =
    let end = rw c.if-long.false at c.in-Ok.ensures.ok in
    ends_whole _ _ _ _ _ _ _ c.in-Ok-check_last.status end (c.in-Ok-check_last.ensures.ok _ end.bytes end.is_at)

pub returns-then-long-clause-past_limit : goal.returns-then-long-clause-past_limit
returns-then-long-clause-past_limit g c = λ is. past_long _ _ _ _ (rw c.if-long.true at c.in-Ok.ensures.ok)

pub returns-in-Err-check_last-clause-short : goal.returns-in-Err-check_last-clause-short
returns-in-Err-check_last-clause-short g c =
    let end = rw c.if-long.false at c.in-Ok.ensures.ok in
    λ is. short_end _ _ _ _ _ _ _ end (c.in-Err-check_last.ensures.less is _ end.bytes end.is_at)

pub returns-in-Ok-check_last-clause-past_limit : goal.returns-in-Ok-check_last-clause-past_limit
returns-in-Ok-check_last-clause-past_limit g c =
    let end = rw c.if-long.false at c.in-Ok.ensures.ok in
    λ is. absurd (whole_not_long _ (c.in-Ok-check_last.ensures.ok _ end.bytes end.is_at) is)
