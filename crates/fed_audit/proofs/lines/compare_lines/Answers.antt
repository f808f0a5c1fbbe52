use Rattle.std.proofs.Common.{refl, ap, arith, length}
use Rattle.fed_audit.proofs.rows.Lines.{at_most_one, ends_alike, ends_lacking, err_case, goes_first, goes_on, none_left, ok_case, stops}
use Rattle.fed_audit.proofs.lines.compare_lines.Goals as goal

pub loop-line-init : goal.loop-line-init
loop-line-init g c = record {
  goes = λ at h. goes_first at c.args.first c.args.text.now c.args.rows.now h;
  fits = refl;
  few = omega arith;
}

pub returns-in-Err : goal.returns-in-Err
returns-in-Err g c = λ at h.
    let i = c.loop-line.invariant.goes at h in
    stops at c.args.first c.args.text.now c.loop-line.rows c.loop-line.number c.loop-line.rest.now c.in-Some.line.now c.in-Some.after.now
    c.loop-line.requests c.in-Err.difference i c.in-Some.ensures.lines
    (err_case _ _ c.in_ok-request.field-0 c.in-Err.difference (c.in_ok-request.ensures i.now i.is) c.in-Err.is)

pub compare_any-requires : goal.compare_any-requires
compare_any-requires g c =
    let i = c.loop-line.invariant.goes c.requires.rows.0 c.requires.rows.1 in (i.now, i.is)

pub loop-line-preserved : goal.loop-line-preserved
loop-line-preserved g c =
    let i = c.loop-line.invariant in record {
      goes = λ at h.
          let w = i.goes at h in
          let x = ok_case _ _ c.in_ok-request.field-0 c.in-Ok.request (c.in_ok-request.ensures w.now w.is) c.in-Ok.is in
          goes_on at c.args.first c.args.text.now c.loop-line.rows c.compare_any.new.rows x.1 c.loop-line.number c.loop-line.rest.now
          c.in-Some.line.now c.in-Some.after.now c.loop-line.requests c.with_request-requests.result c.in-Ok.request w
          c.in-Some.ensures.lines x.0
          c.with_request-requests.ensures x.2 x.3;
      fits =
          let fits = i.fits in
          let more = ap length c.in-Some.ensures.lines in
          omega (arith, fits, more);
      few =
          let few = i.few in
          let is = c.with_request-requests.ensures in
          let one = at_most_one c.in-Ok.request in
          omega (arith, few, is, one);
    }

pub finish-requires : goal.finish-requires
finish-requires g c =
    let i = c.loop-line.invariant.goes c.requires.rows.0 c.requires.rows.1 in (i.now, i.is)

pub returns-in-Some-2 : goal.returns-in-Some-2
returns-in-Some-2 g c = λ at h.
    let i = c.loop-line.invariant.goes at h in
    ends_lacking at c.args.first c.args.text.now c.loop-line.rows c.loop-line.number c.loop-line.rest.now c.loop-line.requests
    c.in_ok-missing.field-0 c.in-Some-2.missing i (none_left c.loop-line.rest.now c.in_default.ensures.line)
    (c.in_ok-missing.ensures i.now i.is)
    c.in-Some-2.is

pub returns-in-None : goal.returns-in-None
returns-in-None g c = λ at h.
    let i = c.loop-line.invariant.goes at h in
    ends_alike at c.args.first c.args.text.now c.loop-line.rows c.loop-line.number c.loop-line.rest.now c.loop-line.requests
    c.in_ok-missing.field-0 i (none_left c.loop-line.rest.now c.in_default.ensures.line) (c.in_ok-missing.ensures i.now i.is) c.in-None.is
