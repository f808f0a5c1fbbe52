use Rattle.std.proofs.Common.{sym, arith}
use Rattle.fed_script.proofs.halves.Further.{goes_further, stops_here, ends_here}
use Rattle.fed_script.proofs.script.take_lines.Goals as goal

pub loop-line-preserved : goal.loop-line-preserved
loop-line-preserved c = record {
  whole =
      goes_further _ _ _ _ c.loop-line.number c.loop-line.rest.now c.in-Some.line.now c.in-Some.further.now c.in-None.is
      c.in_ok-take_line.ensures c.in-Some.ensures.lines c.loop-line.invariant.whole;
  number = let before = c.loop-line.invariant.number in omega (arith, before, c.in-Some.ensures.shorter);
}

pub returns-in-Some-2 : goal.returns-in-Some-2
returns-in-Some-2 c =
    stops_here _ _ _ _ c.loop-line.number c.loop-line.rest.now c.in-Some.line.now c.in-Some.further.now c.in-Some-2.is
    c.in_ok-take_line.ensures c.in-Some.ensures.lines c.loop-line.invariant.whole

pub returns : goal.returns
returns c = ends_here _ _ c.loop-line.number c.loop-line.rest.now (sym c.in_default.ensures.line) c.loop-line.invariant.whole
