use Rattle.std.proofs.Common.{sym, arith}
use Rattle.fed_slice.specs.Linked.{is_number}
use Rattle.fed_slice.proofs.gathered.Lines.{ends_text, passes_line}
use Rattle.fed_slice.proofs.text.put_lines.Goals as goal

pub loop-line-preserved : goal.loop-line-preserved
loop-line-preserved c = record {
  whole =
      passes_line (is_number c.args.lines.now.keys) c.loop-line.number c.loop-line.rest.now c.in-Some.line.now c.in-Some.further.now
      c.loop-line.text.items c.put_kept.new.text.items _ c.in-Some.ensures.lines c.in_ok-put_kept.ensures c.loop-line.invariant.whole;
  number = let before = c.loop-line.invariant.number in omega (arith, before, c.in-Some.ensures.shorter);
}

pub returns : goal.returns
returns c =
    ends_text (is_number c.args.lines.now.keys) c.loop-line.number c.loop-line.rest.now c.loop-line.text.items _
    (sym c.in_default.ensures.line) c.loop-line.invariant.whole
