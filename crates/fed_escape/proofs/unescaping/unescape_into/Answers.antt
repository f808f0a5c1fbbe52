use Rattle.std.proofs.Common.{◌≡◌, ◌-◌, length, take, drop, sym, ◌∙◌, arith}
use Rattle.std.proofs.lemmas.List.{length-drop, take_all, length-set}
use Rattle.fed_escape.proofs.texts.Fronts.{runs, one_byte}
use Rattle.fed_escape.proofs.unescaping.unescape_into.Goals as goal

pub loop-read-preserved-then-bytes-read-ge16 : goal.loop-read-preserved-then-bytes-read-ge16
loop-read-preserved-then-bytes-read-ge16 c =
    let r = c.put_run_16-run in
    let l = c.loop-read in
    let d = c.args.bytes.now in
    let left = take (length d - l.read) (drop l.read d) in
    let same : left ≡ drop l.read d = take_all (length d - l.read) (drop l.read d) (omega (arith, length-drop l.read d)) in
    record {
      text = runs d l.room r.new.room left l.read l.end r.result l.invariant.text same r.ensures.plain r.ensures.written;
      within = omega (arith, r.ensures.within, c.if-bytes-read-ge16.true, l.invariant.within);
      fewer = omega (arith, l.invariant.fewer);
      len = r.ensures.len ∙ l.invariant.len;
    }

pub loop-read-preserved-else-bytes-read-ge16 : goal.loop-read-preserved-else-bytes-read-ge16
loop-read-preserved-else-bytes-read-ge16 c =
    let l = c.loop-read in
    record {
      text =
          one_byte c.args.bytes.now l.room l.read l.end l.invariant.text c.loop-read-test.true (omega (arith, c.loop-read-test.true, l.invariant.fewer, l.invariant.len, c.requires))
          (sym c.stands_for_itself.ensures ∙ c.if-stands_for_itself.true);
      within = omega (arith, c.loop-read-test.true);
      fewer = omega (arith, l.invariant.fewer);
      len = length-set l.room l.end _ ∙ l.invariant.len;
    }
