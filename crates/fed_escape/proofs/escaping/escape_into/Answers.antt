use Rattle.std.proofs.Common.{◌≡◌, ◌-◌, ◌++◌, length, take, drop, get_or, true, sym, ◌∙◌, arith}
use Rattle.std.proofs.lemmas.List.{length-drop, take_all, length-set}
use Rattle.json.specs.Print.{escape}
use Rattle.json.specs.Run.{is_plain}
use Rattle.fed_escape.proofs.texts.Fronts.{escapes, one_plain}
use Rattle.fed_escape.proofs.escaping.escape_into.Goals as goal

pub loop-read-preserved-then-bytes-read-ge16 : goal.loop-read-preserved-then-bytes-read-ge16
loop-read-preserved-then-bytes-read-ge16 c =
    let r = c.put_run_16-run in
    let l = c.loop-read in
    let d = c.args.bytes.now in
    let left = take (length d - l.read) (drop l.read d) in
    let same : left ≡ drop l.read d = take_all (length d - l.read) (drop l.read d) (omega (arith, length-drop l.read d)) in
    record {
      text = escapes d l.room r.new.room left (take c.args.at c.args.room.now ++ escape d) l.read l.end r.result l.invariant.text same r.ensures.plain r.ensures.written;
      within = omega (arith, r.ensures.within, c.if-bytes-read-ge16.true, l.invariant.within);
      room = omega (arith, l.invariant.room);
      len = r.ensures.len ∙ l.invariant.len;
    }

pub loop-read-preserved-then-bytes-read-ge8 : goal.loop-read-preserved-then-bytes-read-ge8
loop-read-preserved-then-bytes-read-ge8 c =
    let r = c.put_run_8-run in
    let l = c.loop-read in
    let d = c.args.bytes.now in
    let left = take (length d - l.read) (drop l.read d) in
    let same : left ≡ drop l.read d = take_all (length d - l.read) (drop l.read d) (omega (arith, length-drop l.read d)) in
    record {
      text = escapes d l.room r.new.room left (take c.args.at c.args.room.now ++ escape d) l.read l.end r.result l.invariant.text same r.ensures.plain r.ensures.written;
      within = omega (arith, r.ensures.within, c.if-bytes-read-ge8.true, l.invariant.within);
      room = omega (arith, l.invariant.room);
      len = r.ensures.len ∙ l.invariant.len;
    }

pub loop-read-preserved : goal.loop-read-preserved
loop-read-preserved c =
    let l = c.loop-read in
    let d = c.args.bytes.now in
    let plain : is_plain (get_or d l.read 0) ≡ true = sym c.stands_for_itself.ensures ∙ c.if-not-stands_for_itself.false in
    record {
      text =
          one_plain d l.room (take c.args.at c.args.room.now ++ escape d) l.read l.end l.invariant.text c.loop-read-test.true
          (omega (arith, c.loop-read-test.true, l.invariant.room, l.invariant.len, c.requires)) plain;
      within = omega (arith, c.loop-read-test.true);
      room = omega (arith, l.invariant.room);
      len = length-set l.room l.end _ ∙ l.invariant.len;
    }
