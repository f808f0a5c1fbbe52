use Rattle.std.proofs.Common.{◌∙◌, sym, ap, arith}
use Rattle.fed_script.specs.Reader.{Phase}
use Rattle.fed_script.proofs.pieces.Feeds.{feeding_goes_on, feeding_ends, never}
use Rattle.fed_script.proofs.reader.ScriptReader.read_piece.Goals as goal

pub loop-lines-preserved : goal.loop-lines-preserved
loop-lines-preserved c =
    let so = c.loop-lines.invariant in
    let one = rw c.in-Some.is at c.in_ok-line.ensures.some in
    let going = rw c.in-Some.is at c.in_ok-line.ensures.going in
    let shorter = rw c.in-Some.is at c.in_ok-line.ensures.shorter in
    let few = so.few going in
    record {
      fed = feeding_goes_on _ _ _ _ _ _ _ _ _ so.fed one c.in_ok-push.ensures.ok;
      few = λ still. omega (arith, few, shorter, ap (λ (p : Phase). p.number) one.phase);
      over = λ was. never (sym (so.over was).0 ∙ going);
      alive = c.in_ok-line.ensures.alive ∙ so.alive;
    }

pub returns-clause-lines : goal.returns-clause-lines
returns-clause-lines c =
    feeding_ends _ _ _ _ _ _ c.loop-lines.invariant.fed (rw c.in_default.is at c.in_ok-line.ensures.none)
