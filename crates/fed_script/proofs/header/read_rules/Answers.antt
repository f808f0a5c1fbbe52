-- Each line that `split` gives is the next of the text's lines.
use Rattle.std.proofs.Common.{refl, lit<}
use Rattle.std.proofs.lemmas.Iterator.Splits.{YieldsList-from_str_split}
use Rattle.fed_script.proofs.lines.Header.{begins, goes_on, stops, ends}
use Rattle.fed_script.proofs.header.read_rules.Goals as goal

pub loop-line-init : goal.loop-line-init
loop-line-init c =
    let all =
    YieldsList-from_str_split 10 c.args.text.now (lit< tt) c.split-line-items.ensures.text c.split-line-items.ensures.has_more
    c.split-line-items.ensures.pattern in
    rw (c.into_iter-line-iterator.ensures.into_iter_gives, c.new-rules.ensures) record { lines = _; yields = all.runs; rest = refl }

pub loop-line-preserved : goal.loop-line-preserved
loop-line-preserved c = goes_on (begins {line = c.in-Some.line} c.loop-line.invariant c.in-Some.ensures.steps) c.in-Ok.ensures.answer

pub returns-in-Err : goal.returns-in-Err
returns-in-Err c =
    stops (begins {line = c.in-Some.line} {next = c.next.new.self} c.loop-line.invariant c.in-Some.ensures.steps) c.in-Err.fault
    c.in-Err.ensures.answer

pub returns : goal.returns
returns c = ends c.loop-line.invariant c.in-None.ensures.steps
