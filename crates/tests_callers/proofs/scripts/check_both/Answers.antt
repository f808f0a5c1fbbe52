-- What is found in two pieces and at the end, one after the other.
use Rattle.std.proofs.Common.{◌∙◌, [], ◌++◌, ap, arith, length-append}
use Rattle.tests_callers.proofs.scripts.check_both.Goals as goal

pub feed-requires-2 : goal.feed-requires-2
feed-requires-2 c = record {
  few = λ alive. (c.args.first.now, (c.in_ok-head.ensures.found [] c.new-checker.ensures.none).0, c.requires);
}

pub last-requires : goal.last-requires
last-requires c =
    let one = c.in_ok-head.ensures.found [] c.new-checker.ensures.none in
    let two = c.in_ok-further.ensures.found c.args.first.now one.0 in
    record {
      few = λ alive. (
        c.args.first.now ++ c.args.second.now,
        two.0,
        let long = length-append c.args.first.now c.args.second.now in omega (arith, long, c.requires),
      );
    }

pub returns : goal.returns
returns c =
    let one = c.in_ok-head.ensures.found [] c.new-checker.ensures.none in
    let two = c.in_ok-further.ensures.found c.args.first.now one.0 in
    c.in_ok-last.ensures.found (c.args.first.now ++ c.args.second.now) two.0
    ∙ ap (λ ls. ls ++ c.in_ok-last.last) (two.1 ∙ ap (λ ls. ls ++ c.in_ok-further.further) one.1)
