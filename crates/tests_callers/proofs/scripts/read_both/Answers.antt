-- The lines of two pieces and of the end, one after the other.
use Rattle.std.proofs.Common.{◌∙◌, [], ◌++◌, ap, arith}
use Rattle.tests_callers.proofs.scripts.read_both.Goals as goal

pub feed-requires : goal.feed-requires
feed-requires c = record { few = λ alive going. ([], c.new-reader.ensures.read, omega (arith, c.requires)) }

pub feed-requires-2 : goal.feed-requires-2
feed-requires-2 c = record {
  few = λ alive going. (c.args.first.now, (c.in_ok-head.ensures.lines [] c.new-reader.ensures.read).0, c.requires);
}

pub returns : goal.returns
returns c =
    let one = c.in_ok-head.ensures.lines [] c.new-reader.ensures.read in
    let two = c.in_ok-further.ensures.lines c.args.first.now one.0 in
    c.in_ok-last.ensures.lines (c.args.first.now ++ c.args.second.now) two.0
    ∙ ap (λ ls. ls ++ c.in_ok-last.last) (two.1 ∙ ap (λ ls. ls ++ c.in_ok-further.further) one.1)
