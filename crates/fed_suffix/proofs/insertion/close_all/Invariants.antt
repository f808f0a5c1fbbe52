use Rattle.std.proofs.Common.{◌≡◌, true, length}
use Rattle.fed_suffix.specs.Opened.{all_closed, fits}
use Rattle.fed_suffix.proofs.insertion.close_all.Given as goal

-- the node, closed by what is left, is the whole
abbrev pub invariant-loop-opened : goal.invariant-loop-opened
invariant-loop-opened l =
    record {
      fitting : fits l.above.items l.node ≡ true;
      same : all_closed l.above.items l.node ≡ all_closed l.fn.above.items l.fn.node;
    }

abbrev pub decreases-loop-opened : goal.decreases-loop-opened
decreases-loop-opened l = length l.above.items
