use Rattle.fed_suffix.proofs.nodes.Opened.{close-used, close-fits, close-same}
use Rattle.fed_suffix.proofs.insertion.close_all.Goals as goal

pub close-node-requires : goal.close-node-requires
close-node-requires c =
    close-used c.pop.new.self.items c.loop-opened.above.items c.in-Some.opened c.loop-opened.node c.in-Some.ensures.items
    c.loop-opened.invariant.fitting

pub loop-opened-preserved : goal.loop-opened-preserved
loop-opened-preserved c =
    let left = c.pop.new.self.items in
    let old = c.loop-opened.above.items in
    let node = c.loop-opened.node in
    record {
      fitting = close-fits left c.in-Some.opened node c.close-node.result c.close-node.ensures
          (close-used left old c.in-Some.opened node c.in-Some.ensures.items c.loop-opened.invariant.fitting);
      same = close-same left old c.in-Some.opened node c.close-node.result _ c.in-Some.ensures.items c.close-node.ensures
          c.loop-opened.invariant.same;
    }
