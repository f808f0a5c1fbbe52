use Rattle.std.proofs.Common.{[]}
use Rattle.fed_suffix.specs.Node.{rules_of}
use Rattle.fed_suffix.proofs.node.SuffixNode.new.Goals as goal

pub returns : goal.returns
returns c = λ i. rules_of (λ label. label) (c.none.ensures i).plain (c.none.ensures i).exception [] []
