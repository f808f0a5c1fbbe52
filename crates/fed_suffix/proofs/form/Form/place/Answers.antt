use Rattle.std.proofs.Common.{ap}
use Rattle.fed_suffix.specs.Form.{labels_below}
use Rattle.fed_suffix.proofs.nodes.Form.{distinct-nothing, distinct-alone}
use Rattle.fed_suffix.proofs.form.Form.place.Goals as goal

pub returns-in-Leaf-clause-unique : goal.returns-in-Leaf-clause-unique
returns-in-Leaf-clause-unique c = distinct-nothing c.args.self.now (ap labels_below c.in-Leaf.is)

pub returns-then-eq-clause-unique : goal.returns-then-eq-clause-unique
returns-then-eq-clause-unique c = distinct-alone c.args.self.now _ (ap labels_below c.in-One.is)

pub returns-else-eq-clause-unique : goal.returns-else-eq-clause-unique
returns-else-eq-clause-unique c = distinct-alone c.args.self.now _ (ap labels_below c.in-One.is)
