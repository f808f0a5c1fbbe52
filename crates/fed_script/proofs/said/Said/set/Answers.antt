use Rattle.std.proofs.Common.{arith}
use Rattle.fed_script.specs.Said.{under}
use Rattle.fed_script.proofs.says.Names.{found-noted, found-other}
use Rattle.fed_script.proofs.said.Said.set.Goals as goal

pub returns-clause-one : goal.returns-clause-one
unfolding under
returns-clause-one c =
    found-noted c.args.name c.args.self.now.found c.args.first c.place.result c.place.ensures.place
    (omega (arith, c.place.ensures.within, c.args.self.now.full))

pub returns-clause-others : goal.returns-clause-others
unfolding under
returns-clause-others c = λ other apart.
    found-other c.args.name other c.args.self.now.found c.args.first c.place.result c.place.ensures.place apart
