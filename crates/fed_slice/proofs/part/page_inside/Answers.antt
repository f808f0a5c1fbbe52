use Rattle.std.proofs.Common.{ap}
use Rattle.fed_slice.specs.Closure.{loads}
use Rattle.fed_slice.specs.Linked.{is_number}
use Rattle.fed_slice.proofs.gathered.Numbers.{load_at}
use Rattle.fed_slice.proofs.part.page_inside.Goals as goal

pub returns-in-Load : goal.returns-in-Load
returns-in-Load c =
    load_at (is_number c.args.outside.now.keys) c.args.event.now c.in-Load.page c.contains.result c.unless.result
    (λ q. ap (loads q) c.in-Load.is) c.contains.ensures c.unless.ensures
