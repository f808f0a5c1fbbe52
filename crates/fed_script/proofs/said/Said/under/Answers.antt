use Rattle.std.proofs.Common.{slice_index_or, ap}
use Rattle.fed_json.specs.declared.reading.Begun.TheVariants as begun
use Rattle.fed_script.specs.Said.{under}
use Rattle.fed_script.proofs.said.Said.under.Goals as goal

pub returns : goal.returns
unfolding under
returns c = ap (λ n. slice_index_or c.args.self.now.found n begun.Null) c.place.ensures.place
