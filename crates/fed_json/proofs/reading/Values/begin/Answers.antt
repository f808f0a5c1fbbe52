use Rattle.std.proofs.Common.{ap, ◌∙◌}
use Rattle.fed_json.specs.Values.{value_in}
use Rattle.fed_json.proofs.values.Steps.{no_value}
use Rattle.fed_json.proofs.reading.Values.begin.Goals as goal

pub returns-in_default-clause-value : goal.returns-in_default-clause-value
returns-in_default-clause-value c =
    rw (← c.self.view_is) (ap (value_in c.args.depth) c.in_default.ensures.value.0 ∙ no_value c.args.depth)
