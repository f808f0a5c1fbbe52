use Rattle.std.proofs.Common.{ap, ◌∙◌}
use Rattle.fed_json.specs.Values.{whole_in}
use Rattle.fed_json.proofs.values.Steps.{whole_read}
use Rattle.fed_json.proofs.reading.Values.of_text.Goals as goal

pub returns-in-Ok : goal.returns-in-Ok
returns-in-Ok c = ap whole_in c.in-Ok.ensures.ok ∙ whole_read c.args.text.now
