use Rattle.std.proofs.Common.{◌∙◌, ap}
use Rattle.fed_twin.specs.Compare.{quiet_count}
use Rattle.fed_twin.proofs.compared.Compare.{count_of_row}
use Rattle.fed_twin.proofs.comparison.take_event.Goals as goal

pub returns : goal.returns
returns g c =
    λ T stands.
    let row = c.in_ok-outs.ensures.row T stands in (
      c.requests_among-found.ensures ∙ ap (quiet_count c.args.n.now.event) (c.as_slice.ensures ∙ row.0)
          ∙ count_of_row T c.args.n.now.line c.args.n.now.event,
      row.1,
    )
