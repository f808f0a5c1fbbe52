use Rattle.std.proofs.Common.{ap, sym, ◌∙◌}
use Rattle.fed_table.specs.Kept.{CallLists}
use Rattle.fed_table.specs.Table.{node_in}
use Rattle.fed_table.proofs.found.Items.{node_is}
use Rattle.fed_table.proofs.calls.Calls.node_of.Goals as goal

pub returns : goal.returns
returns g c =
    c.node.ensures ∙ sym (node_is c.args.call c.self.inside.places.entries)
    ∙ ap (λ (l : CallLists g.row.C.Denot). node_in l.nodes c.args.call) c.self.view_is
