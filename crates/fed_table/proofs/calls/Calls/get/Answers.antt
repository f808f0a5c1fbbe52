use Rattle.std.proofs.Common.{ap, ◌∙◌}
use Rattle.fed_table.specs.Kept.{CallLists}
use Rattle.fed_table.specs.Table.{present_item}
use Rattle.fed_table.proofs.found.Items.{present_is}
use Rattle.fed_table.proofs.calls.Calls.get.Goals as goal

pub returns : goal.returns
returns g c = record {
  value = c.item.ensures ∙ present_is c.args.call c.self.inside.places.entries
      ∙ ap (λ (l : CallLists g.row.C.Denot). present_item l.items c.args.call) c.self.view_is;
}
