use Rattle.std.proofs.Common.{ap, ◌∙◌}
use Rattle.fed_table.specs.Lists.{next_in}
use Rattle.fed_table.specs.Table.{TableParts}
use Rattle.fed_table.proofs.listed.Listed.{keyed_next}
use Rattle.fed_table.proofs.table.Table.next.Goals as goal

pub returns : goal.returns
returns g c = record {
  value = c.next.ensures ∙ keyed_next c.args.call c.self.inside.pages c.self.inside.calls.pages c.self.invariant.page_lists
      ∙ ap (λ (t : TableParts g.row.C.Denot). next_in c.args.call t.pages) c.self.view_is;
}
