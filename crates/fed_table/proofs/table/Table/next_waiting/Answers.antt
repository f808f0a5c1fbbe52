use Rattle.std.proofs.Common.{ap, sym, ◌∙◌}
use Rattle.fed_table.specs.Lists.{next_in, stands_in}
use Rattle.fed_table.specs.Table.{TableParts}
use Rattle.fed_table.proofs.listed.Listed.{keyed_next, keyed_stands}
use Rattle.fed_table.proofs.table.Table.next_waiting.Goals as goal

pub next_waiting-requires : goal.next_waiting-requires
next_waiting-requires g c =
    sym (keyed_stands c.args.call c.self.inside.origins.keys c.self.inside.calls.waits c.self.invariant.origin_lists)
    ∙ ap (λ (t : TableParts g.row.C.Denot). stands_in c.args.call t.waits) c.self.view_is ∙ c.requires

pub returns : goal.returns
returns g c = record {
  value = c.next_waiting.ensures ∙ keyed_next c.args.call c.self.inside.origins.keys c.self.inside.calls.waits c.self.invariant.origin_lists
      ∙ ap (λ (t : TableParts g.row.C.Denot). next_in c.args.call t.waits) c.self.view_is;
}
