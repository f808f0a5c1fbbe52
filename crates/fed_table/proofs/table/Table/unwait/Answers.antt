use Rattle.std.proofs.Common.{ap, sym, ◌∙◌}
use Rattle.fed_table.specs.Lists.{all_without, stands_in}
use Rattle.fed_table.specs.Table.{TableParts}
use Rattle.fed_table.specs.Kept.{keyed}
use Rattle.fed_table.proofs.listed.Listed.{keyed_without, keyed_stands}
use Rattle.fed_table.proofs.table.Table.unwait.Goals as goal

pub unwait-requires : goal.unwait-requires
unwait-requires g c =
    sym (keyed_stands c.args.call c.self.inside.origins.keys c.self.inside.calls.waits c.self.invariant.origin_lists)
    ∙ ap (λ (t : TableParts g.row.C.Denot). stands_in c.args.call t.waits) c.self.view_is ∙ c.requires

pub returns-clause-waits : goal.returns-clause-waits
returns-clause-waits g c =
    ap (keyed c.self.inside.origins.keys) c.unwait.ensures.waits
    ∙ keyed_without c.args.call c.self.inside.origins.keys c.self.inside.calls.waits
    ∙ ap (λ (t : TableParts g.row.C.Denot). all_without c.args.call t.waits) c.self.view_is
