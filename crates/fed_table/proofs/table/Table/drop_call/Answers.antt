use Rattle.std.proofs.Common.{ap, ◌∙◌}
use Rattle.fed_table.specs.Lists.{all_without}
use Rattle.fed_table.specs.Table.{TableParts}
use Rattle.fed_table.specs.Kept.{keyed}
use Rattle.fed_table.proofs.listed.Listed.{keyed_without}
use Rattle.fed_table.proofs.table.Table.drop_call.Goals as goal

pub returns-clause-pages : goal.returns-clause-pages
returns-clause-pages g c =
    ap (keyed c.self.inside.pages) c.drop_call.ensures.pages
    ∙ keyed_without c.args.call c.self.inside.pages c.self.inside.calls.pages
    ∙ ap (λ (t : TableParts g.row.C.Denot). all_without c.args.call t.pages) c.self.view_is

pub returns-clause-waits : goal.returns-clause-waits
returns-clause-waits g c =
    ap (keyed c.self.inside.origins.keys) c.drop_call.ensures.waits
    ∙ keyed_without c.args.call c.self.inside.origins.keys c.self.inside.calls.waits
    ∙ ap (λ (t : TableParts g.row.C.Denot). all_without c.args.call t.waits) c.self.view_is
