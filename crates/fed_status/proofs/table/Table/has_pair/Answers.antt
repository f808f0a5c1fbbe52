use Rattle.std.proofs.Common.{◌∙◌, sym}
use Rattle.fed_status.proofs.numbers.Tables.{pair_found, no_pair_found}
use Rattle.fed_status.proofs.table.Table.has_pair.Goals as goal

pub returns-in-Some : goal.returns-in-Some
returns-in-Some c =
    c.has_some.ensures
    ∙ pair_found c.args.self.now c.requires c.args.page.now c.args.provider.now c.in-Some.pair (sym c.pair.ensures ∙ c.in-Some.is)

pub returns-in-None : goal.returns-in-None
returns-in-None c = sym (no_pair_found c.args.self.now c.requires c.args.page.now c.args.provider.now (sym c.pair.ensures ∙ c.in-None.is))
