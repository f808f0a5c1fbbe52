use Rattle.std.proofs.Common.{◌∙◌, ap, is_some, sym}
use Rattle.fed_status.specs.Kept.{triple_of}
use Rattle.fed_status.proofs.numbers.Tables.{found, not_found}
use Rattle.fed_status.proofs.table.Table.has.Goals as goal

pub returns-in-Some : goal.returns-in-Some
returns-in-Some c =
    c.is_some.ensures ∙ ap is_some c.find.ensures
    ∙ found c.args.self.now c.requires (triple_of c.args.page.now c.args.provider.now c.args.account.now) c.in-Some.pair
    (sym c.pair.ensures ∙ c.in-Some.is)

pub returns-in-None : goal.returns-in-None
returns-in-None c =
    sym (not_found c.args.self.now c.requires (triple_of c.args.page.now c.args.provider.now c.args.account.now) (sym c.pair.ensures
    ∙ c.in-None.is))
