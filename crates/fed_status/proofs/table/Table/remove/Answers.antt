use Rattle.std.proofs.Common.{◌∙◌, sym, ap, refl}
use Rattle.std.specs.Map.{values_of}
use Rattle.fed_status.specs.Kept.{triple_of}
use Rattle.fed_status.proofs.numbers.Tables.{one_removed, none_there, not_removed, without_one}
use Rattle.fed_status.proofs.table.Table.remove.Goals as goal

pub returns-in_default-clause-value : goal.returns-in_default-clause-value
returns-in_default-clause-value c =
    sym (not_removed c.args.self.now c.requires (triple_of c.args.page.now c.args.provider.now c.args.account.now)
    (sym c.pair.ensures ∙ c.in_default.is))

pub returns-in-Some-find-clause-value : goal.returns-in-Some-find-clause-value
returns-in-Some-find-clause-value c =
    ap values_of c.remove.ensures
    ∙ one_removed c.args.self.now c.requires (triple_of c.args.page.now c.args.provider.now c.args.account.now) c.in-Some.pair
    c.in-Some-find.id (sym c.pair.ensures ∙ c.in-Some.is) (sym c.find.ensures ∙ c.in-Some-find.is)

pub returns-in-Some-find-clause-table : goal.returns-in-Some-find-clause-table
returns-in-Some-find-clause-table c =
    without_one c.args.self.now c.requires c.in-Some.pair c.args.account.now c.in-Some-find.id
    (sym c.find.ensures ∙ c.in-Some-find.is) _ refl c.remove.ensures refl c.unlist.ensures

pub returns-in_default-find-clause-value : goal.returns-in_default-find-clause-value
returns-in_default-find-clause-value c =
    sym (none_there c.args.self.now c.requires (triple_of c.args.page.now c.args.provider.now c.args.account.now) c.in-Some.pair
    (sym c.pair.ensures ∙ c.in-Some.is) (sym c.find.ensures ∙ c.in_default-find.is))
