use Rattle.std.proofs.Common.{◌∙◌, sym, ap, refl}
use Rattle.std.specs.Map.{values_of}
use Rattle.fed_status.proofs.numbers.Tables.{pair_removed, no_ids_removed, no_pair_removed, without_all}
use Rattle.fed_status.proofs.table.Table.remove_pair.Goals as goal

pub returns-in_default-clause-value : goal.returns-in_default-clause-value
returns-in_default-clause-value c = sym (no_pair_removed c.args.self.now c.requires c.args.page.now c.args.provider.now
    (sym c.pair.ensures ∙ c.in_default.is))

pub returns-in-Some-take-clause-value : goal.returns-in-Some-take-clause-value
returns-in-Some-take-clause-value c =
    ap values_of c.remove_held.ensures.kept
    ∙ pair_removed c.args.self.now c.requires c.args.page.now c.args.provider.now c.in-Some.pair c.in-Some-take.accounts
    (sym c.pair.ensures ∙ c.in-Some.is) (sym c.in-Some-take.ensures.accounts) c.remove_held.ensures.apart

pub returns-in-Some-take-clause-table : goal.returns-in-Some-take-clause-table
returns-in-Some-take-clause-table c =
    without_all c.args.self.now c.requires c.in-Some.pair c.in-Some-take.accounts (sym c.in-Some-take.ensures.accounts)
    c.remove_held.ensures.apart _ refl c.remove_held.ensures.kept refl c.in-Some-take.ensures.others

pub returns-in_default-take-clause-value : goal.returns-in_default-take-clause-value
returns-in_default-take-clause-value c =
    sym (no_ids_removed c.args.self.now c.requires c.args.page.now c.args.provider.now c.in-Some.pair
    (sym c.pair.ensures ∙ c.in-Some.is) (sym c.in_default-take.ensures.accounts))
