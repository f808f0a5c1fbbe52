use Rattle.std.proofs.Common.{refl, sym, subst}
use Rattle.std.specs.Option.{IsSome}
use Rattle.fed_status.proofs.numbers.Listed.{lists_less}
use Rattle.fed_status.proofs.pairs.list_less.Goals as goal

pub returns-in-Some : goal.returns-in-Some
returns-in-Some c =
    lists_less c.args.pair c.args.pairs.now.entries (c.get_mut.follows.lender c.remove.new.self).entries c.in-Some.accounts.now
    c.remove.new.self (sym c.in-Some.ensures.value)
    ((c.get_mut.follows.holds c.remove.new.self).3 (subst IsSome c.in-Some.ensures.value refl)).0
    c.args.account.now c.remove.ensures
