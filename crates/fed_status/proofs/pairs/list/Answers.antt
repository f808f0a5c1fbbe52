use Rattle.std.proofs.Common.{Result, Ok, Err, refl, sym, subst}
use Rattle.std.specs.Option.{IsSome}
use Rattle.std.specs.Prelude.{OnOk}
use Rattle.fed_status.proofs.numbers.Listed.{lists_new}
use Rattle.fed_status.proofs.pairs.list.Goals as goal

ok_after : {T E P Q : Type 0} (result : Result T E) → (P → Q) → OnOk result P → OnOk result Q
ok_after (Ok x) f h = f h
ok_after (Err e) f h = h

pub returns-in-Some-clause-ok : goal.returns-in-Some-clause-ok
returns-in-Some-clause-ok c =
    ok_after c.add.result
    (lists_new c.args.pair c.args.pairs.now.entries (c.get_mut.follows.lender c.add.new.self).entries c.in-Some.accounts.now
    c.add.new.self (sym c.in-Some.ensures.value)
    ((c.get_mut.follows.holds c.add.new.self).3 (subst IsSome c.in-Some.ensures.value refl)).0
    c.args.kept.now c.args.id)
    c.add.ensures.ok
