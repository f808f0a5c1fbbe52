use Rattle.std.proofs.Common.{sym, not, ap, ◌∙◌}
use Rattle.fed_jar.proofs.parts.Limited.{limited_standing}
use Rattle.fed_jar.proofs.parts.Lists.{any_found, replaced, none_found}
use Rattle.fed_jar.proofs.party_cookies.put_in_set.Goals as goal

pub returns-in_ok-place-in-Some-clause-ok : goal.returns-in_ok-place-in-Some-clause-ok
returns-in_ok-place-in-Some-clause-ok c =
    let found = sym c.in-Some.ensures in
    c.in_ok-place-in-Some.ensures.keys
    ∙ replaced c.args.new c.args.cookies.now.keys c.in-Some.number found
    ∙ sym (limited_standing c.args.now c.args.new c.args.cookies.now.keys
    (any_found c.args.new c.args.cookies.now.keys c.in-Some.number found))

pub put_last-requires : goal.put_last-requires
put_last-requires c = record { absent = none_found c.args.new c.args.cookies.now.keys (sym c.in-None.ensures) }

pub returns-in_ok-put_last-in-None-clause-fresh : goal.returns-in_ok-put_last-in-None-clause-fresh
returns-in_ok-put_last-in-None-clause-fresh c = ap not (sym (none_found c.args.new c.args.cookies.now.keys (sym c.in-None.ensures)))
