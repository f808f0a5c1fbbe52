use Rattle.std.proofs.Common.{sym, ◌∙◌}
use Rattle.fed_jar.proofs.parts.Lists.{listed_some, listed_none}
use Rattle.fed_jar.proofs.lists.listed.Goals as goal

pub returns-in-Some : goal.returns-in-Some
returns-in-Some c =
    c.as_slice.ensures
    ∙ sym (listed_some (λ key. key.items) c.args.party.now c.args.parties.now.entries c.in-Some.cookies.now (sym c.in-Some.ensures.value))

pub returns-in-None : goal.returns-in-None
returns-in-None c = sym (listed_none (λ key. key.items) c.args.party.now c.args.parties.now.entries (sym c.in-None.ensures.value))
