use Rattle.std.proofs.Common.{sym}
use Rattle.fed_jar.proofs.parts.Places.{place_some, place_none}
use Rattle.fed_jar.proofs.lists.place_of.Goals as goal

pub returns-in-Some : goal.returns-in-Some
returns-in-Some c =
    place_some (λ key. key.items) c.args.party.now c.args.parties.now.entries c.in-Some.place _ _ c.in-Some.ensures.entry
    (sym c.in-Some.ensures.key)

pub returns-in-None : goal.returns-in-None
returns-in-None c = place_none (λ key. key.items) c.args.party.now c.args.parties.now.entries (sym c.in-None.ensures.value)
