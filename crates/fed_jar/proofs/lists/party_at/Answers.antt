use Rattle.std.proofs.Common.{◌≡◌, sym, ◌∙◌, ap, rules}
use Rattle.fed_suffix.specs.Registrable.{party}
use Rattle.fed_jar.proofs.parts.Places.{own_at}
use Rattle.fed_jar.proofs.lists.party_at.Goals as goal

-- the cookie's domain is the host, so the party under which it is kept is the host's
pub returns-clause-own : goal.returns-clause-own
returns-clause-own c = λ r own.
    let same : c.in_ok-one.one.now.cookie.domain ≡ c.args.host.now = search rules in
    let named : c.as_slice.result.now ≡ c.in_ok-name.name.now.items = search rules in
    named
    ∙ own_at (λ key. key.items) r c.args.parties.now.entries c.args.place.party c.args.place.cookie _ _ _ own
    (sym c.in_ok-name.ensures.entry) (sym c.in_ok-one.ensures)
    ∙ ap (party r) same
