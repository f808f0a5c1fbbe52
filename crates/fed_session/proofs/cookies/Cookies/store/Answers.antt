use Rattle.std.proofs.Common.{ap, ◌∙◌}
use Rattle.fed_origin.specs.WebUrl.{host_of}
use Rattle.fed_suffix.specs.Registrable.{party}
use Rattle.fed_jar.specs.Limit.{jar_after}
use Rattle.fed_jar.specs.Store.{cookie_of}
use Rattle.fed_jar.proofs.parties.Parties.{written_party}
use Rattle.fed_session.specs.Cookies.{CookieParts, with_stored}
use Rattle.fed_session.proofs.clauses.Cookies.{seen_after}
use Rattle.fed_session.proofs.cookies.Cookies.store.Goals as goal

pub returns : goal.returns
returns c =
    let rules = c.self.inside.rules in
    seen_after rules c.args.now (party rules (host_of c.args.url.now)) c.self.inside.jar c.store.new.self
    (cookie_of rules c.args.url.now c.args.now c.args.raw) c.self.invariant (written_party rules c.args.url.now c.args.now c.args.raw)
    (c.in_ok-store.ensures.parts
    ∙ ap (λ r. jar_after c.args.now (party r (host_of c.args.url.now)) c.self.inside.jar (cookie_of r c.args.url.now c.args.now c.args.raw))
    c.suffixes.ensures)
    ∙ ap (λ (p : CookieParts). with_stored c.args.now p (cookie_of p.rules c.args.url.now c.args.now c.args.raw)) c.self.view_is
