use Rattle.std.proofs.Common.{◌≡◌, sym, ap, ◌∙◌, rules}
use Rattle.fed_origin.specs.WebUrl.{host_of}
use Rattle.fed_suffix.specs.Registrable.{party}
use Rattle.fed_jar.proofs.parties.Parties.{from_party}
use Rattle.fed_jar.proofs.jar.Jar.write.Goals as goal

pub put-requires-clause-own : goal.put-requires-clause-own
put-requires-clause-own c =
    let host : c.host.result.now ≡ host_of c.args.url.now = search rules in
    from_party c.args.rules.now c.args.url.now c.args.now c.args.raw c.in-Some.host_only c.in_ok-cookie.cookie
    (sym c.in-Some.ensures) c.in_ok-cookie.ensures
    ∙ ap (party c.args.rules.now) (sym host)
