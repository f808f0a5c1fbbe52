use Rattle.std.proofs.Common.{rules}
use Rattle.fed_jar.proofs.parts.Places.{site_by}
use Rattle.fed_jar.proofs.store.site_by.Goals as goal

pub returns : goal.returns
returns c = site_by c.args.rules.now c.args.host.now c.args.party.now c.requires (search rules)
