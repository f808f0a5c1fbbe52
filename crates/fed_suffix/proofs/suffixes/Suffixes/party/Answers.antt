use Rattle.std.proofs.Common.{Some, None, ◌∙◌}
use Rattle.fed_suffix.proofs.sets.Set.{party-by}
use Rattle.fed_suffix.proofs.suffixes.Suffixes.party.Goals as goal

pub returns-in-Some : goal.returns-in-Some
returns-in-Some c = party-by c.args.self.now c.args.host.now (Some c.in-Some.domain.now) c.in-Some.ensures

pub returns-in-None : goal.returns-in-None
returns-in-None c =
    c.as_bytes.ensures.value ∙ c.as_str.ensures ∙ c.host.view_is ∙ party-by c.args.self.now c.args.host.now None c.in-None.ensures
