use Rattle.fed_provider.proofs.files.SiteText.{site_is_ascii}
use Rattle.fed_call.proofs.dialogs.site.Goals as goal

pub domain_text-requires : goal.domain_text-requires
domain_text-requires c = site_is_ascii c.args.rules.now c.args.host.now c.in-Some.domain.now c.kind-kind.ensures.ascii c.in-Some.ensures
