use Rattle.fed_provider.proofs.files.SiteText.{site_is_ascii}
use Rattle.fed_provider.proofs.wellknown.wellknown_url.Goals as goal

pub site_text-requires : goal.site_text-requires
site_text-requires c = site_is_ascii c.args.rules.now c.host-host.result.now c.in-Some.site.now c.kind-kind.ensures.ascii c.in-Some.ensures
