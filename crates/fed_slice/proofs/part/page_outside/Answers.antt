use Rattle.std.proofs.Common.{[], ◌∷◌, ap}
use Rattle.std.specs.Prelude.{map}
use Rattle.fed_origin.specs.WebUrl.{host_of}
use Rattle.fed_slice.specs.Closure.{hosts_named}
use Rattle.fed_slice.proofs.gathered.Numbers.{all_hosts, one_host, outside_at}
use Rattle.fed_slice.proofs.part.page_outside.Goals as goal

pub returns-in-Load : goal.returns-in-Load
returns-in-Load c =
    outside_at c.args.rules.now c.args.parties.now c.args.event.now c.in-Load.page (host_of c.in-Load.url ∷ []) c.has.result c.unless.result
    (λ q. ap (hosts_named q) c.in-Load.is)
    (one_host c.args.rules.now c.args.parties.now (host_of c.in-Load.url) c.host.ensures c.has.ensures) c.unless.ensures

pub returns-in-Get : goal.returns-in-Get
returns-in-Get c =
    outside_at c.args.rules.now c.args.parties.now c.args.event.now c.in-Get.page (map (λ o. host_of o.config) c.in-Get.options.providers)
    c.has_each.result c.unless-in-Get.result (λ q. ap (hosts_named q) c.in-Get.is)
    (all_hosts c.args.rules.now c.args.parties.now c.in-Get.options.providers c.as_slice.ensures c.has_each.ensures) c.unless-in-Get.ensures

pub returns-in-Disconnect : goal.returns-in-Disconnect
returns-in-Disconnect c =
    outside_at c.args.rules.now c.args.parties.now c.args.event.now c.in-Disconnect.page (host_of c.in-Disconnect.config ∷ [])
    c.has-in-Disconnect.result c.unless-in-Disconnect.result (λ q. ap (hosts_named q) c.in-Disconnect.is)
    (one_host c.args.rules.now c.args.parties.now (host_of c.in-Disconnect.config) c.host-in-Disconnect.ensures c.has-in-Disconnect.ensures)
    c.unless-in-Disconnect.ensures
