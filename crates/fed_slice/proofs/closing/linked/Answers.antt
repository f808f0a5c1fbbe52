use Rattle.std.proofs.Common.{subst, ap}
use Rattle.fed_slice.specs.Linked.{LinksMore, pairs_of, is_number}
use Rattle.fed_slice.proofs.joined.Told.{links_all}
use Rattle.fed_slice.proofs.closing.linked.Goals as goal

pub returns : goal.returns
returns c =
    links_all c.args.script.now c.events-events.result.now c.header.result.now.rules c.in_ok-loaded.loaded.keys
    c.link_all.new.self c.events-events.ensures.events
    (ap (λ h. h.rules) c.header.ensures)
    c.in_ok-loaded.ensures
    (subst
    (λ l. LinksMore (pairs_of c.header.result.now.rules (is_number c.in_ok-loaded.loaded.keys) c.events-events.result.now) l
    c.link_all.new.self)
    c.new-parties.ensures c.in_ok-link_all.ensures)
