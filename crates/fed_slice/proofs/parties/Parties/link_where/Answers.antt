use Rattle.std.proofs.Common.{sym, subst, ◌∙◌}
use Rattle.std.specs.Prelude.{OnOk}
use Rattle.fed_slice.specs.Linked.{LinksMore, is_number}
use Rattle.fed_slice.proofs.joined.Pairs.{named_loaded}
use Rattle.fed_slice.proofs.parties.Parties.link_where.Goals as goal

pub returns-then-contains : goal.returns-then-contains
returns-then-contains c =
    subst (λ l. OnOk c.link_event.result (LinksMore l c.args.self.now c.link_event.new.self))
    (named_loaded c.args.rules.now (is_number c.args.loaded.now.keys) c.args.event.now c.in-Some.page (sym c.in-Some.ensures)
    (sym c.contains.ensures ∙ c.if-contains.true))
    c.link_event.ensures
