use Rattle.std.proofs.Common.{◌∙◌, ap, sym, subst}
use Rattle.fed_table.specs.Table.{has_page}
use Rattle.fed_session.specs.Tabs.{AreTabs}
use Rattle.fed_session.proofs.kept.Tables.{tabs_room, tabs_added, tabs_stands, key_there, loads_then}
use Rattle.fed_session.proofs.tabs.Tabs.load.Goals as goal

pub invariant_of-self : goal.invariant_of-self
invariant_of-self g c =
    subst (λ table. AreTabs c.self.inside.pages c.self.inside.taken table c.in-Some.changes) (sym c.in_err-add_page.ensures.err)
    (tabs_room c.self.invariant c.in-Some.changes c.in-Some.ensures.1)

pub invariant_of-self-in_err-insert : goal.invariant_of-self-in_err-insert
invariant_of-self-in_err-insert g c =
    subst (λ pages. AreTabs pages c.self.inside.taken c.add_page.new.self c.in-Some.changes) (sym c.in_err-insert.ensures.err)
    (tabs_added c.self.invariant c.add_page.new.self c.args.page c.in-Some.changes c.in_ok-add_page.ensures.pages c.add_page.ensures.waits
    c.add_page.ensures.items c.in-Some.ensures.1)

pub invariant_of-self-2 : goal.invariant_of-self-2
invariant_of-self-2 g c =
    subst (λ pages. AreTabs pages c.self.inside.taken c.add_page.new.self c.in-Some.changes) (sym c.in_ok-insert.ensures.ok)
    (tabs_stands
    (tabs_added c.self.invariant c.add_page.new.self c.args.page c.in-Some.changes c.in_ok-add_page.ensures.pages c.add_page.ensures.waits
    c.add_page.ensures.items c.in-Some.ensures.1)
    c.args.page c.args.origin
    (ap (λ lists. has_page lists c.args.page) c.in_ok-add_page.ensures.pages ∙ key_there c.args.page c.self.inside.table.pages))

pub returns-clause-ok : goal.returns-clause-ok
returns-clause-ok g c =
    loads_then c.args.page c.args.origin c.args.self.now c.end_calls.new.self _ c.insert.new.self c.add_page.new.self
    c.end_calls.ensures.tabs c.self.view_is c.in_ok-insert.ensures.ok c.in_ok-add_page.ensures.pages
    c.add_page.ensures.waits c.add_page.ensures.items
