use Rattle.std.proofs.Common.{◌∙◌, ap, sym, subst, is_some, nat_eq}
use Rattle.std.specs.List.{list_any}
use Rattle.std.specs.Map.{lookup}
use Rattle.fed_session.specs.Session.{TabsParts}
use Rattle.fed_session.specs.Tabs.{AreTabs}
use Rattle.fed_session.proofs.kept.Tables.{tabs_entered, not_waiting, entered_from}
use Rattle.fed_session.proofs.tabs.Tabs.enter.Goals as goal

pub invariant_of-self-in_err-hold_get : goal.invariant_of-self-in_err-hold_get
invariant_of-self-in_err-hold_get g c =
    subst (λ taken. AreTabs c.self.inside.pages taken c.add.new.table c.in-Some.changes)
    (sym c.in_ok-insert.ensures.ok)
    (tabs_entered c.self.invariant c.add.new.table c.args.page c.args.call c.in-Some.changes c.args.kept c.in_ok-add.ensures.pages
    c.in_ok-add.ensures.items c.in-Some.ensures.1 c.add.ensures.waits
    (not_waiting c.self.invariant c.are_lists.ensures c.args.call
    (ap (λ (t : TabsParts). list_any (nat_eq c.args.call) t.taken) c.self.view_is ∙ c.requires.fresh)) c.requires.idle)

pub invariant_of-self-2 : goal.invariant_of-self-2
invariant_of-self-2 g c =
    subst (λ taken. AreTabs c.self.inside.pages taken c.add.new.table c.in-Some.changes)
    (sym c.in_ok-insert.ensures.ok)
    (tabs_entered c.self.invariant c.add.new.table c.args.page c.args.call c.in-Some.changes c.args.kept c.in_ok-add.ensures.pages
    c.in_ok-add.ensures.items c.in-Some.ensures.1 c.add.ensures.waits
    (not_waiting c.self.invariant c.are_lists.ensures c.args.call
    (ap (λ (t : TabsParts). list_any (nat_eq c.args.call) t.taken) c.self.view_is ∙ c.requires.fresh)) c.requires.idle)

pub returns-clause-ok : goal.returns-clause-ok
returns-clause-ok g c =
    entered_from c.args.page c.args.call c.args.kept c.is_get-is_get.result c.args.self.now _ c.hold_get.new.gets.entries
    c.insert.new.self c.add.new.table c.self.view_is
    (c.self.invariant.opened c.args.page
    (ap (λ (t : TabsParts). is_some (lookup (nat_eq c.args.page) t.pages)) c.self.view_is ∙ c.requires.stands))
    (ap (λ (t : TabsParts). list_any (nat_eq c.args.call) t.taken) c.self.view_is ∙ c.requires.fresh) c.is_get-is_get.ensures
    c.in_ok-insert.ensures.ok c.in_ok-add.ensures.pages c.add.ensures.waits c.in_ok-add.ensures.items c.in_ok-hold_get.ensures
