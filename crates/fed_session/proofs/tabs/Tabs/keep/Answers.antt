use Rattle.std.proofs.Common.{◌∙◌, ap, Some, is_some}
use Rattle.fed_table.specs.Table.{item_of}
use Rattle.fed_table.specs.Lists.{stands_in}
use Rattle.fed_session.specs.Session.{TabsParts}
use Rattle.fed_session.specs.StepParts.{awaited_in}
use Rattle.fed_session.proofs.kept.Tables.{tabs_items, known_changes, stays_from}
use Rattle.fed_session.proofs.tabs.Tabs.keep.Goals as goal

pub invariant_of-self : goal.invariant_of-self
invariant_of-self c =
    tabs_items c.self.invariant c.give_back.new.self c.args.call _ c.give_back.ensures.pages c.give_back.ensures.waits
    c.give_back.ensures.items
    (λ e. ap is_some (ap (λ (t : TabsParts). item_of t.table.items c.args.call) c.self.view_is ∙ c.requires.lent))
    (λ k found. ap (λ (t : TabsParts). stands_in c.args.call t.table.waits) c.self.view_is ∙ c.requires.waits
    ∙ ap (λ kept. is_some (awaited_in kept)) found)

pub returns : goal.returns
returns c =
    stays_from c.args.call c.args.kept c.args.self.now _ c.give_back.new.self c.self.view_is c.give_back.ensures.pages
    c.give_back.ensures.waits
    (known_changes c.args.call (Some (Some c.args.kept)) c.self.inside.table.items c.give_back.new.self.items c.give_back.ensures.items)
