use Rattle.std.proofs.Common.{ap, sym, ◌∙◌, ◌+◌, length}
use Rattle.fed_table.specs.Kept.{CallLists}
use Rattle.fed_table.proofs.owned.Owned.{owned_empty}
use Rattle.fed_table.proofs.calls.Calls.add_page_list.Goals as goal

pub invariant_of-self : goal.invariant_of-self
invariant_of-self g c =
    owned_empty c.reserve.result c.self.inside.links c.reserve.new.self c.args.count c.self.invariant c.reserve.ensures.pages
    c.reserve.ensures.free c.reserve.ensures.err
    (c.requires ∙ ap (λ (l : CallLists g.row.C.Denot). length l.pages + 1) (sym c.self.view_is))
