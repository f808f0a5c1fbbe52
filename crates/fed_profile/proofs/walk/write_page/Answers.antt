use Rattle.std.proofs.Common.{ap, ◌∙◌}
use Rattle.fed_profile.specs.Item.{item_in}
use Rattle.fed_profile.specs.Lines.{bare_line}
use Rattle.fed_profile.proofs.read.Items.{page_iff, told_of_line}
use Rattle.fed_profile.proofs.walk.write_page.Goals as goal

pub returns-clause-restores : goal.returns-clause-restores
returns-clause-restores c =
    let rules = c.args.rules.now in
    let now = c.args.now in
    told_of_line _ _ _ c.is_page.ensures (page_iff rules now c.args.page c.args.origin.now c.in_ok-event.event)
    (c.in_ok-event.ensures.event ∙ ap (λ m. item_in rules now (bare_line m)) c.in_ok-page_object.ensures)
