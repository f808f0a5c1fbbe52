use Rattle.std.proofs.Common.{sym, ap, ◌∙◌}
use Rattle.std.specs.Option.{option_copied}
use Rattle.fed_profile.specs.Item.{item_in}
use Rattle.fed_profile.specs.Lines.{bare_line}
use Rattle.fed_profile.proofs.read.Items.{kept_iff, told_of_line}
use Rattle.fed_profile.proofs.walk.write_kept.Goals as goal

pub returns-clause-restores : goal.returns-clause-restores
returns-clause-restores c =
    let rules = c.args.rules.now in
    let now = c.args.now in
    told_of_line _ _ _ c.is_kept.ensures
    (kept_iff rules now c.args.triple.now c.in_ok-event.event (option_copied c.have_in.result) (sym c.have_in.ensures))
    (c.in_ok-event.ensures.event ∙ ap (λ m. item_in rules now (bare_line m)) c.in_ok-kept_object.ensures)
