use Rattle.std.proofs.Common.{◌++◌, sym, ap, ap₂, ◌∙◌}
use Rattle.std.specs.Option.{option_copied}
use Rattle.fed_print.specs.Lines.{line_of}
use Rattle.fed_profile.specs.Item.{item_in}
use Rattle.fed_profile.specs.Lines.{bare_line, cookie_members}
use Rattle.fed_profile.proofs.read.Items.{cookie_iff, told_of_line}
use Rattle.fed_profile.proofs.walk.write_cookie.Goals as goal

pub returns-clause-text : goal.returns-clause-text
returns-clause-text c =
    c.in_ok-event.ensures.text
    ∙ ap (λ m. c.args.text.now.items ++ line_of m)
    (c.in_ok-object.ensures
    ∙ ap₂ cookie_members (c.as_slice.ensures ∙ c.in_ok-field.ensures) (c.as_slice-2.ensures ∙ c.in_ok-url.ensures))

pub returns-clause-restores : goal.returns-clause-restores
returns-clause-restores c =
    let rules = c.args.rules.now in
    let now = c.args.now in
    told_of_line _ _ _ c.in_ok-same.ensures
    (cookie_iff rules now c.args.cookie.now c.in_ok-event.event (option_copied c.have_in.result) (sym c.have_in.ensures))
    (c.in_ok-event.ensures.event
    ∙ ap (λ m. item_in rules now (bare_line m))
    (c.in_ok-object.ensures
    ∙ ap₂ cookie_members (c.as_slice.ensures ∙ c.in_ok-field.ensures) (c.as_slice-2.ensures ∙ c.in_ok-url.ensures)))
