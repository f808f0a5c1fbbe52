use Rattle.std.proofs.Common.{◌++◌, sym, ap₂, subst, ◌∙◌}
use Rattle.fed_print.specs.Lines.{line_of}
use Rattle.fed_profile.specs.declared.state.Saved.TheVariants.{Lines}
use Rattle.fed_profile.specs.Lines.{header_members}
use Rattle.fed_profile.specs.Save.{Saves, items_of}
use Rattle.fed_profile.specs.Walk.{Walked}
use Rattle.fed_profile.proofs.read.Saves.{saves_none, saves_item, saves_lines}
use Rattle.fed_profile.proofs.state.save_items.Goals as goal

pub returns-then-not-same : goal.returns-then-not-same
returns-then-not-same c =
    saves_none c.args.view.now c.args.rules.now c.requires.none
    (λ h. let yes = c.in_ok-same.ensures.restores.1 h in let bad = c.if-not-same.true in absurd (cc))

pub returns-in-On : goal.returns-in-On
returns-in-On c =
    let view = c.args.view.now in
    let rules = c.args.rules.now in
    let old = c.write_header.new.text.items in
    let new = c.write_items.new.text.items in
    let walked = subst (Walked rules view.now (items_of view) 1 old new) c.in-On.is c.in_ok-write_items.ensures in
    subst (λ text. Saves view rules (Lines text)) (sym c.from_vec.ensures)
    (saves_lines view rules c.requires.none (c.in_ok-same.ensures.restores.0 c.if-not-same.false) old new
    (c.in_ok-same.ensures.text
    ∙ ap₂ (λ l t. l ++ line_of (header_members view.now t)) c.new-lines.ensures.items c.requires.text) walked.0)

pub returns-in-Lost : goal.returns-in-Lost
returns-in-Lost c =
    let view = c.args.view.now in
    let rules = c.args.rules.now in
    let old = c.write_header.new.text.items in
    let new = c.write_items.new.text.items in
    let walked = subst (Walked rules view.now (items_of view) 1 old new) c.in-Lost.is c.in_ok-write_items.ensures in
    saves_item view rules c.requires.none (c.in_ok-same.ensures.restores.0 c.if-not-same.false) c.in-Lost.place walked.0 walked.1 walked.2
