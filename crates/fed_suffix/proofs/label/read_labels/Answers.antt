use Rattle.std.proofs.Common.{◌++◌, true, option_map, sym, ap, ◌∙◌, subst}
use Rattle.std.specs.Option.{option_copied}
use Rattle.fed_suffix.specs.Label.{labels_before, labels_in, ascii_labels, AddsLabel}
use Rattle.fed_suffix.proofs.labels.Label.{first_added, next_added}
use Rattle.fed_suffix.proofs.label.read_labels.Goals as goal

pub loop-rest-init : goal.loop-rest-init
loop-rest-init c =
    let last = c.last_label-last.result in
    let new = c.push_ascii.new.text.items in
    first_added last.label.now new (labels_before (option_copied last.before))
    (subst (λ old. AddsLabel last.label.now old new true) c.new-labels.ensures.items
    (subst (AddsLabel last.label.now c.new-labels.result.items new) c.if-not-branch.false c.in_ok-push_ascii.ensures))
    ∙ ap ascii_labels (sym c.last_label-last.ensures.labels)

pub loop-rest-preserved : goal.loop-rest-preserved
loop-rest-preserved c =
    let last = c.last_label-last-in-Some.result in
    let old = c.loop-rest.labels.items in
    let new = c.push_ascii-in-Some.new.text.items in
    let split = ap (λ rest. labels_before (option_copied rest)) c.in-Some.is ∙ c.last_label-last-in-Some.ensures.labels in
    next_added last.label.now old new (labels_before (option_copied last.before))
    (subst (λ text. AddsLabel last.label.now text new true) c.in_ok-push.ensures.items
    (subst (AddsLabel last.label.now c.push.new.self.items new) c.if-not-branch-2.false c.in_ok-push_ascii-2.ensures))
    ∙ ap (λ labels. option_map (λ m. labels_in old ++ m) (ascii_labels labels)) (sym split)
    ∙ c.loop-rest.invariant
