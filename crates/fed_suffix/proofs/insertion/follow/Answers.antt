use Rattle.std.proofs.Common.{◌++◌, List, ◌∷◌, [], ap, ◌∙◌}
use Rattle.std.specs.Option.{option_copied}
use Rattle.fed_suffix.specs.Label.{labels_in, labels_after}
use Rattle.fed_suffix.specs.Opened.{Opened, all_closed, fits, goes_nowhere}
use Rattle.fed_suffix.proofs.nodes.Opened.{leads-none, leads-as, leads-on, nowhere-here}
use Rattle.fed_suffix.proofs.insertion.follow.Goals as goal

pub loop-rest-init : goal.loop-rest-init
loop-rest-init c = leads-none (labels_in c.args.labels.now) c.args.whole c.new-above.result.items c.new-above.ensures.items

pub close_all-requires : goal.close_all-requires
close_all-requires c =
    ap (λ (above : List Opened). fits above c.loop-rest.node) c.reserve.ensures.items ∙ c.loop-rest.invariant.used

pub returns-in_default-reserve-clause-err : goal.returns-in_default-reserve-clause-err
returns-in_default-reserve-clause-err c =
    c.close_all.ensures ∙ ap (λ (above : List Opened). all_closed above c.loop-rest.node) c.reserve.ensures.items
    ∙ c.loop-rest.invariant.same

pub returns-in-Err-clause-ok : goal.returns-in-Err-clause-ok
returns-in-Err-clause-ok c =
    leads-as (labels_in c.args.labels.now) c.args.whole c.loop-rest.above.items c.reserve.new.self.items c.loop-rest.node c.in-Err.same
    (labels_after (option_copied c.loop-rest.rest)) c.loop-rest.invariant c.reserve.ensures.items c.in-Err.ensures.err

pub returns-in-Err-clause-ok_end : goal.returns-in-Err-clause-ok_end
returns-in-Err-clause-ok_end c =
    let first = c.first_label-first.result in
    ap (λ node. goes_nowhere node (labels_after (option_copied c.loop-rest.rest))) c.in-Err.ensures.err
    ∙ nowhere-here first.label.now c.loop-rest.node (labels_after (option_copied c.loop-rest.rest))
    (labels_after (option_copied first.after))
    (ap (λ rest. labels_after (option_copied rest)) c.in-Some.is ∙ c.first_label-first.ensures) c.in-Err.ensures.err_absent

pub loop-rest-preserved : goal.loop-rest-preserved
loop-rest-preserved c =
    let first = c.first_label-first.result in
    let opened = c.in-Ok-open.opened in
    leads-on (labels_in c.args.labels.now) c.args.whole c.loop-rest.above.items c.push_reserved.new.self.items c.loop-rest.node
    c.in-Ok-open.below first.label.now opened (labels_after (option_copied c.loop-rest.rest)) (labels_after (option_copied first.after))
    c.loop-rest.invariant (ap (λ rest. labels_after (option_copied rest)) c.in-Some.is ∙ c.first_label-first.ensures)
    c.in-Ok-open.ensures.ok
    (c.push_reserved.ensures.items ∙ ap (λ (a : List Opened). a ++ opened ∷ []) c.reserve.ensures.items)

pub returns-clause-ok : goal.returns-clause-ok
returns-clause-ok c = c.loop-rest.invariant
