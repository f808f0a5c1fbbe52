use Rattle.std.proofs.Common.{ap, ◌∙◌}
use Rattle.std.specs.FinSet as set
use Rattle.std.specs.Option.{option_copied}
use Rattle.std.proofs.lemmas.Result.{on_ok_weaker}
use Rattle.fed_suffix.specs.Label.{labels_in, labels_after}
use Rattle.fed_suffix.specs.Rule.{RuleSet}
use Rattle.fed_suffix.proofs.nodes.Opened.{insert-below, fits-after}
use Rattle.fed_suffix.proofs.insertion.insert.Goals as goal

pub close_all-requires : goal.close_all-requires
close_all-requires c =
    fits-after c.add_rest-added.result c.in-Ok.way.above.items c.in-Ok.way.node c.add_rest-added.new.self
    (labels_after (option_copied c.in-Ok.way.rest), c.args.exception) c.add_rest-added.ensures.ok c.add_rest-added.ensures.err
    c.in-Ok.ensures.ok.used

pub returns-in-Ok-clause-ok : goal.returns-in-Ok-clause-ok
returns-in-Ok-clause-ok c =
    let way = c.in-Ok.way in
    let labels = labels_in c.args.labels.now in
    on_ok_weaker c.add_rest-added.result
    (λ grown. c.close_all.ensures
    ∙ insert-below labels c.replace-whole.result way.above.items way.node c.add_rest-added.new.self
    (labels_after (option_copied way.rest)) c.args.exception c.in-Ok.ensures.ok grown
    ∙ ap (λ (all : RuleSet). set.insert all (labels, c.args.exception)) c.replace-whole.ensures.value)
    c.add_rest-added.ensures.ok
