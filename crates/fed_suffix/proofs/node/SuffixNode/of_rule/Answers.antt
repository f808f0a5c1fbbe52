use Rattle.std.proofs.Common.{[], ◌∷◌, ◌++◌, append-nil, append_assoc, sym, ap, ◌∙◌}
use Rattle.std.specs.FinSet as set
use Rattle.std.specs.Option.{option_copied}
use Rattle.fed_suffix.specs.Label.{labels_after}
use Rattle.fed_suffix.specs.Node.{has_rules}
use Rattle.fed_suffix.proofs.labels.Label.{labels_in-last}
use Rattle.fed_suffix.proofs.nodes.Node.{has_rules-insert}
use Rattle.fed_suffix.proofs.node.SuffixNode.of_rule.Goals as goal

pub loop-left-init : goal.loop-left-init
loop-left-init c =
    ([], append-nil _, c.set_end.ensures ∙ ap (λ rules. set.insert rules ([], c.args.exception)) c.new-node.ensures)

pub under-requires : goal.under-requires
under-requires c =
    let done = c.loop-left.invariant.0 in
    ap has_rules c.loop-left.invariant.2 ∙ has_rules-insert set.empty (done, c.args.exception)

pub loop-left-preserved : goal.loop-left-preserved
loop-left-preserved c =
    let done = c.loop-left.invariant.0 in
    let last = c.last_label-last.result in
    let before = labels_after (option_copied last.before) in
    let labels = labels_in-last c.in-Some.text.now last.label.now (option_copied last.before) c.last_label-last.ensures.labels in (
      last.label.now ∷ done,
      sym (append_assoc before (last.label.now ∷ []) done)
          ∙ ap (λ ls. ls ++ done) (sym labels)
          ∙ ap (λ left. labels_after (option_copied left) ++ done) (sym c.in-Some.is)
          ∙ c.loop-left.invariant.1,
      c.in_ok-node.ensures done c.args.exception c.loop-left.invariant.2,
    )
