use Rattle.std.proofs.Common.{◌++◌, ◌+◌, ◌∙◌, drop, ap, sym}
use Rattle.fed_check.specs.Check.{read_over}
use Rattle.fed_check.proofs.checks.Names.{items_all, item_one, item_next, item_none}
use Rattle.fed_check.proofs.unread.note_providers.Goals as goal

pub loop-provider-preserved : goal.loop-provider-preserved
loop-provider-preserved c =
    let n = c.args.number in
    let before = c.loop-provider.found in
    c.loop-provider.invariant
    ∙ item_next n before c.args.providers.now c.loop-provider.provider-index c.provider-item.result c.loop-provider-test.true
    ∙ ap (λ l. l ++ read_over n (items_all (drop (c.loop-provider.provider-index + 1) c.args.providers.now)))
    (ap (λ v. before ++ read_over n (item_one v)) (sym c.provider-item.is) ∙ sym c.in_ok-note_provider.ensures)

pub returns : goal.returns
returns c =
    sym (c.loop-provider.invariant
    ∙ item_none c.args.number c.loop-provider.found c.args.providers.now c.loop-provider.provider-index c.loop-provider-test.false)
