use Rattle.std.proofs.Common.{◌+◌, drop, map}
use Rattle.fed_profile.proofs.read.Walks.{begins, next, one_more, gets_lost, ends}
use Rattle.fed_profile.proofs.walk.write_each.Goals as goal

pub loop-item-init : goal.loop-item-init
loop-item-init g c =
    begins c.args.rules.now c.args.now (map g.I.Lined.item c.args.items.now) c.args.from c.args.text.now.items

pub loop-item-preserved : goal.loop-item-preserved
loop-item-preserved g c =
    let rules = c.args.rules.now in
    let now = c.args.now in
    let xs = c.args.items.now in
    let x = c.item-item.result in
    let i = c.loop-item.item-index in
    one_more rules now _ (map g.I.Lined.item xs) (map g.I.Lined.item (drop (i + 1) xs)) c.args.from c.args.text.now.items _ _ _ _
    (next rules now g.I.Lined.item xs i x (map g.I.Lined.item xs) c.args.from c.args.text.now.items _ _ c.loop-item-test.true c.item-item.is
    c.loop-item.invariant)
    (c.in_ok-same.ensures.restores.0 c.if-not-same.false) c.in_ok-same.ensures.text c.in_ok-next.ensures

pub returns-then-not-same : goal.returns-then-not-same
returns-then-not-same g c =
    let rules = c.args.rules.now in
    let now = c.args.now in
    let xs = c.args.items.now in
    let x = c.item-item.result in
    let i = c.loop-item.item-index in
    gets_lost rules now _ (map g.I.Lined.item xs) (map g.I.Lined.item (drop (i + 1) xs)) c.args.from c.args.text.now.items _ c.args.text.now.items _
    (next rules now g.I.Lined.item xs i x (map g.I.Lined.item xs) c.args.from c.args.text.now.items _ _ c.loop-item-test.true c.item-item.is
    c.loop-item.invariant)
    (λ r. let yes = c.in_ok-same.ensures.restores.1 r in let bad = c.if-not-same.true in absurd (cc))

pub returns : goal.returns
returns g c =
    ends c.args.rules.now c.args.now g.I.Lined.item c.args.items.now c.loop-item.item-index (map g.I.Lined.item c.args.items.now)
    c.args.from c.args.text.now.items _ _ c.loop-item-test.false c.loop-item.invariant
