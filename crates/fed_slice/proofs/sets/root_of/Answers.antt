use Rattle.std.proofs.Common.{◌∙◌}
use Rattle.fed_slice.proofs.joined.Sets.{begin, halve, reads_same}
use Rattle.fed_slice.proofs.sets.root_of.Goals as goal

pub loop-at-init : goal.loop-at-init
loop-at-init c = begin c.args.parents.now.items c.args.number c.requires.within c.requires.parents

pub loop-at-smaller : goal.loop-at-smaller
loop-at-smaller c =
    (halve c.args.parents.now.items c.loop-at.parents.items c.args.number c.loop-at.at c.index-above.result.now c.index-next.result.now
    c.loop-at.invariant c.index-above.ensures c.index-next.ensures
    (λ same. c.loop-at-test.true
    (reads_same c.loop-at.parents.items c.loop-at.at c.index.result.now c.index-above.result.now c.loop-at.invariant.within c.index.ensures
    c.index-above.ensures ∙ same))).smaller

pub loop-at-preserved : goal.loop-at-preserved
loop-at-preserved c =
    (halve c.args.parents.now.items c.loop-at.parents.items c.args.number c.loop-at.at c.index-above.result.now c.index-next.result.now
    c.loop-at.invariant c.index-above.ensures c.index-next.ensures
    (λ same. c.loop-at-test.true
    (reads_same c.loop-at.parents.items c.loop-at.at c.index.result.now c.index-above.result.now c.loop-at.invariant.within c.index.ensures
    c.index-above.ensures ∙ same))).halves

pub returns-clause-one : goal.returns-clause-one
returns-clause-one c = λ test r. c.loop-at.invariant.one test (c.loop-at.invariant.sets.less test r)
