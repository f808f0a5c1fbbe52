use Rattle.std.proofs.Common.{◌+◌, ◌∙◌, refl, sym, subst, ap, arith}
use Rattle.std.specs.Prelude.{slice_index_or}
use Rattle.fed_slice.specs.Sets.{told_by}
use Rattle.fed_slice.proofs.joined.Sets.{SetsSoFar, told_more, all_told}
use Rattle.fed_slice.proofs.sets.set_of.Goals as goal

pub loop-number-preserved : goal.loop-number-preserved
loop-number-preserved c =
    let above = slice_index_or c.args.parents.now c.loop-number.number 0 in
    subst (SetsSoFar c.args.parents.now c.args.root (c.loop-number.number + 1)) (sym c.in_ok-push.ensures.items)
    (told_more c.args.parents.now c.args.root c.requires.parents c.requires.root c.loop-number.number above c.loop-number.inside.items
    c.is_inside.result c.loop-number.invariant c.loop-number-test.true refl
    (c.is_inside.ensures ∙ ap (λ l. told_by l above c.loop-number.number c.args.root) c.as_slice.ensures.value))

pub returns : goal.returns
returns c =
    let test = c.loop-number-test.false in
    let within = c.loop-number.invariant.within in
    all_told c.args.parents.now c.args.root c.loop-number.number c.loop-number.inside.items c.loop-number.invariant
    (omega (arith, test, within))
    c.requires.within
