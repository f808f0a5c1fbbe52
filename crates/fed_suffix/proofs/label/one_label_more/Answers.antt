use Rattle.std.proofs.Common.{◌≡◌, ◌∷◌, drop, Some, None, sym, ap, ◌∙◌, arith}
use Rattle.std.specs.Option.{option_copied}
use Rattle.std.proofs.lemmas.Bool.Decides.{nat_tests}
use Rattle.std.proofs.lemmas.List.{take_rest}
use Rattle.fed_suffix.specs.Label.{labels_of, labels_before}
use Rattle.fed_suffix.proofs.labels.Label.{cut_is, drop-next, short_of}
use Rattle.fed_suffix.proofs.label.one_label_more.Goals as goal

pub returns-in_err-rest : goal.returns-in_err-rest
returns-in_err-rest c =
    let none : option_copied c.last_label.result.before ≡ None = ap option_copied c.in_err-rest.was in
    let only = sym c.loop.invariant ∙ c.last_label.ensures.labels ∙ ap (λ o. c.last_label.result.label.now ∷ labels_before o) none in
    let short = short_of (labels_of c.args.name.now) c.loop.counter c.args.count c.last_label.result.label.now only c.loop-test.true in
    rw c.from_residual.ensures (grind (arith, nat_tests))

pub loop-preserved : goal.loop-preserved
loop-preserved c =
    let some : option_copied c.last_label.result.before ≡ Some c.in_ok-rest.rest.now = ap option_copied c.in_ok-rest.was in
    let next = sym c.loop.invariant ∙ c.last_label.ensures.labels ∙ ap (λ o. c.last_label.result.label.now ∷ labels_before o) some in
    drop-next (labels_of c.args.name.now) c.loop.counter c.last_label.result.label.now (labels_of c.in_ok-rest.rest.now) next

pub slice_bounds-result-count : goal.slice_bounds-result-count
slice_bounds-result-count c =
    let counted : c.loop.counter ≡ c.args.count = omega arith in
    let passed = c.loop.invariant ∙ ap (λ n. drop n (labels_of c.args.name.now)) counted in
    let last = c.last_label-last.result in
    let cut =
    cut_is c.args.name.now c.loop.rest.now last.label.now (option_copied last.before) c.args.count passed
    c.last_label-last.ensures.labels c.last_label-last.ensures.text in
    omega (arith, cut.within)

pub slice_bounds-result-start : goal.slice_bounds-result-start
slice_bounds-result-start c =
    let counted : c.loop.counter ≡ c.args.count = omega arith in
    let passed = c.loop.invariant ∙ ap (λ n. drop n (labels_of c.args.name.now)) counted in
    let last = c.last_label-last.result in
    let cut =
    cut_is c.args.name.now c.loop.rest.now last.label.now (option_copied last.before) c.args.count passed
    c.last_label-last.ensures.labels c.last_label-last.ensures.text in
    omega (arith, cut.within)

pub returns : goal.returns
returns c =
    let counted : c.loop.counter ≡ c.args.count = omega arith in
    let passed = c.loop.invariant ∙ ap (λ n. drop n (labels_of c.args.name.now)) counted in
    let last = c.last_label-last.result in
    let cut =
    cut_is c.args.name.now c.loop.rest.now last.label.now (option_copied last.before) c.args.count passed
    c.last_label-last.ensures.labels c.last_label-last.ensures.text in
    let text = cut.text in
    let enough = cut.enough in
    rw take_rest (grind (arith, nat_tests))
