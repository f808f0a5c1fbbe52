use Rattle.std.proofs.Common.{length, ap, sym, ◌∙◌}
use Rattle.std.proofs.lemmas.Bool.{eqb-true}
use Rattle.tests_calls.proofs.choices.Several.{several_picks}
use Rattle.tests_calls.proofs.consent.are_several.Goals as goal

pub returns-then-offers-gt0 : goal.returns-then-offers-gt0
returns-then-offers-gt0 c = λ two.
    several_picks 1 c.args.offers.now c.index-offers-0.result c.requires c.if-offers-gt0.true
    (ap (λ xs. length xs) (sym c.list.ensures.value) ∙ eqb-true (length c.list.result.now) 2 two)
