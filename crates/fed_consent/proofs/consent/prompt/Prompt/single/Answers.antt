use Rattle.std.proofs.Common.{◌∷◌, [], sym, ap, ◌∙◌}
use Rattle.fed_consent.proofs.choice.Taken.{pick_alone}
use Rattle.fed_consent.proofs.consent.prompt.Prompt.single.Goals as goal

pub returns-clause-pick : goal.returns-clause-pick
returns-clause-pick c =
    pick_alone c.args.call c.args.offer c.take.result c.connects-connected.result c.requires.one c.requires.kept c.take.ensures
    c.connects-connected.ensures
    ∙ sym (ap (λ p. p ∷ []) c.new.ensures)
