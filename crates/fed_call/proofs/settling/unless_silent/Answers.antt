use Rattle.std.proofs.Common.{◌∙◌, ◌∷◌, [], sym, ap}
use Rattle.fed_status.specs.Shared.{world_of}
use Rattle.fed_consent.specs.declared.table.effect.Effect.TheVariants.{Finish}
use Rattle.fed_consent.specs.declared.table.finish.Finish.TheVariants.{Failed}
use Rattle.fed_call.specs.Settling.{settled_effects}
use Rattle.fed_call.proofs.shortlists.Settled.{silent}
use Rattle.fed_call.proofs.settling.unless_silent.Goals as goal

pub returns-in-Silent-clause-effect : goal.returns-in-Silent-clause-effect
returns-in-Silent-clause-effect c =
    ap (λ failure. Finish (Failed failure) ∷ []) c.plain-failure.ensures
    ∙ ap (λ conclusion. settled_effects (world_of c.args.shared.now) c.args.begun conclusion)
    (silent c.args.begun.providers c.args.configs c.args.offers c.args.begun.mediation (sym c.mediation.ensures ∙ c.in-Silent.is)
    c.requires.some c.requires.known c.requires.whole)
