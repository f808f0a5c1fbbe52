use Rattle.std.proofs.Common.{◌∙◌, ◌∷◌, [], ap}
use Rattle.fed_origin.specs.declared.stage.Stage.TheVariants as stages
use Rattle.fed_status.specs.Shared.{world_of}
use Rattle.fed_call.specs.Dialogs.{prompt_effect}
use Rattle.fed_call.specs.State.{begun_facts, offered_in}
use Rattle.fed_call.proofs.shortlists.Settled.{asked_about, only_one, prompt_facts, waits_of}
use Rattle.fed_call.proofs.settling.asks_about.Goals as goal

pub returns-clause-effect : goal.returns-clause-effect
returns-clause-effect c =
    let one = only_one _ c.args.offer c.single-prompt.result.pick c.single-prompt.ensures.pick in
    rw (asked_about c.args.begun.providers c.args.configs c.args.offer c.about-begun.result.provider c.take-config.result
    c.single-prompt.result.pick.candidate c.about-begun.ensures.provider c.take-config.ensures one)
    (ap (λ e. e ∷ []) (c.in_ok-effect.ensures
    ∙ ap (λ b. prompt_effect (world_of c.args.shared.now) (begun_facts b stages.Reading [])
    (offered_in b c.take-config.result c.single-prompt.result.pick.candidate) c.single-prompt.result.pick.candidate.connected
    c.take-config.result.metadata)
    c.about-begun.ensures.value))

pub returns-clause-state : goal.returns-clause-state
returns-clause-state c =
    let one = only_one _ c.args.offer c.single-prompt.result.pick c.single-prompt.ensures.pick in
    let waits = c.single-prompt.ensures.waits
    ∙ waits_of c.args.offer c.take-config.result.metadata c.single-prompt.result.pick.candidate _ one c.needs_metadata-waits.ensures in
    rw (asked_about c.args.begun.providers c.args.configs c.args.offer c.about-begun.result.provider c.take-config.result
    c.single-prompt.result.pick.candidate c.about-begun.ensures.provider c.take-config.ensures one)
    (rw c.in_ok-new.ensures at c.pending.ensures
    ∙ prompt_facts c.args.begun c.about-begun.result c.args.offer.provider c.take-config.result c.single-prompt.result
    c.about-begun.ensures.value waits)
