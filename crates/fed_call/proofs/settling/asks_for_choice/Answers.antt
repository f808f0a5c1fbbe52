use Rattle.std.proofs.Common.{◌≡◌, ◌∙◌, ◌∷◌, [], ap}
use Rattle.fed_status.specs.Shared.{world_of}
use Rattle.fed_call.proofs.shortlists.Settled.{choice_effects, choice_facts}
use Rattle.fed_call.proofs.settling.asks_for_choice.Goals as goal

pub returns-clause-effect : goal.returns-clause-effect
returns-clause-effect c =
    let same : c.offers.result.now ≡ c.args.offers = c.offers.ensures.value ∙ ap (λ chooser. chooser.offers) c.new-chooser.ensures in
    ap (λ e. e ∷ []) (rw same at c.in_ok-effect.ensures)
    ∙ choice_effects (world_of c.args.shared.now) c.args.begun c.args.configs c.args.offers c.requires.known c.requires.several

pub returns-clause-state : goal.returns-clause-state
returns-clause-state c =
    rw (c.in_ok-new.ensures, c.new-chooser.ensures, c.call.ensures) at c.pending.ensures
    ∙ choice_facts c.args.begun c.args.configs c.args.offers c.requires.known c.requires.several
