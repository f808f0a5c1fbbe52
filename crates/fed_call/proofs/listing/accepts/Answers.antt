use Rattle.std.proofs.Common.{◌≡◌, ◌∙◌, ◌∷◌, [], Some, ap}
use Rattle.fed_origin.specs.declared.stage.Stage.TheVariants.{Listing}
use Rattle.fed_origin.specs.declared.status.LoginStatus.TheVariants.{LoggedIn}
use Rattle.fed_origin.specs.WebUrl.{origin_of}
use Rattle.fed_status.specs.Shared.{world_of}
use Rattle.fed_consent.specs.declared.table.effect.Effect.TheVariants.{SetLogin}
use Rattle.fed_call.specs.declared.progress.Progress.TheVariants.{Listed}
use Rattle.fed_call.specs.Begun.{options_of}
use Rattle.fed_call.specs.Facts.{conclusion_of}
use Rattle.fed_call.specs.Settling.{settled_effects, settled_facts, settling}
use Rattle.fed_call.proofs.shortlists.Single.{single_concluded}
use Rattle.fed_call.proofs.table.Settles.{settled_row, settled_state}
use Rattle.fed_call.proofs.listing.accepts.Goals as goal

comes : (c : goal.In_ok-effects)
    → settling (world_of c.args.shared.now) c.args.begun c.one-configs.result c.one.result
    ≡ conclusion_of (world_of c.args.shared.now) c.args.begun.origin (options_of c.args.begun) (Listed c.args.config c.args.accounts ∷ [])
comes c =
    ap (λ configs. settling (world_of c.args.shared.now) c.args.begun configs c.one.result) c.one-configs.ensures
    ∙ (ap (λ offers. settling (world_of c.args.shared.now) c.args.begun (Some c.args.config ∷ []) offers) c.one.ensures
    ∙ single_concluded (world_of c.args.shared.now) c.args.begun c.args.config c.args.accounts c.in_ok-offer.offer c.requires
    (rw c.requires at c.in_ok-offer.ensures.value) c.in_ok-offer.ensures.whole c.in_ok-offer.ensures.some)

does : (c : goal.In_ok-effects)
    → c.in_ok-state.effect ∷ []
    ≡ settled_effects (world_of c.args.shared.now) c.args.begun
    (conclusion_of (world_of c.args.shared.now) c.args.begun.origin (options_of c.args.begun) (Listed c.args.config c.args.accounts ∷ []))
does c =
    c.in_ok-state.ensures.effect
    ∙ ap (λ conclusion. settled_effects (world_of c.args.shared.now) c.args.begun conclusion) (comes c)

pub returns-clause-effects : goal.returns-clause-effects
returns-clause-effects c =
    let provider : c.in_ok-provider.provider ≡ origin_of c.args.begun.provider.config =
    c.in_ok-provider.ensures ∙ c.provider_origin.ensures in
    c.in_ok-effects.ensures
    ∙ (ap (λ o. SetLogin o LoggedIn ∷ c.in_ok-state.effect ∷ []) provider
    ∙ ap (λ effects. SetLogin (origin_of c.args.begun.provider.config) LoggedIn ∷ effects)
    (does c ∙ settled_row (world_of c.args.shared.now) c.args.begun Listing (Listed c.args.config c.args.accounts ∷ [])
    (conclusion_of (world_of c.args.shared.now) c.args.begun.origin (options_of c.args.begun)
    (Listed c.args.config c.args.accounts ∷ []))))

pub returns-clause-state : goal.returns-clause-state
returns-clause-state c =
    c.in_ok-state.ensures.state
    ∙ (ap (λ conclusion. settled_facts c.args.begun conclusion) (comes c)
    ∙ settled_state (world_of c.args.shared.now) c.args.begun Listing (Listed c.args.config c.args.accounts ∷ [])
    (conclusion_of (world_of c.args.shared.now) c.args.begun.origin (options_of c.args.begun) (Listed c.args.config c.args.accounts ∷ []))
    c.in_ok-state.effect (does c))
