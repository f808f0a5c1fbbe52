-- What a call does where its providers are settled hangs on how it began and on what it comes to alone.
use Rattle.std.proofs.Common.{◌≡◌, Bool, true, false, List, [], ◌∷◌, Option, Some, None, refl, ap}
use Rattle.std.specs.Prelude.{unwrap_or}
use Rattle.url.specs.Parts.{Parts}
use Rattle.fed_origin.specs.declared.stage.Stage.{Stage}
use Rattle.fed_origin.specs.declared.stage.Stage.TheVariants as stages
use Rattle.fed_status.specs.Shared.{World}
use Rattle.fed_consent.specs.declared.table.effect.Effect.{Effect}
use Rattle.fed_call.specs.declared.progress.Progress.{Progress}
use Rattle.fed_call.specs.Accounts.{Offered}
use Rattle.fed_call.specs.Begun.{Begun}
use Rattle.fed_call.specs.Dialogs.{prompt_effect}
use Rattle.fed_call.specs.Facts.{Conclusion, Awaits, NoneLeft, Reselects, NoneSilent, Offers, Prompts, at_stage, with_conclusion}
use Rattle.fed_call.specs.SettledRows.{concludes}
use Rattle.fed_call.specs.Settling.{settled_effects, settled_facts}
use Rattle.fed_call.specs.State.{begun_facts}

same_prompt : (world : World) (begun : Begun) (stage : Stage) (progress : List Progress) (offered : Offered) (connected : Bool)
    (endpoint : Option Parts)
    → prompt_effect world (begun_facts begun stages.Reading []) offered connected endpoint
    ≡ prompt_effect world (begun_facts begun stage progress) offered connected endpoint
same_prompt world begun stage progress offered true endpoint = refl
same_prompt world begun stage progress offered false None = refl
same_prompt world begun stage progress offered false (Some to) = refl

pub settled_row : (world : World) (begun : Begun) (stage : Stage) (progress : List Progress) (conclusion : Conclusion)
    → settled_effects world begun conclusion ≡ (concludes world (begun_facts begun stage progress) conclusion).effects
settled_row world begun stage progress Awaits = refl
settled_row world begun stage progress (NoneLeft failure) = refl
settled_row world begun stage progress (Reselects offered) = refl
settled_row world begun stage progress NoneSilent = refl
settled_row world begun stage progress (Offers offered) = refl
settled_row world begun stage progress (Prompts offered) =
    ap (λ e. e ∷ []) (same_prompt world begun stage progress offered offered.candidate.connected offered.config.metadata)

-- where it does something, and so no provider is awaited
pub settled_state : (world : World) (begun : Begun) (stage : Stage) (progress : List Progress) (conclusion : Conclusion) (effect : Effect)
    → effect ∷ [] ≡ settled_effects world begun conclusion
    → settled_facts begun conclusion
    ≡ at_stage (unwrap_or (concludes world (begun_facts begun stage progress) conclusion).stage stage)
    (with_conclusion conclusion (begun_facts begun stage progress))
settled_state world begun stage progress Awaits effect e = absurd (cc)
settled_state world begun stage progress (NoneLeft failure) effect e = refl
settled_state world begun stage progress (Reselects offered) effect e = refl
settled_state world begun stage progress NoneSilent effect e = refl
settled_state world begun stage progress (Offers offered) effect e = refl
settled_state world begun stage progress (Prompts offered) effect e = refl
