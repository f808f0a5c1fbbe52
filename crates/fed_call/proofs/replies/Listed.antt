-- An accounts reply of the only provider, while it is awaited.
use Rattle.std.proofs.Common.{◌≡◌, ℕ, Bool, true, false, List, [], ◌∷◌, Option, Some, None, Result, Ok, Err, refl, sym, subst}
use Rattle.std.specs.Prelude.{unwrap_or}
use Rattle.std.specs.List.{list_any}
use Rattle.url.specs.Parts.{Parts}
use Rattle.fed_origin.specs.declared.origin.Origin.{Origin}
use Rattle.fed_origin.specs.declared.stage.ReplyKind.{ReplyKind}
use Rattle.fed_origin.specs.declared.stage.ReplyKind.TheVariants as kinds
use Rattle.fed_origin.specs.declared.stage.Stage.TheVariants.{Listing}
use Rattle.fed_origin.specs.WebUrl.{origin_of}
use Rattle.fed_provider.specs.declared.config.Config.{Config}
use Rattle.fed_accounts.specs.declared.account.Account.{Account}
use Rattle.fed_accounts.specs.declared.step.AccountsStep.{AccountsStep}
use Rattle.fed_consent.specs.declared.table.failure.Failure.{Failure}
use Rattle.fed_consent.specs.declared.table.input.Input.TheVariants.{Reply}
use Rattle.fed_consent.specs.Failures.{accounts_failure}
use Rattle.fed_consent.specs.Outcomes.{Outcome, is_ignored, only_place}
use Rattle.fed_status.specs.Login.{status_of}
use Rattle.fed_status.specs.Shared.{World}
use Rattle.fed_call.specs.declared.progress.Progress.TheVariants as progress_is
use Rattle.fed_call.specs.declared.stages.At.{At}
use Rattle.fed_call.specs.declared.stages.At.TheVariants as ats
use Rattle.fed_call.specs.Accounts.{Offered, accounts_of}
use Rattle.fed_call.specs.Awaits.{awaits, is_accounts}
use Rattle.fed_call.specs.Begun.{Begun, options_of}
use Rattle.fed_call.specs.Dialogs.{prompt_effect, site_of}
use Rattle.fed_call.specs.Facts.{Facts, Conclusion, Awaits, NoneLeft, Reselects, NoneSilent, Offers, Prompts, at_stage}
use Rattle.fed_call.specs.Facts.{conclusion_of, provider_at, with_came, with_progress}
use Rattle.fed_call.specs.Fits.{fits}
use Rattle.fed_call.specs.Progress.{came_read}
use Rattle.fed_call.specs.Row.{input_facts, stage_reply}
use Rattle.fed_call.specs.SettledRows.{concludes}
use Rattle.fed_call.specs.SingleRows.{by_mismatch, by_window, is_mismatch, single_came}
use Rattle.fed_call.specs.State.{at_facts}
use Rattle.fed_call.specs.WindowRows.{may_sign_in}
use Rattle.fed_call.proofs.replies.First.{awaited_place, only}

-- ---- it is taken

mismatch_taken : (place : ℕ) (site : List ℕ) (failure : Failure) (mismatch : Bool)
    → list_any is_ignored (by_mismatch place site failure mismatch).effects ≡ false
mismatch_taken place site failure true = refl
mismatch_taken place site failure false = refl

window_taken : (place : ℕ) (config : Config) (other : Outcome) (opens : Bool) → list_any is_ignored other.effects ≡ false
    → list_any is_ignored (by_window place (Some config) other opens).effects ≡ false
window_taken place config other true taken = refl
window_taken place config other false taken = taken

prompt_taken : (world : World) (facts : Facts) (offered : Offered) (connected : Bool) (endpoint : Option Parts)
    → is_ignored (prompt_effect world facts offered connected endpoint) ≡ false
prompt_taken world facts offered true endpoint = refl
prompt_taken world facts offered false None = refl
prompt_taken world facts offered false (Some to) = refl

pub conclusion_taken : (world : World) (facts : Facts) (conclusion : Conclusion)
    → list_any is_ignored (concludes world facts conclusion).effects ≡ false
conclusion_taken world facts Awaits = refl
conclusion_taken world facts (NoneLeft failure) = refl
conclusion_taken world facts (Reselects offered) = refl
conclusion_taken world facts NoneSilent = refl
conclusion_taken world facts (Offers offered) = refl
conclusion_taken world facts (Prompts offered) =
    rw (prompt_taken world facts offered offered.candidate.connected offered.config.metadata) refl

accounts_taken : (world : World) (begun : Begun) (config : Config) (provider : Origin) (read : Result (List Account) AccountsStep)
    → list_any is_ignored
    (single_came world (at_facts begun (ats.Listing config)) only_place provider (came_read config read)).effects
    ≡ false
accounts_taken world begun config provider (Err step) =
    let site = site_of world begun.origin in
    let mismatch = is_mismatch begun.mode begun.mediation (status_of world.login provider) in
    window_taken only_place config (by_mismatch only_place site (accounts_failure step) mismatch)
    (may_sign_in begun.mode begun.mediation) (mismatch_taken only_place site (accounts_failure step) mismatch)
accounts_taken world begun config provider (Ok accounts) =
    let facts : Facts = with_progress only_place (progress_is.Listed config accounts) (at_facts begun (ats.Listing config)) in
    conclusion_taken world facts (conclusion_of world facts.origin facts.options facts.progress)

-- ---- what the call does

listing_row : (world : World) (begun : Begun) (config : Config) (place : ℕ) (raw : List ℕ)
    → begun.providers ≡ begun.provider ∷ [] → place ≡ only_place
    → stage_reply world (at_facts begun (ats.Listing config)) Listing place kinds.Accounts raw
    ≡ single_came world (at_facts begun (ats.Listing config)) only_place (origin_of begun.provider.config)
    (came_read config (accounts_of raw begun.provider))
listing_row world begun config place raw one at = rw (at, one) refl

listing_facts : (world : World) (begun : Begun) (config : Config) (place : ℕ) (raw : List ℕ)
    → begun.providers ≡ begun.provider ∷ [] → place ≡ only_place
    → input_facts world (at_facts begun (ats.Listing config)) (Reply place kinds.Accounts raw)
    ≡ at_stage (unwrap_or (single_came world (at_facts begun (ats.Listing config)) only_place (origin_of begun.provider.config)
    (came_read config (accounts_of raw begun.provider))).stage Listing)
    (with_came world only_place (came_read config (accounts_of raw begun.provider)) (at_facts begun (ats.Listing config)))
listing_facts world begun config place raw one at =
    rw (listing_row world begun config place raw one at)
    (rw (accounts_taken world begun config (origin_of begun.provider.config) (accounts_of raw begun.provider)) (rw (at, one) refl))

accounts_facts : (world : World) (begun : Begun) (config : Config) (place : ℕ) (kind : ReplyKind) (raw : List ℕ)
    → begun.providers ≡ begun.provider ∷ [] → place ≡ only_place → is_accounts kind ≡ true
    → input_facts world (at_facts begun (ats.Listing config)) (Reply place kind raw)
    ≡ at_stage (unwrap_or (single_came world (at_facts begun (ats.Listing config)) only_place (origin_of begun.provider.config)
    (came_read config (accounts_of raw begun.provider))).stage Listing)
    (with_came world only_place (came_read config (accounts_of raw begun.provider)) (at_facts begun (ats.Listing config)))
accounts_facts world begun config place kinds.Accounts raw one at is = listing_facts world begun config place raw one at
accounts_facts world begun config place kinds.WellKnown raw one at is = absurd (cc)
accounts_facts world begun config place kinds.Config raw one at is = absurd (cc)
accounts_facts world begun config place kinds.Metadata raw one at is = absurd (cc)
accounts_facts world begun config place kinds.Assertion raw one at is = absurd (cc)
accounts_facts world begun config place kinds.Disconnect raw one at is = absurd (cc)

-- ---- by the stage

pub listed_facts : (world : World) (begun : Begun) (at : At) (config : Config) (place : ℕ) (kind : ReplyKind) (raw : List ℕ)
    → at ≡ ats.Listing config → fits begun at ≡ true → provider_at begun.place (options_of begun) ≡ Some begun.provider
    → awaits begun at place kind ≡ true
    → input_facts world (at_facts begun at) (Reply place kind raw)
    ≡ at_stage (unwrap_or (single_came world (at_facts begun (ats.Listing config)) only_place (origin_of begun.provider.config)
    (came_read config (accounts_of raw begun.provider))).stage Listing)
    (with_came world only_place (came_read config (accounts_of raw begun.provider)) (at_facts begun (ats.Listing config)))
listed_facts world begun at config place kind raw is fit about waits =
    let one = only begun (subst (λ a. fits begun a ≡ true) is fit) about in
    let here = awaited_place begun place (is_accounts kind) one (subst (λ a. awaits begun a place kind ≡ true) is waits) in
    subst (λ a. input_facts world (at_facts begun a) (Reply place kind raw)
    ≡ at_stage (unwrap_or (single_came world (at_facts begun (ats.Listing config)) only_place (origin_of begun.provider.config)
    (came_read config (accounts_of raw begun.provider))).stage Listing)
    (with_came world only_place (came_read config (accounts_of raw begun.provider)) (at_facts begun (ats.Listing config))))
    (sym is) (accounts_facts world begun config place kind raw one here.1 here.0)
