-- The rows of a call with several providers, until all are settled.
use Rattle.std.specs.Prelude.{ℕ, suc, Bool, true, false, ◌||◌, bytes_eq, List, [], ◌∷◌, ◌++◌, map, Some, unwrap_or, Result, Ok, Err}
use Rattle.std.specs.List.{list_any}
use Rattle.url.specs.Parts.{Parts, serialize}
use Rattle.fed_origin.specs.declared.origin.Origin.{Origin}
use Rattle.fed_origin.specs.declared.options.GetOptions.{GetOptions}
use Rattle.fed_origin.specs.declared.options.Mode.{Mode}
use Rattle.fed_origin.specs.declared.options.Mode.TheVariants.{Passive, Active}
use Rattle.fed_origin.specs.declared.options.ProviderOptions.{ProviderOptions}
use Rattle.fed_origin.specs.declared.stage.Stage.TheVariants as stages
use Rattle.fed_origin.specs.declared.status.LoginStatus.TheVariants.{LoggedIn, LoggedOut}
use Rattle.fed_status.specs.Flags.{has_flag}
use Rattle.fed_status.specs.Shared.{World}
use Rattle.fed_consent.specs.declared.table.ask.Ask.TheVariants.{Accounts}
use Rattle.fed_consent.specs.declared.table.effect.Effect.{Effect}
use Rattle.fed_consent.specs.declared.table.effect.Effect.TheVariants.{Send, SetLogin, Dropped}
use Rattle.fed_consent.specs.declared.table.failure.FailStep.TheVariants as steps
use Rattle.fed_consent.specs.declared.table.why.Why.TheVariants.{NotWaited}
use Rattle.fed_consent.specs.Failures.{plain}
use Rattle.fed_consent.specs.Outcomes.{Outcome, fails, ignored, stays, stays_with, after}
use Rattle.fed_call.specs.declared.progress.Progress.TheVariants as progress_is
use Rattle.fed_call.specs.Facts.{Facts, with_progress, Conclusion, NoneLeft, conclusion_of}
use Rattle.fed_call.specs.Progress.{Came, Unawaited, Refused, Waits, Both, NoneFits, Fit, Closed, step_of, opening, first_progress}
use Rattle.fed_call.specs.ReadingRows.{first_requests, is_prevented}
use Rattle.fed_call.specs.SettledRows.{settles}

-- ---- a get

-- some URL is twice among these
abbrev pub has_twice : List (List ℕ) → Bool
has_twice [] = false
has_twice (url ∷ urls) = list_any (bytes_eq url) urls || has_twice urls

-- two providers have one configuration URL
abbrev pub is_twice : GetOptions → Bool
is_twice options = has_twice (map (λ p. serialize p.config) options.providers)

abbrev pub is_active : Mode → Bool
is_active Active = true
is_active Passive = false

-- what is done first for a provider: it drops out, or its files are asked for
abbrev pub opens : ℕ → Parts → Result Parts Closed → List Effect
opens place config (Err closed) = Dropped place (plain (step_of closed)) ∷ []
opens place config (Ok wellknown) = first_requests place config wellknown

-- the same for each, where the first has the place n
abbrev pub opens_from : World → Mode → ℕ → List ProviderOptions → List Effect
opens_from world mode n [] = []
opens_from world mode n (provider ∷ providers) =
    opens n provider.config (opening world mode provider) ++ opens_from world mode (suc n) providers

-- these effects in front, and the call gathers what its providers say, unless it is over
abbrev pub gathers : List Effect → Outcome → Outcome
gathers first outcome = record { effects = first ++ outcome.effects; stage = Some (unwrap_or outcome.stage stages.Gathering) }

-- what settling gives as a call begins, where there is no account yet: M10, or nothing
abbrev pub first_settles : Conclusion → Outcome
first_settles (NoneLeft failure) = fails failure
first_settles _ = stays

-- M4: for each provider in order, and then settle
abbrev pub start_all : World → Origin → GetOptions → Outcome
start_all world origin options =
    gathers (opens_from world options.mode 0 options.providers)
    (first_settles (conclusion_of world origin options (map (first_progress world options.mode) options.providers)))

-- M3: by whether silent access is prevented
abbrev pub by_prevented : World → Origin → GetOptions → Bool → Outcome
by_prevented world origin options true = fails (plain steps.SilentPrevented)
by_prevented world origin options false = start_all world origin options

-- M2: by whether two configuration URLs are the same
abbrev pub by_twice : World → Origin → GetOptions → Bool → Outcome
by_twice world origin options true = fails (plain steps.ProviderTwice)
by_twice world origin options false =
    by_prevented world origin options (is_prevented options.mediation (has_flag world.flags origin))

-- M1: by whether the call is active
abbrev pub by_active : World → Origin → GetOptions → Bool → Outcome
by_active world origin options true = fails (plain steps.ActiveMany)
by_active world origin options false = by_twice world origin options (is_twice options)

-- a get of a page of this origin with several providers that no earlier row fails
abbrev pub start_several : World → Origin → GetOptions → Outcome
start_several world origin options = by_active world origin options (is_active options.mode)

-- ---- in Gathering

-- a reply of the provider at this place and of this origin, by what it comes to
abbrev pub gathering_came : World → Facts → ℕ → Origin → Came → Outcome
-- C36
gathering_came world facts place provider Unawaited = ignored NotWaited
-- M5, M7a
gathering_came world facts place provider (Refused failure) =
    after (Dropped place failure) (settles world (with_progress place (progress_is.Dropped failure) facts))
-- M6
gathering_came world facts place provider (Waits replies) = stays
-- M7
gathering_came world facts place provider (Both config) = stays_with (Send place (Accounts config.accounts))
-- M8
gathering_came world facts place provider (NoneFits failure) =
    after (SetLogin provider LoggedOut)
    (after (Dropped place failure) (settles world (with_progress place (progress_is.Dropped failure) facts)))
-- M9
gathering_came world facts place provider (Fit config accounts) =
    after (SetLogin provider LoggedIn) (settles world (with_progress place (progress_is.Listed config accounts) facts))
