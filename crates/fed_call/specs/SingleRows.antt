-- The rows of a reply to a call with one provider.
use Rattle.std.specs.Prelude.{ℕ, Bool, true, false, List, Option}
use Rattle.fed_origin.specs.declared.origin.Origin.{Origin}
use Rattle.fed_origin.specs.declared.options.Mediation.{Mediation}
use Rattle.fed_origin.specs.declared.options.Mediation.TheVariants.{Silent, Optional, Required}
use Rattle.fed_origin.specs.declared.options.Mode.{Mode}
use Rattle.fed_origin.specs.declared.options.Mode.TheVariants.{Passive, Active}
use Rattle.fed_origin.specs.declared.stage.Stage.TheVariants as stages
use Rattle.fed_origin.specs.declared.status.LoginStatus.{LoginStatus}
use Rattle.fed_origin.specs.declared.status.LoginStatus.TheVariants.{Unknown, LoggedIn, LoggedOut}
use Rattle.fed_provider.specs.declared.config.Config.{Config as Configuration}
use Rattle.fed_status.specs.Login.{status_of}
use Rattle.fed_status.specs.Shared.{World}
use Rattle.fed_consent.specs.declared.table.dialog.Dialog.TheVariants as dialogs
use Rattle.fed_consent.specs.declared.table.effect.Effect.TheVariants.{Dialog, SetLogin}
use Rattle.fed_consent.specs.declared.table.failure.Failure.{Failure}
use Rattle.fed_consent.specs.declared.table.why.Why.TheVariants.{NotWaited}
use Rattle.fed_consent.specs.Outcomes.{Outcome, fails, ignored, stays, moves, after}
use Rattle.fed_call.specs.declared.progress.Progress.TheVariants as progress_is
use Rattle.fed_call.specs.Dialogs.{site_of}
use Rattle.fed_call.specs.Facts.{Facts, config_at, with_progress}
use Rattle.fed_call.specs.Progress.{Came, Unawaited, Refused, Waits, Both, NoneFits, Fit}
use Rattle.fed_call.specs.ReadingRows.{asks_accounts}
use Rattle.fed_call.specs.SettledRows.{settles}
use Rattle.fed_call.specs.WindowRows.{may_sign_in, opens_window}

-- the call is passive and not silent, and the user was logged in
abbrev pub is_mismatch : Mode → Mediation → LoginStatus → Bool
is_mismatch Active mediation status = false
is_mismatch Passive Silent status = false
is_mismatch Passive Optional LoggedIn = true
is_mismatch Passive Optional LoggedOut = false
is_mismatch Passive Optional Unknown = false
is_mismatch Passive Required LoggedIn = true
is_mismatch Passive Required LoggedOut = false
is_mismatch Passive Required Unknown = false

-- else the user hears of it (row C15), or the page (row C16)
abbrev pub by_mismatch : ℕ → List ℕ → Failure → Bool → Outcome
by_mismatch place site failure true = moves stages.Mismatch (Dialog (dialogs.Mismatch place site failure))
by_mismatch place site failure false = fails failure

-- by whether the user may be sent to sign in (row C14)
abbrev pub by_window : ℕ → Option Configuration → Outcome → Bool → Outcome
by_window place config other true = opens_window place config
by_window place config other false = other

-- the accounts of the provider at this place and of this origin are refused, or none fits the hints
abbrev pub refused : World → Facts → ℕ → Origin → Failure → Outcome
refused world facts place provider failure =
    by_window place (config_at place facts)
    (by_mismatch place (site_of world facts.origin) failure
    (is_mismatch facts.options.mode facts.options.mediation (status_of world.login provider)))
    (may_sign_in facts.options.mode facts.options.mediation)

-- a reply of the provider at this place and of this origin, by what it comes to
abbrev pub single_came : World → Facts → ℕ → Origin → Came → Outcome
-- C36
single_came world facts place provider Unawaited = ignored NotWaited
-- C8, C10a, C11, C13a
single_came world facts place provider (Refused failure) = fails failure
-- C9, C12
single_came world facts place provider (Waits replies) = stays
-- C10, C13
single_came world facts place provider (Both config) = asks_accounts place config
-- C14, C15, C16
single_came world facts place provider (NoneFits failure) =
    after (SetLogin provider LoggedOut) (refused world facts place provider failure)
-- C17 to C21
single_came world facts place provider (Fit config accounts) =
    after (SetLogin provider LoggedIn) (settles world (with_progress place (progress_is.Listed config accounts) facts))
