-- The rows of a call that shows a dialog.
use Rattle.std.specs.Prelude.{ℕ, Bool, true, false, List, Option, Some, None, not}
use Rattle.fed_origin.specs.declared.stage.Stage.{Stage}
use Rattle.fed_origin.specs.declared.stage.Stage.TheVariants as stages
use Rattle.fed_origin.specs.declared.stage.ReplyKind.{ReplyKind}
use Rattle.fed_origin.specs.declared.stage.ReplyKind.TheVariants as kinds
use Rattle.fed_provider.specs.Metadata.{MetadataOf}
use Rattle.fed_status.specs.Shared.{World}
use Rattle.fed_consent.specs.declared.table.failure.FailStep.TheVariants as steps
use Rattle.fed_consent.specs.declared.table.why.Why.TheVariants.{NotWaited, NotOffered, NoAccount}
use Rattle.fed_consent.specs.declared.consent.manner.Manner.TheVariants.{Chosen, Prompted}
use Rattle.fed_consent.specs.Outcomes.{Outcome, fails, ignored, stays, stays_with}
use Rattle.fed_consent.specs.Failures.{plain}
use Rattle.fed_call.specs.Accounts.{Offered}
use Rattle.fed_call.specs.AssertingRows.{asserts, picked_at}
use Rattle.fed_call.specs.Dialogs.{prompt_dialog, prompts}
use Rattle.fed_call.specs.Facts.{Facts, found_offered}

-- ---- metadata

-- a metadata reply, by whether the prompt waits for it, if it is of the provider of its account (row C26, else C36)
abbrev pub metadata_reply : World → Facts → Bool → Option Offered → List ℕ → Outcome
metadata_reply world facts false offered raw = ignored NotWaited
metadata_reply world facts true None raw = ignored NotWaited
metadata_reply world facts true (Some offered) raw = stays_with (prompt_dialog world facts offered (MetadataOf raw))

-- a reply for the provider at this place, at a prompt
abbrev pub prompting_reply : World → Facts → ℕ → ReplyKind → List ℕ → Outcome
prompting_reply world facts place kinds.Metadata raw = metadata_reply world facts facts.waits (picked_at place facts.picked) raw
prompting_reply world facts place _ raw = ignored NotWaited

-- ---- the user's words

-- an account was chosen: the token is asked for where it is connected (row C22), and else there is a prompt (rows C23, C24)
abbrev pub by_connection : World → Facts → Offered → Bool → Outcome
by_connection world facts offered true = asserts facts offered Chosen false
by_connection world facts offered false = prompts world facts offered

-- a choice, by the account that it names, if that is offered (else row C25)
abbrev pub choice : World → Facts → Option Offered → Outcome
choice world facts None = ignored NoAccount
choice world facts (Some offered) = by_connection world facts offered offered.candidate.connected

-- an account with this id of the provider at this place was chosen, by the stage (else row C36)
abbrev pub chose : World → Facts → Stage → ℕ → List ℕ → Outcome
chose world facts stages.Choosing place id = choice world facts (found_offered place id facts)
chose world facts _ place id = ignored NotOffered

-- the user went on with the prompt, by whether it waits (row C27, else C36)
abbrev pub goes_on : Facts → Bool → Option Offered → Outcome
goes_on facts true picked = ignored NotOffered
goes_on facts false None = stays
goes_on facts false (Some offered) = asserts facts offered Prompted (not offered.candidate.connected)

-- the user went on, by the stage (else row C36)
abbrev pub went_on : Facts → Stage → Outcome
went_on facts stages.Prompting = goes_on facts facts.waits facts.picked
went_on facts _ = ignored NotOffered

-- the dialog was closed, by the stage (row C31, else C36)
abbrev pub cancelled : Stage → Outcome
cancelled stages.Reading = ignored NotOffered
cancelled stages.Listing = ignored NotOffered
cancelled stages.Gathering = ignored NotOffered
cancelled stages.Mismatch = fails (plain steps.UserCancelled)
cancelled stages.Window = ignored NotOffered
cancelled stages.Choosing = fails (plain steps.UserCancelled)
cancelled stages.Prompting = fails (plain steps.UserCancelled)
cancelled stages.Asserting = ignored NotOffered
cancelled stages.Ended = ignored NotOffered
