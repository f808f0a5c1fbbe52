-- The tables of a get call: what it does at each event, by what is known of it. A call with one provider goes by the rows C; one with
-- several by the rows M, until an account is chosen, shown or reselected, and then by the rows C too.
use Rattle.std.specs.Prelude.{ℕ, Bool, true, false, List, [], ◌∷◌, Option, Some, None}
use Rattle.fed_origin.specs.declared.options.GetOptions.{GetOptions}
use Rattle.fed_origin.specs.declared.options.ProviderOptions.{ProviderOptions}
use Rattle.fed_origin.specs.declared.origin.Origin.{Origin}
use Rattle.fed_origin.specs.declared.stage.Stage.{Stage}
use Rattle.fed_origin.specs.declared.stage.Stage.TheVariants.{Reading, Listing, Gathering, Mismatch, Window, Choosing, Prompting}
use Rattle.fed_origin.specs.declared.stage.Stage.TheVariants.{Asserting, Ended}
use Rattle.fed_origin.specs.declared.stage.ReplyKind.{ReplyKind}
use Rattle.fed_origin.specs.WebUrl.{origin_of}
use Rattle.fed_status.specs.Shared.{World}
use Rattle.fed_consent.specs.declared.table.failure.FailStep.TheVariants as steps
use Rattle.fed_consent.specs.declared.table.input.Input.{Input}
use Rattle.fed_consent.specs.declared.table.input.Input.TheVariants as inputs
use Rattle.fed_consent.specs.declared.table.why.Why.TheVariants.{CallEnded, NotWaited, NotOffered}
use Rattle.fed_call.specs.Facts.{Facts, facts_after, is_single, provider_at, came_at}
use Rattle.fed_call.specs.Progress.{Came}
use Rattle.fed_consent.specs.Outcomes.{Outcome, fails, ignored, stays}
use Rattle.fed_consent.specs.Failures.{plain}
use Rattle.fed_call.specs.ReadingRows.{start_single}
use Rattle.fed_call.specs.SingleRows.{single_came}
use Rattle.fed_call.specs.GatheringRows.{start_several, gathering_came}
use Rattle.fed_call.specs.DialogRows.{prompting_reply, chose, went_on, cancelled}
use Rattle.fed_call.specs.WindowRows.{asked_to_sign_in, resumed, window_shut}
use Rattle.fed_call.specs.AssertingRows.{asserting_reply}

-- ---- a get

-- by the providers, of which there is one at least
abbrev pub start_with : World → Origin → GetOptions → List ProviderOptions → Outcome
start_with world origin options [] = stays
start_with world origin options (only ∷ []) = start_single world origin options only
start_with world origin options (first ∷ second ∷ more) = start_several world origin options

-- a get of a page of this origin that no earlier row fails: rows C2 to C7 of one provider, M1 to M4 of several
abbrev pub start_row : World → Origin → GetOptions → Outcome
start_row world origin options = start_with world origin options options.providers

-- ---- an input

-- what a reply of the provider at this place and of this origin does: by table C where it is the only one, else by table M
abbrev pub came_row : World → Facts → ℕ → Bool → Origin → Came → Outcome
came_row world facts place true provider came = single_came world facts place provider came
came_row world facts place false provider came = gathering_came world facts place provider came

-- the same, if the call has the provider
abbrev pub provider_row : World → Facts → ℕ → Option ProviderOptions → Came → Outcome
provider_row world facts place None came = ignored NotWaited
provider_row world facts place (Some provider) came =
    came_row world facts place (is_single facts.options) (origin_of provider.config) came

-- a reply of a call some of whose providers are awaited
abbrev pub awaited_reply : World → Facts → ℕ → ReplyKind → List ℕ → Outcome
awaited_reply world facts place kind raw =
    provider_row world facts place (provider_at place facts.options) (came_at world facts place kind raw)

-- a reply for the provider at this place, by the stage
abbrev pub stage_reply : World → Facts → Stage → ℕ → ReplyKind → List ℕ → Outcome
stage_reply world facts Reading place kind raw = awaited_reply world facts place kind raw
stage_reply world facts Listing place kind raw = awaited_reply world facts place kind raw
stage_reply world facts Gathering place kind raw = awaited_reply world facts place kind raw
stage_reply world facts Mismatch place kind raw = ignored NotWaited
stage_reply world facts Window place kind raw = ignored NotWaited
stage_reply world facts Choosing place kind raw = ignored NotWaited
stage_reply world facts Prompting place kind raw = prompting_reply world facts place kind raw
stage_reply world facts Asserting place kind raw = asserting_reply facts place kind raw
stage_reply world facts Ended place kind raw = ignored CallEnded

-- an input of a call that is not over
abbrev pub input_row : World → Facts → Input → Outcome
input_row world facts (inputs.Reply place kind raw) = stage_reply world facts facts.stage place kind raw
input_row world facts (inputs.Choose place id) = chose world facts facts.stage place id
input_row world facts inputs.GoOn = went_on facts facts.stage
input_row world facts inputs.Cancel = cancelled facts.stage
input_row world facts inputs.SignIn = asked_to_sign_in facts facts.stage
input_row world facts inputs.Shut = window_shut facts.stage
input_row world facts inputs.Resume = resumed facts facts.stage
input_row world facts inputs.Abort = fails (plain steps.Aborted)

-- an input of a call
abbrev pub call_row : World → Option Facts → Input → Outcome
call_row world None input = ignored CallEnded
call_row world (Some facts) input = input_row world facts input

-- what is known of a call after an input
abbrev pub input_facts : World → Facts → Input → Option Facts
input_facts world facts input = facts_after world facts input (input_row world facts input)

-- ---- for private clauses

-- an input that no row of the stage takes
abbrev pub declined : Input → Outcome
declined (inputs.Reply place kind raw) = ignored NotWaited
declined inputs.Abort = fails (plain steps.Aborted)
declined _ = ignored NotOffered

-- what is known of the call then
abbrev pub kept_declined : Input → Option Facts → Option Facts
kept_declined inputs.Abort facts = None
kept_declined _ facts = facts
