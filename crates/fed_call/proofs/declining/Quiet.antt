-- A call whose stage awaits a reply alone declines each other input.
use Rattle.std.proofs.Common.{◌≡◌, ℕ, List, Some, refl, ap, ◌∙◌}
use Rattle.fed_origin.specs.declared.stage.ReplyKind.{ReplyKind}
use Rattle.fed_provider.specs.declared.config.Config.{Config}
use Rattle.fed_provider.specs.declared.first_replies.FirstReplies.{FirstReplies}
use Rattle.fed_consent.specs.declared.table.input.Input.{Input}
use Rattle.fed_consent.specs.declared.table.input.Input.TheVariants as inputs
use Rattle.fed_status.specs.Shared.{World}
use Rattle.fed_call.specs.declared.asserting.Asserting.{Asserting}
use Rattle.fed_call.specs.declared.choosing.Choosing.{Choosing}
use Rattle.fed_call.specs.declared.progress.Progress.{Progress}
use Rattle.fed_call.specs.declared.prompting.Prompting.{Prompting}
use Rattle.fed_call.specs.declared.stages.At.{At}
use Rattle.fed_call.specs.declared.stages.At.TheVariants as ats
use Rattle.fed_call.specs.Begun.{Begun}
use Rattle.fed_call.specs.Facts.{Facts, at_stage, facts_after}
use Rattle.fed_call.specs.Row.{declined, input_facts, input_row, kept_declined}
use Rattle.fed_call.specs.State.{at_facts}

-- the stage shows nothing of which the user could say something, and no window
pub record IsQuiet (at : At) : Type 0 where
  pub mismatch : (x : Config) → at ≡ ats.Mismatch x → ⊥
  pub window : (x : Config) → at ≡ ats.Window x → ⊥
  pub choosing : (x : Choosing) → at ≡ ats.Choosing x → ⊥
  pub prompting : (x : Prompting) → at ≡ ats.Prompting x → ⊥

-- the input is no reply
pub record IsOther (input : Input) : Type 0 where
  pub other : (place : ℕ) (kind : ReplyKind) (raw : List ℕ) → input ≡ inputs.Reply place kind raw → ⊥

reading_row : (world : World) (begun : Begun) (replies : FirstReplies) (input : Input) → IsOther input
    → input_row world (at_facts begun (ats.Reading replies)) input ≡ declined input
reading_row world begun replies (inputs.Reply place kind raw) is = absurd (is.other place kind raw refl)
reading_row world begun replies (inputs.Choose place id) is = refl
reading_row world begun replies inputs.GoOn is = refl
reading_row world begun replies inputs.Cancel is = refl
reading_row world begun replies inputs.SignIn is = refl
reading_row world begun replies inputs.Shut is = refl
reading_row world begun replies inputs.Resume is = refl
reading_row world begun replies inputs.Abort is = refl

listing_row : (world : World) (begun : Begun) (config : Config) (input : Input) → IsOther input
    → input_row world (at_facts begun (ats.Listing config)) input ≡ declined input
listing_row world begun config (inputs.Reply place kind raw) is = absurd (is.other place kind raw refl)
listing_row world begun config (inputs.Choose place id) is = refl
listing_row world begun config inputs.GoOn is = refl
listing_row world begun config inputs.Cancel is = refl
listing_row world begun config inputs.SignIn is = refl
listing_row world begun config inputs.Shut is = refl
listing_row world begun config inputs.Resume is = refl
listing_row world begun config inputs.Abort is = refl

gathering_row : (world : World) (begun : Begun) (progress : List Progress) (input : Input) → IsOther input
    → input_row world (at_facts begun (ats.Gathering progress)) input ≡ declined input
gathering_row world begun progress (inputs.Reply place kind raw) is = absurd (is.other place kind raw refl)
gathering_row world begun progress (inputs.Choose place id) is = refl
gathering_row world begun progress inputs.GoOn is = refl
gathering_row world begun progress inputs.Cancel is = refl
gathering_row world begun progress inputs.SignIn is = refl
gathering_row world begun progress inputs.Shut is = refl
gathering_row world begun progress inputs.Resume is = refl
gathering_row world begun progress inputs.Abort is = refl

asserting_row : (world : World) (begun : Begun) (asserting : Asserting) (input : Input) → IsOther input
    → input_row world (at_facts begun (ats.Asserting asserting)) input ≡ declined input
asserting_row world begun asserting (inputs.Reply place kind raw) is = absurd (is.other place kind raw refl)
asserting_row world begun asserting (inputs.Choose place id) is = refl
asserting_row world begun asserting inputs.GoOn is = refl
asserting_row world begun asserting inputs.Cancel is = refl
asserting_row world begun asserting inputs.SignIn is = refl
asserting_row world begun asserting inputs.Shut is = refl
asserting_row world begun asserting inputs.Resume is = refl
asserting_row world begun asserting inputs.Abort is = refl

pub quiet_row : (world : World) (begun : Begun) (at : At) (input : Input) → IsQuiet at → IsOther input
    → input_row world (at_facts begun at) input ≡ declined input
quiet_row world begun (ats.Reading replies) input quiet is = reading_row world begun replies input is
quiet_row world begun (ats.Listing config) input quiet is = listing_row world begun config input is
quiet_row world begun (ats.Gathering progress) input quiet is = gathering_row world begun progress input is
quiet_row world begun (ats.Asserting asserting) input quiet is = asserting_row world begun asserting input is
quiet_row world begun (ats.Mismatch config) input quiet is = absurd (quiet.mismatch config refl)
quiet_row world begun (ats.Window config) input quiet is = absurd (quiet.window config refl)
quiet_row world begun (ats.Choosing choosing) input quiet is = absurd (quiet.choosing choosing refl)
quiet_row world begun (ats.Prompting prompting) input quiet is = absurd (quiet.prompting prompting refl)

-- ---- what is known of the call then

same_stage : (begun : Begun) (at : At) → at_stage (at_facts begun at).stage (at_facts begun at) ≡ Some (at_facts begun at)
same_stage begun (ats.Reading replies) = refl
same_stage begun (ats.Listing config) = refl
same_stage begun (ats.Gathering progress) = refl
same_stage begun (ats.Mismatch config) = refl
same_stage begun (ats.Window config) = refl
same_stage begun (ats.Choosing choosing) = refl
same_stage begun (ats.Prompting prompting) = refl
same_stage begun (ats.Asserting asserting) = refl

kept : (world : World) (facts : Facts) (input : Input) → at_stage facts.stage facts ≡ Some facts
    → facts_after world facts input (declined input) ≡ kept_declined input (Some facts)
kept world facts (inputs.Reply place kind raw) same = same
kept world facts (inputs.Choose place id) same = same
kept world facts inputs.GoOn same = same
kept world facts inputs.Cancel same = same
kept world facts inputs.SignIn same = same
kept world facts inputs.Shut same = same
kept world facts inputs.Resume same = same
kept world facts inputs.Abort same = refl

pub quiet_facts : (world : World) (begun : Begun) (at : At) (input : Input) → IsQuiet at → IsOther input
    → input_facts world (at_facts begun at) input ≡ kept_declined input (Some (at_facts begun at))
quiet_facts world begun at input quiet is =
    ap (facts_after world (at_facts begun at) input) (quiet_row world begun at input quiet is)
    ∙ kept world (at_facts begun at) input (same_stage begun at)
