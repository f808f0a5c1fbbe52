-- What is known of a call that began and is not over, of either kind, and what such a call does.
use Rattle.std.specs.Prelude.{ℕ, Bool, true, false, Option, Some, None, option_map, unwrap_or}
use Rattle.std.specs.List.{list_any}
use Rattle.fed_origin.specs.declared.options.GetOptions.{GetOptions}
use Rattle.fed_origin.specs.declared.origin.Origin.{Origin}
use Rattle.fed_origin.specs.declared.stage.Stage.{Stage}
use Rattle.fed_origin.specs.declared.stage.Stage.TheVariants.{Reading}
use Rattle.fed_status.specs.Shared.{World}
use Rattle.fed_consent.specs.declared.table.failure.FailStep.TheVariants.{CallPending}
use Rattle.fed_consent.specs.declared.table.input.Input.{Input}
use Rattle.fed_consent.specs.Failures.{plain}
use Rattle.fed_consent.specs.Outcomes.{Outcome, fails, is_ignored}
use Rattle.fed_call.specs.Facts.{Facts}
use Rattle.fed_call.specs.Facts as get
use Rattle.fed_call.specs.Row as get_rows
use Rattle.fed_disconnect.specs.Facts.{DisconnectFacts}
use Rattle.fed_disconnect.specs.Facts as disconnect
use Rattle.fed_disconnect.specs.Rows as disconnect_rows
use Rattle.fed_trace.specs.Begun.{Begun, CallKind, GetCall, DisconnectCall, CallOptions, ToGet, ToDisconnect}

pub data Known : Type 0 where
  OfGet : (facts : Facts) → Known
  OfDisconnect : (facts : DisconnectFacts) → Known

abbrev pub kind_of : Known → CallKind
kind_of (OfGet facts) = GetCall
kind_of (OfDisconnect facts) = DisconnectCall

abbrev pub page_of : Known → ℕ
page_of (OfGet facts) = facts.page
page_of (OfDisconnect facts) = facts.page

abbrev pub stage_of : Known → Stage
stage_of (OfGet facts) = facts.stage
stage_of (OfDisconnect facts) = facts.stage

-- what is known of a get
abbrev pub get_facts : Known → Option Facts
get_facts (OfGet facts) = Some facts
get_facts (OfDisconnect facts) = None

-- the call at this stage; of one that is over nothing is known
abbrev pub at_stage : Stage → Known → Option Known
at_stage stage (OfGet facts) = option_map OfGet (get.at_stage stage facts)
at_stage stage (OfDisconnect facts) = option_map OfDisconnect (disconnect.at_stage stage facts)

-- ---- at its beginning

-- what is known of a call of which no input was taken, among what all calls look at as it begins
abbrev pub fresh : World → ℕ → ℕ → Origin → CallOptions → Known
fresh world call page origin (ToGet options) = OfGet (get.fresh world call page origin options)
fresh world call page origin (ToDisconnect options) = OfDisconnect (disconnect.fresh call page origin options)

abbrev pub known_first : World → Begun → Known
known_first world b = fresh world b.call b.page b.origin b.options

-- the outcome of a get of a page of this origin that is taken: a page has at most one that is pending (row C1)
abbrev pub get_outcome : World → Bool → Origin → GetOptions → Outcome
get_outcome world true origin options = fails (plain CallPending)
get_outcome world false origin options = get_rows.start_row world origin options

-- that of a call that is taken, by whether its page has a pending get
abbrev pub first_row : World → Bool → Origin → CallOptions → Outcome
first_row world busy origin (ToGet options) = get_outcome world busy origin options
first_row world busy origin (ToDisconnect options) = disconnect_rows.disconnect_start_row world origin options

-- the call after its first row
abbrev pub started : World → Begun → Outcome → Option Known
started world b outcome = at_stage (unwrap_or outcome.stage Reading) (known_first world b)

-- ---- at an input

-- what the call does
abbrev pub input_row : World → Known → Input → Outcome
input_row world (OfGet facts) input = get_rows.input_row world facts input
input_row world (OfDisconnect facts) input = disconnect_rows.input_row world facts input

-- what the input says, by whether it was ignored
abbrev pub with_input : World → Bool → Input → Known → Known
with_input world ignored input (OfGet facts) = OfGet (get.with_input world ignored input facts)
with_input world ignored input (OfDisconnect facts) = OfDisconnect (disconnect.with_input world ignored input facts)

-- the call after an input with this outcome, among what all calls look at
abbrev pub known_after : World → Known → Input → Outcome → Option Known
known_after world known input outcome =
    at_stage (unwrap_or outcome.stage (stage_of known)) (with_input world (list_any is_ignored outcome.effects) input known)
