-- What contracts see of a call's state.
use Rattle.std.specs.Prelude.{false, List, [], ◌∷◌, slice_get, option_map, Option, Some, None}
use Rattle.std.specs.List.{filter_map}
use Rattle.fed_origin.specs.declared.options.ProviderOptions.{ProviderOptions}
use Rattle.fed_origin.specs.declared.stage.Stage.{Stage}
use Rattle.fed_origin.specs.declared.stage.Stage.TheVariants as stages
use Rattle.fed_provider.specs.declared.config.Config.{Config}
use Rattle.fed_consent.specs.Consent.{Candidate, Pick, picks}
use Rattle.fed_call.specs.declared.stages.At.{At}
use Rattle.fed_call.specs.declared.stages.At.TheVariants as ats
use Rattle.fed_call.specs.declared.pending.Pending.{Pending}
use Rattle.fed_call.specs.declared.progress.Progress.{Progress}
use Rattle.fed_call.specs.declared.progress.Progress.TheVariants as progress_is
use Rattle.fed_call.specs.declared.state.CallState.{CallState}
use Rattle.fed_call.specs.Accounts.{Offered}
use Rattle.fed_call.specs.Begun.{Begun, options_of}
use Rattle.fed_call.specs.Configs.{config_for}
use Rattle.fed_call.specs.Facts.{Facts}

-- what is known of a call that began so, at a stage where its providers have come so far
abbrev pub begun_facts : Begun → Stage → List Progress → Facts
begun_facts begun stage progress =
    record {
      call = begun.call;
      page = begun.page;
      origin = begun.origin;
      options = options_of begun;
      stage = stage;
      progress = progress;
      offered = [];
      picked = None;
      waits = false;
      auto = false;
    }

-- an account of the provider that the call is about
abbrev pub offered_in : Begun → Config → Candidate → Offered
offered_in begun config candidate =
    record { place = begun.place; options = begun.provider; config = config; candidate = candidate }

-- an account of a chooser, by what the call says of its provider and by the configuration of that
abbrev pub offered_with : Pick → Option ProviderOptions → Option Config → Option Offered
offered_with pick (Some options) (Some config) =
    Some (record { place = pick.provider; options = options; config = config; candidate = pick.candidate })
offered_with pick (Some options) None = None
offered_with pick None config = None

-- the same among the providers of a call and their configurations
abbrev pub offered_as : List ProviderOptions → List (Option Config) → Pick → Option Offered
offered_as providers configs pick = offered_with pick (slice_get providers pick.provider) (config_for configs pick.provider)

-- what is known of a call that began so and is at this stage
abbrev pub at_facts : Begun → At → Facts
at_facts begun (ats.Reading replies) = begun_facts begun stages.Reading (progress_is.Reading replies ∷ [])
at_facts begun (ats.Listing config) = begun_facts begun stages.Listing (progress_is.Listing config ∷ [])
at_facts begun (ats.Gathering progress) = begun_facts begun stages.Gathering progress
at_facts begun (ats.Mismatch config) = begun_facts begun stages.Mismatch (progress_is.Listing config ∷ [])
at_facts begun (ats.Window config) = begun_facts begun stages.Window (progress_is.Listing config ∷ [])
at_facts begun (ats.Choosing choosing) =
    record (begun_facts begun stages.Choosing []) {
      offered = filter_map (offered_as begun.providers choosing.configs) (picks choosing.chooser);
    }
at_facts begun (ats.Prompting prompting) =
    record (begun_facts begun stages.Prompting []) {
      picked = Some (offered_in begun prompting.config prompting.prompt.pick.candidate);
      waits = prompting.prompt.waits;
    }
at_facts begun (ats.Asserting asserting) =
    record (begun_facts begun stages.Asserting []) {
      picked =
          Some (offered_in begun asserting.config (record { account = asserting.account; connected = asserting.connected }));
      auto = asserting.auto;
    }

abbrev pub pending_facts : Pending → Facts
pending_facts pending = at_facts pending.begun pending.at

-- what is known of a call in this state; none where it is over
abbrev pub facts_of : CallState → Option Facts
facts_of state = option_map pending_facts state.pending
