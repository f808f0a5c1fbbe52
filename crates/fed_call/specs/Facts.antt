-- What is known of a call that began and is not over, and what an event leaves of it.
use Rattle.std.specs.Prelude.{ℕ, suc, Bool, true, false, ◌&&◌, nat_eq, ◌==◌, List, [], ◌∷◌, ◌++◌, length, map, option_to_list}
use Rattle.std.specs.Prelude.{slice_get, slice_set, Option, Some, None, unwrap_or}
use Rattle.std.specs.List.{list_any, find}
use Rattle.fed_origin.specs.declared.origin.Origin.{Origin}
use Rattle.fed_origin.specs.declared.options.GetOptions.{GetOptions}
use Rattle.fed_origin.specs.declared.options.Mediation.{Mediation}
use Rattle.fed_origin.specs.declared.options.Mediation.TheVariants.{Silent, Optional, Required}
use Rattle.fed_origin.specs.declared.options.ProviderOptions.{ProviderOptions}
use Rattle.fed_origin.specs.declared.stage.Stage.{Stage}
use Rattle.fed_origin.specs.declared.stage.Stage.TheVariants.{Reading, Listing, Gathering, Mismatch, Window, Choosing, Prompting}
use Rattle.fed_origin.specs.declared.stage.Stage.TheVariants.{Asserting, Ended}
use Rattle.fed_origin.specs.declared.stage.ReplyKind.{ReplyKind}
use Rattle.fed_origin.specs.declared.stage.ReplyKind.TheVariants as kinds
use Rattle.fed_origin.specs.declared.status.Triple.{Triple}
use Rattle.fed_provider.specs.declared.config.Config.{Config}
use Rattle.fed_status.specs.Flags.{has_flag}
use Rattle.fed_status.specs.Shared.{World}
use Rattle.fed_consent.specs.declared.table.failure.Failure.{Failure}
use Rattle.fed_consent.specs.declared.table.input.Input.{Input}
use Rattle.fed_consent.specs.declared.table.input.Input.TheVariants.{Reply, Choose}
use Rattle.fed_consent.specs.Consent.{has_id}
use Rattle.fed_consent.specs.Outcomes.{Outcome, is_ignored}
use Rattle.fed_call.specs.declared.progress.Progress.{Progress}
use Rattle.fed_call.specs.declared.progress.Progress.TheVariants as progress_is
use Rattle.fed_call.specs.Accounts.{Shortlist, Offered, offer_of, all_offered, reselected, needs_metadata}
pub use Rattle.fed_call.specs.Accounts.{provider_at}
use Rattle.fed_call.specs.Progress.{Came, Unawaited, Refused, Waits, Both, NoneFits, Fit, came, first_progress, is_awaited, config_of}

pub record Facts : Type 0 where
  -- its number, and that of its page
  pub call : ℕ
  pub page : ℕ
  -- the origin of its page
  pub origin : Origin
  pub options : GetOptions
  pub stage : Stage
  -- of each provider, in their order, how far it has come; nothing more once all are settled
  pub progress : List Progress
  -- the accounts among which the user is to choose
  pub offered : List Offered
  -- the account that the user is to go on with, or went on with
  pub picked : Option Offered
  -- its prompt waits for metadata
  pub waits : Bool
  -- it was settled on without the user
  pub auto : Bool

-- the call at this stage; a call that is over has no facts
abbrev pub at_stage : Stage → Facts → Option Facts
at_stage Ended facts = None
at_stage Reading facts = Some (record facts { stage = Reading })
at_stage Listing facts = Some (record facts { stage = Listing })
at_stage Gathering facts = Some (record facts { stage = Gathering })
at_stage Mismatch facts = Some (record facts { stage = Mismatch })
at_stage Window facts = Some (record facts { stage = Window })
at_stage Choosing facts = Some (record facts { stage = Choosing })
at_stage Prompting facts = Some (record facts { stage = Prompting })
at_stage Asserting facts = Some (record facts { stage = Asserting })

-- the stage of a call
abbrev pub stage_of : Option Facts → Stage
stage_of None = Ended
stage_of (Some facts) = facts.stage

-- how far the provider at this place has come
abbrev pub progress_at : ℕ → Facts → Option Progress
progress_at place facts = slice_get facts.progress place

-- the configuration of a provider whose accounts are awaited
abbrev pub config_at : ℕ → Facts → Option Config
config_at place facts = config_of (progress_at place facts)

-- ---- at its beginning

-- what is known of a call of which no reply was taken, among what all calls look at
abbrev pub fresh : World → ℕ → ℕ → Origin → GetOptions → Facts
fresh world call page origin options =
    record {
      call = call;
      page = page;
      origin = origin;
      options = options;
      stage = Reading;
      progress = map (first_progress world options.mode) options.providers;
      offered = [];
      picked = None;
      waits = false;
      auto = false;
    }

-- the call after it began, when nothing was taken
abbrev pub started : World → ℕ → ℕ → Origin → GetOptions → Outcome → Option Facts
started world call page origin options outcome = at_stage (unwrap_or outcome.stage Reading) (fresh world call page origin options)

-- ---- once all providers are settled

-- what the provider at this place offers by the permissions that are kept, if it gave accounts
abbrev pub shortlist : List Triple → Origin → ℕ → ProviderOptions → Progress → Option Shortlist
shortlist kept page place provider (progress_is.Listed config accounts) =
    Some (record { options = provider; config = config; offer = offer_of kept page place provider accounts })
shortlist kept page place provider (progress_is.Reading replies) = None
shortlist kept page place provider (progress_is.Listing config) = None
shortlist kept page place provider (progress_is.Dropped failure) = None

-- the same of each provider that gave some, in their order, where the first has the place n
abbrev pub shortlists : List Triple → Origin → ℕ → List ProviderOptions → List Progress → List Shortlist
shortlists kept page n (provider ∷ providers) (progress ∷ more) =
    option_to_list (shortlist kept page n provider progress) ++ shortlists kept page (suc n) providers more
shortlists kept page n (provider ∷ providers) [] = []
shortlists kept page n [] progress = []

-- what the call comes to once no provider is awaited
pub data Conclusion : Type 0 where
  -- one is awaited
  Awaits : Conclusion
  -- there is no account, and the first provider dropped out so
  NoneLeft : (failure : Failure) → Conclusion
  -- an account is signed in again without the user
  Reselects : (offered : Offered) → Conclusion
  -- there is none for a silent call
  NoneSilent : Conclusion
  -- the user is to choose
  Offers : (offered : List Offered) → Conclusion
  -- the user is to go on with the only account
  Prompts : (offered : Offered) → Conclusion

-- no account, since all dropped out: the failure is that of the first provider
abbrev pub none_left : List Progress → Conclusion
none_left (progress_is.Dropped failure ∷ progress) = NoneLeft failure
none_left _ = Awaits

-- the user is asked about these accounts: the first, and more
abbrev pub by_number : Offered → List Offered → Conclusion
by_number only [] = Prompts only
by_number first (second ∷ more) = Offers (first ∷ second ∷ more)

abbrev pub unless_silent : Mediation → Offered → List Offered → Conclusion
unless_silent Silent first more = NoneSilent
unless_silent Optional first more = by_number first more
unless_silent Required first more = by_number first more

-- by the account that is reselected, if there is one
abbrev pub by_reselected : Mediation → Option Offered → Offered → List Offered → Conclusion
by_reselected mediation (Some one) first more = Reselects one
by_reselected mediation None first more = unless_silent mediation first more

-- by the accounts that there are
abbrev pub by_offered : Mediation → List Progress → Option Offered → List Offered → Conclusion
by_offered mediation progress again [] = none_left progress
by_offered mediation progress again (first ∷ more) = by_reselected mediation again first more

-- by what each provider offers, and by whether the flag of the page's origin is set
abbrev pub concluded : Mediation → List Progress → Bool → List Shortlist → Conclusion
concluded mediation progress flag lists = by_offered mediation progress (reselected mediation flag lists) (all_offered lists)

-- by whether a provider is awaited
abbrev pub by_awaited : World → Origin → GetOptions → List Progress → Bool → Conclusion
by_awaited world origin options progress true = Awaits
by_awaited world origin options progress false =
    concluded options.mediation progress (has_flag world.flags origin) (shortlists world.kept origin 0 options.providers progress)

-- what a call of a page of this origin, whose providers have come so far, comes to, among what all calls look at
abbrev pub conclusion_of : World → Origin → GetOptions → List Progress → Conclusion
conclusion_of world origin options progress = by_awaited world origin options progress (list_any is_awaited progress)

-- the call is about this account from now on
abbrev pub with_picked : Offered → Facts → Facts
with_picked offered facts =
    record facts {
      progress = [];
      offered = [];
      picked = Some offered;
      waits = needs_metadata offered.candidate.connected offered.config.metadata;
    }

abbrev pub with_conclusion : Conclusion → Facts → Facts
with_conclusion Awaits facts = facts
with_conclusion (NoneLeft failure) facts = facts
with_conclusion (Reselects offered) facts = record facts { progress = []; picked = Some offered; auto = true }
with_conclusion NoneSilent facts = facts
with_conclusion (Offers offered) facts = record facts { progress = []; offered = offered }
with_conclusion (Prompts offered) facts = with_picked offered facts

-- what it comes to leaves this of the call
abbrev pub with_settled : World → Facts → Facts
with_settled world facts = with_conclusion (conclusion_of world facts.origin facts.options facts.progress) facts

-- ---- at an input

-- the provider at this place has come so far
abbrev pub with_progress : ℕ → Progress → Facts → Facts
with_progress place progress facts = record facts { progress = slice_set facts.progress place progress }

-- the call has one provider
abbrev pub is_single : GetOptions → Bool
is_single options = length options.providers == 1

-- the provider at this place dropped out
abbrev pub with_dropped : World → ℕ → Failure → Facts → Facts
with_dropped world place failure facts = with_settled world (with_progress place (progress_is.Dropped failure) facts)

-- no account of the provider at this place fits: one of several drops out, and the only one may be asked again
abbrev pub with_none_fitting : World → ℕ → Failure → Bool → Facts → Facts
with_none_fitting world place failure true facts = facts
with_none_fitting world place failure false facts = with_dropped world place failure facts

-- a reply of the provider at this place came to this
abbrev pub with_came : World → ℕ → Came → Facts → Facts
with_came world place Unawaited facts = facts
with_came world place (Refused failure) facts = with_dropped world place failure facts
with_came world place (Waits replies) facts = with_progress place (progress_is.Reading replies) facts
with_came world place (Both config) facts = with_progress place (progress_is.Listing config) facts
with_came world place (NoneFits failure) facts = with_none_fitting world place failure (is_single facts.options) facts
with_came world place (Fit config accounts) facts = with_settled world (with_progress place (progress_is.Listed config accounts) facts)

-- what a reply of this kind of the provider at this place comes to
abbrev pub came_at : World → Facts → ℕ → ReplyKind → List ℕ → Came
came_at world facts place kind raw =
    came world.rules (progress_at place facts) (provider_at place facts.options) kind raw

-- what a reply of this kind says, which came for the provider at this place
abbrev pub with_reply : World → ℕ → ReplyKind → List ℕ → Facts → Facts
with_reply world place kinds.WellKnown raw facts = with_came world place (came_at world facts place kinds.WellKnown raw) facts
with_reply world place kinds.Config raw facts = with_came world place (came_at world facts place kinds.Config raw) facts
with_reply world place kinds.Accounts raw facts = with_came world place (came_at world facts place kinds.Accounts raw) facts
with_reply world place kinds.Metadata raw facts = record facts { waits = false }
with_reply world place kinds.Assertion raw facts = facts
with_reply world place kinds.Disconnect raw facts = facts

-- the account with this id of the provider at this place, if it is offered
abbrev pub is_named : ℕ → List ℕ → Offered → Bool
is_named place id offered = nat_eq place offered.place && has_id id offered.candidate

abbrev pub found_offered : ℕ → List ℕ → Facts → Option Offered
found_offered place id facts = find (is_named place id) facts.offered

abbrev pub with_choice : Option Offered → Facts → Facts
with_choice None facts = facts
with_choice (Some offered) facts = with_picked offered facts

-- what an input says, by whether it was ignored
abbrev pub with_input : World → Bool → Input → Facts → Facts
with_input world false (Reply place kind raw) facts = with_reply world place kind raw facts
with_input world false (Choose place id) facts = with_choice (found_offered place id facts) facts
with_input world false _ facts = facts
with_input world true _ facts = facts

-- the call after an input with this outcome, among what all calls look at
abbrev pub facts_after : World → Facts → Input → Outcome → Option Facts
facts_after world facts input outcome =
    at_stage (unwrap_or outcome.stage facts.stage) (with_input world (list_any is_ignored outcome.effects) input facts)

-- the same of a call that may be over, and then stays so
abbrev pub next_facts : World → Option Facts → Input → Outcome → Option Facts
next_facts world None input outcome = None
next_facts world (Some facts) input outcome = facts_after world facts input outcome
