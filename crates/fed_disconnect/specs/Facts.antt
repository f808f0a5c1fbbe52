-- What is known of a disconnect call that began and is not over, and what an input leaves of it.
use Rattle.std.specs.Prelude.{ℕ, Bool, true, false, List, Option, Some, None, unwrap_or}
use Rattle.std.specs.List.{list_any}
use Rattle.url.specs.Parts.{Parts}
use Rattle.fed_origin.specs.declared.origin.Origin.{Origin}
use Rattle.fed_origin.specs.declared.stage.Stage.{Stage}
use Rattle.fed_origin.specs.declared.stage.Stage.TheVariants.{Reading, Ended}
use Rattle.fed_origin.specs.declared.stage.ReplyKind.{ReplyKind}
use Rattle.fed_origin.specs.WebUrl.{origin_of}
use Rattle.fed_suffix.specs.Rule.{RuleSet}
use Rattle.fed_provider.specs.declared.wellknown.WellKnown.TheVariants.{Listed}
use Rattle.fed_provider.specs.declared.config.Config.{Config}
use Rattle.fed_provider.specs.declared.first_replies.FirstReplies.{FirstReplies}
use Rattle.fed_provider.specs.declared.first_replies.Heard.{Heard}
use Rattle.fed_provider.specs.declared.first_replies.Heard.TheVariants.{Refused, Waits, Both, NotWaited}
use Rattle.fed_provider.specs.FirstReplies.{reply_heard}
use Rattle.fed_status.specs.Shared.{World}
use Rattle.fed_consent.specs.declared.table.input.Input.{Input}
use Rattle.fed_consent.specs.declared.table.input.Input.TheVariants.{Reply}
use Rattle.fed_consent.specs.Outcomes.{Outcome, is_ignored}

pub record DisconnectOptions : Type 0 where
  -- the configuration URL
  pub config : Parts
  -- the relying party's id at the provider
  pub client : List ℕ
  -- which account is meant
  pub hint : List ℕ

pub record DisconnectFacts : Type 0 where
  -- its number, and that of its page
  pub call : ℕ
  pub page : ℕ
  -- the origin of its page
  pub origin : Origin
  pub options : DisconnectOptions
  pub stage : Stage
  -- the first replies that were taken
  pub replies : FirstReplies

-- the options of a call that says this
abbrev pub disconnect_options : Parts → List ℕ → List ℕ → DisconnectOptions
disconnect_options config client hint = record { config = config; client = client; hint = hint }

-- the origin of its provider
abbrev pub provider_origin : DisconnectOptions → Origin
provider_origin options = origin_of options.config

-- no reply was taken
abbrev pub none_taken : FirstReplies
none_taken = record { wellknown = None; config = None }

-- both replies were taken, with this configuration: nothing is left to compare
abbrev pub both_taken : Config → FirstReplies
both_taken config = record { wellknown = Some Listed; config = Some config }

-- the call at this stage; a call that is over has no facts
abbrev pub at_stage : Stage → DisconnectFacts → Option DisconnectFacts
at_stage Ended facts = None
at_stage stage facts = Some (record facts { stage = stage })

-- the stage of a call
abbrev pub disconnect_stage : Option DisconnectFacts → Stage
disconnect_stage None = Ended
disconnect_stage (Some facts) = facts.stage

-- ---- at its beginning

-- what is known of a call of which no reply was taken
abbrev pub fresh : ℕ → ℕ → Origin → DisconnectOptions → DisconnectFacts
fresh call page origin options =
    record {
      call = call;
      page = page;
      origin = origin;
      options = options;
      stage = Reading;
      replies = none_taken;
    }

-- the call after it began, when nothing was taken
abbrev pub disconnect_started : ℕ → ℕ → Origin → DisconnectOptions → Outcome → Option DisconnectFacts
disconnect_started call page origin options outcome = at_stage (unwrap_or outcome.stage Reading) (fresh call page origin options)

-- ---- at an input

-- the first replies that were taken after one that comes to this; a call whose reply is refused is over
abbrev pub taken : Heard → FirstReplies
taken (Refused step) = none_taken
taken (Waits replies) = replies
taken (Both config) = both_taken config
taken (NotWaited replies) = replies

-- what a reply of this kind says
abbrev pub with_reply : RuleSet → ReplyKind → List ℕ → DisconnectFacts → DisconnectFacts
with_reply rules kind raw facts =
    record facts { replies = taken (reply_heard rules facts.replies facts.options.config kind raw) }

-- what an input says, by whether it was ignored
abbrev pub with_input : World → Bool → Input → DisconnectFacts → DisconnectFacts
with_input world true input facts = facts
with_input world false (Reply place kind raw) facts = with_reply world.rules kind raw facts
with_input world false _ facts = facts

-- the call after an input with this outcome, among what all calls look at
abbrev pub facts_after : World → DisconnectFacts → Input → Outcome → Option DisconnectFacts
facts_after world facts input outcome =
    at_stage (unwrap_or outcome.stage facts.stage) (with_input world (list_any is_ignored outcome.effects) input facts)

-- the same of a call that may be over, and then stays so
abbrev pub next_disconnect_facts : World → Option DisconnectFacts → Input → Outcome → Option DisconnectFacts
next_disconnect_facts world None input outcome = None
next_disconnect_facts world (Some facts) input outcome = facts_after world facts input outcome
