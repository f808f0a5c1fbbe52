-- The table of a disconnect call: what it does at each event, by what is known of it.
use Rattle.std.specs.Prelude.{ℕ, Bool, true, false, List, [], ◌∷◌, Option, Some, None, Result, Ok, Err, ◌==◌}
use Rattle.url.specs.Parts.{Parts}
use Rattle.fed_origin.specs.declared.origin.Origin.{Origin}
use Rattle.fed_origin.specs.declared.scheme.Scheme.{Scheme}
use Rattle.fed_origin.specs.declared.scheme.Scheme.TheVariants.{Http, Https}
use Rattle.fed_origin.specs.declared.stage.Stage.{Stage}
use Rattle.fed_origin.specs.declared.stage.Stage.TheVariants.{Reading, Asserting}
use Rattle.fed_origin.specs.declared.stage.ReplyKind.{ReplyKind}
use Rattle.fed_origin.specs.declared.stage.ReplyKind.TheVariants as kinds
use Rattle.fed_origin.specs.declared.status.Triple.{Triple}
use Rattle.fed_origin.specs.Origin.{origin_text}
use Rattle.fed_origin.specs.WebUrl.{scheme_of}
use Rattle.fed_provider.specs.declared.first_replies.Heard.{Heard}
use Rattle.fed_provider.specs.declared.first_replies.Heard.TheVariants as heard
use Rattle.fed_provider.specs.declared.step.ProviderStep.{ProviderStep}
use Rattle.fed_provider.specs.FirstReplies.{reply_heard}
use Rattle.fed_provider.specs.WellKnown.{WellKnownUrlOf}
use Rattle.fed_token.specs.declared.step.TokenStep.{TokenStep}
use Rattle.fed_token.specs.declared.step.TokenStep.TheVariants as token_steps
use Rattle.fed_token.specs.Read.{DisconnectOf}
use Rattle.fed_status.specs.Kept.{has_pair, has_triple, triple_of}
use Rattle.fed_status.specs.Shared.{World}
use Rattle.fed_consent.specs.declared.table.ask.Ask.TheVariants.{WellKnown, Config, Disconnect}
use Rattle.fed_consent.specs.declared.table.effect.Effect.{Effect}
use Rattle.fed_consent.specs.declared.table.effect.Effect.TheVariants.{Send, Forget, ForgetPair}
use Rattle.fed_consent.specs.declared.table.failure.Detail.TheVariants as details
use Rattle.fed_consent.specs.declared.table.failure.FailStep.{FailStep}
use Rattle.fed_consent.specs.declared.table.failure.FailStep.TheVariants as steps
use Rattle.fed_consent.specs.declared.table.failure.Failure.{Failure}
use Rattle.fed_consent.specs.declared.table.finish.Finish.{Finish}
use Rattle.fed_consent.specs.declared.table.finish.Finish.TheVariants.{Disconnected, Failed}
use Rattle.fed_consent.specs.declared.table.input.Input.{Input}
use Rattle.fed_consent.specs.declared.table.input.Input.TheVariants.{Reply}
use Rattle.fed_consent.specs.declared.table.why.Why.TheVariants.{CallEnded, NotWaited, NotOffered}
use Rattle.fed_consent.specs.Failures.{plain, detailed, provider_failure}
use Rattle.fed_consent.specs.Outcomes.{Outcome, only_place, finishes, fails, ignored, stays, moves, after}
use Rattle.fed_disconnect.specs.Facts.{DisconnectOptions, DisconnectFacts, facts_after, provider_origin}

-- ---- a disconnect

-- by whether a permission of the page and the provider is kept (row E3), the first requests (row E4)
abbrev pub by_kept : Parts → Parts → Bool → Outcome
by_kept config wellknown false = fails (plain steps.NotConnected)
by_kept config wellknown true =
    record {
      effects = Send only_place (WellKnown wellknown) ∷ Send only_place (Config config) ∷ [];
      stage = Some Reading;
    }

-- by the well-known URL, if there is one (row E2)
abbrev pub by_site : Parts → Result Parts ProviderStep → Bool → Outcome
by_site config (Err step) kept = fails (plain steps.NoSite)
by_site config (Ok wellknown) kept = by_kept config wellknown kept

-- by the scheme of the configuration URL (row E1)
abbrev pub by_scheme : Scheme → Parts → Result Parts ProviderStep → Bool → Outcome
by_scheme Http config wellknown kept = fails (plain steps.ConfigScheme)
by_scheme Https config wellknown kept = by_site config wellknown kept

-- a disconnect by a page of this origin
abbrev pub disconnect_start_row : World → Origin → DisconnectOptions → Outcome
disconnect_start_row world origin options =
    by_scheme (scheme_of options.config) options.config (WellKnownUrlOf world.rules options.config)
    (has_pair world.kept origin (provider_origin options))

-- ---- replies in Reading

-- both files are good: by the disconnect endpoint, if there is one (rows E7, E8)
abbrev pub asks_disconnect : Origin → DisconnectOptions → Option Parts → Outcome
asks_disconnect origin options None = fails (plain steps.NoDisconnect)
asks_disconnect origin options (Some to) =
    moves Asserting (Send only_place (Disconnect to options.client options.hint origin))

-- by what a reply comes to (rows E5, E6, E8a, else row E13)
abbrev pub by_heard : Origin → DisconnectOptions → Heard → Outcome
by_heard origin options (heard.Refused step) = fails (provider_failure step)
by_heard origin options (heard.Waits replies) = stays
by_heard origin options (heard.Both config) = asks_disconnect origin options config.disconnect
by_heard origin options (heard.NotWaited replies) = ignored NotWaited

-- ---- the reply in Asserting

-- the permissions that go with this account, by whether the account is kept (row E9, else row E10)
abbrev pub forgotten : Origin → Origin → List ℕ → Bool → Effect
forgotten page provider account true = Forget (triple_of page provider account)
forgotten page provider account false = ForgetPair page provider

-- the permissions that go, by what was read of the reply (rows E9, E10, E11)
abbrev pub forgets : List Triple → Origin → Origin → Result (List ℕ) TokenStep → Effect
forgets kept page provider (Ok account) = forgotten page provider account (has_triple kept (triple_of page provider account))
forgets kept page provider (Err step) = ForgetPair page provider

-- the failure where the reply is refused, with the step of the reply; none is an error of the provider
abbrev pub refusal : TokenStep → Failure
refusal (token_steps.Reply s) = detailed steps.DisconnectReply (details.Reply s)
refusal token_steps.Cors = plain steps.DisconnectCors
refusal token_steps.Shape = plain steps.DisconnectShape
refusal (token_steps.ProviderError code url) = plain steps.DisconnectShape

-- what the page gets, by what was read of the reply
abbrev pub answer : Result (List ℕ) TokenStep → Finish
answer (Ok account) = Disconnected
answer (Err step) = Failed (refusal step)

-- the permissions go first, and then the page gets its answer
abbrev pub answered : List Triple → Origin → Origin → Result (List ℕ) TokenStep → Outcome
answered kept page provider read = after (forgets kept page provider read) (finishes (answer read))

-- a reply, by its kind (else row E13)
abbrev pub asserting_reply : List Triple → Origin → Origin → ReplyKind → List ℕ → Outcome
asserting_reply kept page provider kinds.Disconnect raw = answered kept page provider (DisconnectOf raw (origin_text page))
asserting_reply kept page provider _ raw = ignored NotWaited

-- ---- inputs

-- a reply of the provider, by the stage; no call is at a stage that is not named
abbrev pub stage_reply : World → DisconnectFacts → Stage → ReplyKind → List ℕ → Outcome
stage_reply world facts Reading kind raw =
    by_heard facts.origin facts.options (reply_heard world.rules facts.replies facts.options.config kind raw)
stage_reply world facts Asserting kind raw = asserting_reply world.kept facts.origin (provider_origin facts.options) kind raw
stage_reply world facts _ kind raw = ignored NotWaited

-- a reply, by whether it is one of the provider (else row E13)
abbrev pub provider_reply : World → DisconnectFacts → Bool → ReplyKind → List ℕ → Outcome
provider_reply world facts true kind raw = stage_reply world facts facts.stage kind raw
provider_reply world facts false kind raw = ignored NotWaited

-- an input of a call that is not over: rows E5 to E11 and E13
abbrev pub input_row : World → DisconnectFacts → Input → Outcome
input_row world facts (Reply place kind raw) = provider_reply world facts (place == only_place) kind raw
input_row world facts _ = ignored NotOffered

-- an input of a call
abbrev pub disconnect_row : World → Option DisconnectFacts → Input → Outcome
disconnect_row world None input = ignored CallEnded
disconnect_row world (Some facts) input = input_row world facts input

-- what is known of a call after an input
abbrev pub input_facts : World → DisconnectFacts → Input → Option DisconnectFacts
input_facts world facts input = facts_after world facts input (input_row world facts input)

-- ---- for private clauses

-- the first requests, or the step at which the call fails
abbrev pub first_outcome : Result (List Effect) FailStep → Outcome
first_outcome (Ok effects) = record { effects = effects; stage = Some Reading }
first_outcome (Err step) = fails (plain step)
