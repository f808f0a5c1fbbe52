-- A disconnect clears no flag, sends no first request but where it begins, and opens no login window.
use Rattle.std.proofs.Common.{◌≡◌, ◌==◌, ℕ, Bool, true, false, List, [], Option, Some, None, Ok, Err, refl}
use Rattle.std.specs.Prelude.{Result, option_map, unwrap_or}
use Rattle.std.specs.List.{filter_map}
use Rattle.url.specs.Parts.{Parts}
use Rattle.fed_origin.specs.declared.origin.Origin.{Origin}
use Rattle.fed_origin.specs.declared.scheme.Scheme.{Scheme}
use Rattle.fed_origin.specs.declared.scheme.Scheme.TheVariants.{Http, Https}
use Rattle.fed_origin.specs.declared.stage.ReplyKind.{ReplyKind}
use Rattle.fed_origin.specs.declared.stage.ReplyKind.TheVariants as kinds
use Rattle.fed_origin.specs.declared.stage.Stage.{Stage}
use Rattle.fed_origin.specs.declared.stage.Stage.TheVariants as stages
use Rattle.fed_origin.specs.declared.status.Triple.{Triple}
use Rattle.fed_origin.specs.Origin.{origin_text}
use Rattle.fed_origin.specs.WebUrl.{scheme_of}
use Rattle.fed_provider.specs.declared.first_replies.Heard.{Heard}
use Rattle.fed_provider.specs.declared.first_replies.Heard.TheVariants as heard
use Rattle.fed_provider.specs.declared.step.ProviderStep.{ProviderStep}
use Rattle.fed_provider.specs.FirstReplies.{reply_heard}
use Rattle.fed_provider.specs.WellKnown.{WellKnownUrlOf}
use Rattle.fed_status.specs.Kept.{has_pair, has_triple, triple_of}
use Rattle.fed_status.specs.Shared.{World}
use Rattle.fed_token.specs.declared.step.TokenStep.{TokenStep}
use Rattle.fed_token.specs.Read.{DisconnectOf}
use Rattle.fed_consent.specs.declared.table.ask.Ask.{Ask}
use Rattle.fed_consent.specs.declared.table.ask.Ask.TheVariants as asks
use Rattle.fed_consent.specs.declared.table.effect.Effect.{Effect as CallEffect}
use Rattle.fed_consent.specs.declared.table.effect.Effect.TheVariants as does
use Rattle.fed_consent.specs.declared.table.input.Input.{Input}
use Rattle.fed_consent.specs.declared.table.input.Input.TheVariants as inputs
use Rattle.fed_consent.specs.Outcomes.{Outcome, only_place}
use Rattle.fed_disconnect.specs.Facts.{DisconnectOptions, DisconnectFacts, provider_origin}
use Rattle.fed_disconnect.specs.Rows.{by_site, by_scheme, disconnect_start_row, asks_disconnect, by_heard, answered, asserting_reply}
use Rattle.fed_disconnect.specs.Rows.{stage_reply, provider_reply, input_row}
use Rattle.fed_trace.specs.Effect.{is_window}
use Rattle.fed_trace.proofs.happens.Disconnects.{sets_login}
use Rattle.fed_twin.proofs.calls.Few.{clears_flag}

-- ---- where it begins

pub record IsBegun (o : Outcome) : Type 0 where
  pub flags : filter_map clears_flag o.effects ≡ []
  pub logins : filter_map sets_login o.effects ≡ []
  -- it does not come to Window
  pub shut : unwrap_or (option_map is_window o.stage) false ≡ false

site_begun : (config : Parts) (site : Result Parts ProviderStep) (kept : Bool) → IsBegun (by_site config site kept)
site_begun config (Err step) kept = record { flags = refl; logins = refl; shut = refl }
site_begun config (Ok wellknown) true = record { flags = refl; logins = refl; shut = refl }
site_begun config (Ok wellknown) false = record { flags = refl; logins = refl; shut = refl }

scheme_begun : (scheme : Scheme) (config : Parts) (site : Result Parts ProviderStep) (kept : Bool)
    → IsBegun (by_scheme scheme config site kept)
scheme_begun Http config site kept = record { flags = refl; logins = refl; shut = refl }
scheme_begun Https config site kept = site_begun config site kept

pub disconnect_begun : (world : World) (origin : Origin) (options : DisconnectOptions)
    → IsBegun (disconnect_start_row world origin options)
disconnect_begun world origin options =
    scheme_begun (scheme_of options.config) options.config (WellKnownUrlOf world.rules options.config)
    (has_pair world.kept origin (provider_origin options))

-- ---- at an input

-- one of the first three requests
abbrev pub first_asked : CallEffect → Option Ask
first_asked (does.Send place (asks.WellKnown to)) = Some (asks.WellKnown to)
first_asked (does.Send place (asks.Config to)) = Some (asks.Config to)
first_asked (does.Send place (asks.Accounts to)) = Some (asks.Accounts to)
first_asked _ = None

pub record IsLater (o : Outcome) : Type 0 where
  pub flags : filter_map clears_flag o.effects ≡ []
  pub firsts : filter_map first_asked o.effects ≡ []
  -- it does not come to Window
  pub shut : unwrap_or (option_map is_window o.stage) false ≡ false

asks_later : (origin : Origin) (options : DisconnectOptions) (to : Option Parts) → IsLater (asks_disconnect origin options to)
asks_later origin options None = record { flags = refl; firsts = refl; shut = refl }
asks_later origin options (Some to) = record { flags = refl; firsts = refl; shut = refl }

heard_later : (origin : Origin) (options : DisconnectOptions) (h : Heard) → IsLater (by_heard origin options h)
heard_later origin options (heard.Refused step) = record { flags = refl; firsts = refl; shut = refl }
heard_later origin options (heard.Waits replies) = record { flags = refl; firsts = refl; shut = refl }
heard_later origin options (heard.Both config) = asks_later origin options config.disconnect
heard_later origin options (heard.NotWaited replies) = record { flags = refl; firsts = refl; shut = refl }

known_later : (kept : List Triple) (page provider : Origin) (account : List ℕ) (known : Bool)
    → has_triple kept (triple_of page provider account) ≡ known → IsLater (answered kept page provider (Ok account))
known_later kept page provider account true is = rw is (record { flags = refl; firsts = refl; shut = refl })
known_later kept page provider account false is = rw is (record { flags = refl; firsts = refl; shut = refl })

answered_later : (kept : List Triple) (page provider : Origin) (read : Result (List ℕ) TokenStep)
    → IsLater (answered kept page provider read)
answered_later kept page provider (Ok account) =
    known_later kept page provider account (has_triple kept (triple_of page provider account)) refl
answered_later kept page provider (Err step) = record { flags = refl; firsts = refl; shut = refl }

sending_later : (kept : List Triple) (page provider : Origin) (kind : ReplyKind) (raw : List ℕ)
    → IsLater (asserting_reply kept page provider kind raw)
sending_later kept page provider kinds.Disconnect raw = answered_later kept page provider (DisconnectOf raw (origin_text page))
sending_later kept page provider kinds.WellKnown raw = record { flags = refl; firsts = refl; shut = refl }
sending_later kept page provider kinds.Config raw = record { flags = refl; firsts = refl; shut = refl }
sending_later kept page provider kinds.Accounts raw = record { flags = refl; firsts = refl; shut = refl }
sending_later kept page provider kinds.Metadata raw = record { flags = refl; firsts = refl; shut = refl }
sending_later kept page provider kinds.Assertion raw = record { flags = refl; firsts = refl; shut = refl }

stage_later : (world : World) (facts : DisconnectFacts) (stage : Stage) (kind : ReplyKind) (raw : List ℕ)
    → IsLater (stage_reply world facts stage kind raw)
stage_later world facts stages.Reading kind raw =
    heard_later facts.origin facts.options (reply_heard world.rules facts.replies facts.options.config kind raw)
stage_later world facts stages.Asserting kind raw = sending_later world.kept facts.origin (provider_origin facts.options) kind raw
stage_later world facts stages.Listing kind raw = record { flags = refl; firsts = refl; shut = refl }
stage_later world facts stages.Mismatch kind raw = record { flags = refl; firsts = refl; shut = refl }
stage_later world facts stages.Gathering kind raw = record { flags = refl; firsts = refl; shut = refl }
stage_later world facts stages.Window kind raw = record { flags = refl; firsts = refl; shut = refl }
stage_later world facts stages.Choosing kind raw = record { flags = refl; firsts = refl; shut = refl }
stage_later world facts stages.Prompting kind raw = record { flags = refl; firsts = refl; shut = refl }
stage_later world facts stages.Ended kind raw = record { flags = refl; firsts = refl; shut = refl }

provider_later : (world : World) (facts : DisconnectFacts) (own : Bool) (kind : ReplyKind) (raw : List ℕ)
    → IsLater (provider_reply world facts own kind raw)
provider_later world facts true kind raw = stage_later world facts facts.stage kind raw
provider_later world facts false kind raw = record { flags = refl; firsts = refl; shut = refl }

pub disconnect_later : (world : World) (facts : DisconnectFacts) (input : Input) → IsLater (input_row world facts input)
disconnect_later world facts (inputs.Reply place kind raw) = provider_later world facts (place == only_place) kind raw
disconnect_later world facts (inputs.Choose place account) = record { flags = refl; firsts = refl; shut = refl }
disconnect_later world facts inputs.GoOn = record { flags = refl; firsts = refl; shut = refl }
disconnect_later world facts inputs.Cancel = record { flags = refl; firsts = refl; shut = refl }
disconnect_later world facts inputs.SignIn = record { flags = refl; firsts = refl; shut = refl }
disconnect_later world facts inputs.Shut = record { flags = refl; firsts = refl; shut = refl }
disconnect_later world facts inputs.Resume = record { flags = refl; firsts = refl; shut = refl }
disconnect_later world facts inputs.Abort = record { flags = refl; firsts = refl; shut = refl }
