-- What a disconnect call does at an input: it asks its provider, takes the answer, ends, or rests.
use Rattle.std.proofs.Common.{◌≡◌, ◌==◌, ℕ, Bool, true, false, List, [], Option, Some, None, refl, sym, subst, arith}
use Rattle.std.proofs.lemmas.Bool.Decides.{nat_tests}
use Rattle.std.specs.Prelude.{Result, Ok, Err}
use Rattle.std.specs.List.{filter_map, list_any}
use Rattle.url.specs.Parts.{Parts}
use Rattle.fed_origin.specs.declared.stage.ReplyKind.{ReplyKind}
use Rattle.fed_origin.specs.declared.stage.ReplyKind.TheVariants as kinds
use Rattle.fed_origin.specs.declared.stage.Stage.{Stage}
use Rattle.fed_origin.specs.declared.stage.Stage.TheVariants as stages
use Rattle.fed_origin.specs.declared.origin.Origin.{Origin}
use Rattle.fed_origin.specs.declared.status.Triple.{Triple}
use Rattle.fed_origin.specs.Origin.{origin_text}
use Rattle.fed_token.specs.declared.step.TokenStep.{TokenStep}
use Rattle.fed_token.specs.Read.{DisconnectOf}
use Rattle.fed_status.specs.Kept.{has_triple, triple_of}
use Rattle.fed_status.specs.Shared.{World}
use Rattle.fed_provider.specs.declared.first_replies.Heard.{Heard}
use Rattle.fed_provider.specs.declared.first_replies.Heard.TheVariants as heard
use Rattle.fed_provider.specs.FirstReplies.{reply_heard}
use Rattle.fed_consent.specs.declared.table.ask.Ask.TheVariants as asks
use Rattle.fed_consent.specs.declared.table.effect.Effect.{Effect as CallEffect}
use Rattle.fed_consent.specs.declared.table.effect.Effect.TheVariants as does
use Rattle.fed_consent.specs.declared.table.finish.Finish.TheVariants.{Disconnected}
use Rattle.fed_consent.specs.declared.table.input.Input.{Input}
use Rattle.fed_consent.specs.declared.table.input.Input.TheVariants as inputs
use Rattle.fed_consent.specs.Outcomes.{Outcome, after, finishes, moves, only_place}
use Rattle.fed_disconnect.specs.Facts.{DisconnectFacts, provider_origin}
use Rattle.fed_disconnect.specs.Rows.{asks_disconnect, by_heard, answered, asserting_reply, forgotten, input_row, provider_reply}
use Rattle.fed_disconnect.specs.Rows.{stage_reply}
use Rattle.fed_trace.proofs.happens.Says.{finish_of}
use Rattle.fed_laws.proofs.turns.Turn.{LeavesKept}

-- a request goes out
abbrev pub is_sent : CallEffect → Bool
is_sent (does.Send provider ask) = true
is_sent _ = false

abbrev pub SendsNone : Outcome → Type 0
SendsNone o = list_any is_sent o.effects ≡ false

pub data Way (world : World) (f : DisconnectFacts) (input : Input) (o : Outcome) : Type 0 where
  Sends : (to : Parts) → f.stage ≡ stages.Reading
      → o ≡ moves stages.Asserting (does.Send only_place (asks.Disconnect to f.options.client f.options.hint f.origin))
      → Way world f input o
  Answers : (raw : List ℕ) → f.stage ≡ stages.Asserting → input ≡ inputs.Reply only_place kinds.Disconnect raw
      → o ≡ answered world.kept f.origin (provider_origin f.options) (DisconnectOf raw (origin_text f.origin)) → SendsNone o
      → Way world f input o
  Ends : o.stage ≡ Some stages.Ended → LeavesKept o → SendsNone o → Way world f input o
  Rests : o.stage ≡ None → filter_map finish_of o.effects ≡ [] → LeavesKept o → SendsNone o → Way world f input o

asks_way : (world : World) (f : DisconnectFacts) (input : Input) → f.stage ≡ stages.Reading → (to : Option Parts)
    → Way world f input (asks_disconnect f.origin f.options to)
asks_way world f input at None = Ends refl refl refl
asks_way world f input at (Some to) = Sends to at refl

heard_way : (world : World) (f : DisconnectFacts) (input : Input) → f.stage ≡ stages.Reading → (h : Heard)
    → Way world f input (by_heard f.origin f.options h)
heard_way world f input at (heard.Refused step) = Ends refl refl refl
heard_way world f input at (heard.Waits replies) = Rests refl refl refl refl
heard_way world f input at (heard.Both config) = asks_way world f input at config.disconnect
heard_way world f input at (heard.NotWaited replies) = Rests refl refl refl refl

-- the answer is no request
answer_sends_none : (kept : List Triple) (page provider : Origin) (read : Result (List ℕ) TokenStep)
    → SendsNone (answered kept page provider read)
answer_sends_none kept page provider (Err step) = refl
answer_sends_none kept page provider (Ok account) = go (has_triple kept (triple_of page provider account))
  where
    go : (known : Bool) → SendsNone (after (forgotten page provider account known) (finishes Disconnected))
    go true = refl
    go false = refl

sending_way : (world : World) (f : DisconnectFacts) (kind : ReplyKind) (raw : List ℕ) → f.stage ≡ stages.Asserting
    → Way world f (inputs.Reply only_place kind raw) (asserting_reply world.kept f.origin (provider_origin f.options) kind raw)
sending_way world f kinds.Disconnect raw at =
    Answers raw at refl refl
    (answer_sends_none world.kept f.origin (provider_origin f.options) (DisconnectOf raw (origin_text f.origin)))
sending_way world f kinds.WellKnown raw at = Rests refl refl refl refl
sending_way world f kinds.Config raw at = Rests refl refl refl refl
sending_way world f kinds.Accounts raw at = Rests refl refl refl refl
sending_way world f kinds.Metadata raw at = Rests refl refl refl refl
sending_way world f kinds.Assertion raw at = Rests refl refl refl refl

stage_way : (world : World) (f : DisconnectFacts) (stage : Stage) → f.stage ≡ stage → (kind : ReplyKind) (raw : List ℕ)
    → Way world f (inputs.Reply only_place kind raw) (stage_reply world f stage kind raw)
stage_way world f stages.Reading at kind raw = heard_way world f _ at (reply_heard world.rules f.replies f.options.config kind raw)
stage_way world f stages.Asserting at kind raw = sending_way world f kind raw at
stage_way world f stages.Listing at kind raw = Rests refl refl refl refl
stage_way world f stages.Mismatch at kind raw = Rests refl refl refl refl
stage_way world f stages.Gathering at kind raw = Rests refl refl refl refl
stage_way world f stages.Window at kind raw = Rests refl refl refl refl
stage_way world f stages.Choosing at kind raw = Rests refl refl refl refl
stage_way world f stages.Prompting at kind raw = Rests refl refl refl refl
stage_way world f stages.Ended at kind raw = Rests refl refl refl refl

reply_way : (world : World) (f : DisconnectFacts) (place : ℕ) (kind : ReplyKind) (raw : List ℕ) (own : Bool)
    → (place == only_place) ≡ own
    → Way world f (inputs.Reply place kind raw) (provider_reply world f own kind raw)
reply_way world f place kind raw true is =
    let here : place ≡ only_place = grind (arith, nat_tests, is) in
    subst (λ p. Way world f (inputs.Reply p kind raw) (stage_reply world f f.stage kind raw)) (sym here)
    (stage_way world f f.stage refl kind raw)
reply_way world f place kind raw false is = Rests refl refl refl refl

pub way_of : (world : World) (f : DisconnectFacts) (input : Input) → Way world f input (input_row world f input)
way_of world f (inputs.Reply place kind raw) = reply_way world f place kind raw (place == only_place) refl
way_of world f (inputs.Choose place account) = Rests refl refl refl refl
way_of world f inputs.GoOn = Rests refl refl refl refl
way_of world f inputs.Cancel = Rests refl refl refl refl
way_of world f inputs.SignIn = Rests refl refl refl refl
way_of world f inputs.Shut = Rests refl refl refl refl
way_of world f inputs.Resume = Rests refl refl refl refl
way_of world f inputs.Abort = Rests refl refl refl refl
