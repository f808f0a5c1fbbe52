-- What a disconnect call does at an input: it asks for no token, and is given none.
use Rattle.std.proofs.Common.{◌≡◌, ◌==◌, ℕ, Bool, true, false, List, [], ◌∷◌, Option, Some, None, Ok, Err, refl}
use Rattle.std.proofs.Common.{◌∙◌}
use Rattle.std.specs.Prelude.{Result}
use Rattle.std.specs.List.{filter_map, flat_map}
use Rattle.url.specs.Parts.{Parts}
use Rattle.fed_origin.specs.declared.origin.Origin.{Origin}
use Rattle.fed_origin.specs.declared.stage.ReplyKind.{ReplyKind}
use Rattle.fed_origin.specs.declared.stage.ReplyKind.TheVariants as kinds
use Rattle.fed_origin.specs.declared.stage.Stage.{Stage}
use Rattle.fed_origin.specs.declared.stage.Stage.TheVariants as stages
use Rattle.fed_origin.specs.declared.status.Triple.{Triple}
use Rattle.fed_origin.specs.Origin.{origin_text}
use Rattle.fed_token.specs.declared.step.TokenStep.{TokenStep}
use Rattle.fed_token.specs.Read.{DisconnectOf}
use Rattle.fed_status.specs.Kept.{has_triple, triple_of}
use Rattle.fed_status.specs.Shared.{World}
use Rattle.fed_provider.specs.declared.first_replies.Heard.{Heard}
use Rattle.fed_provider.specs.declared.first_replies.Heard.TheVariants as heard
use Rattle.fed_provider.specs.FirstReplies.{reply_heard}
use Rattle.fed_origin.specs.declared.status.LoginStatus.{LoginStatus}
use Rattle.fed_consent.specs.declared.table.effect.Effect.{Effect as CallEffect}
use Rattle.fed_consent.specs.declared.table.effect.Effect.TheVariants as does
use Rattle.fed_consent.specs.declared.table.finish.Finish.{Finish}
use Rattle.fed_consent.specs.declared.table.finish.Finish.TheVariants.{Token}
use Rattle.fed_consent.specs.declared.table.input.Input.{Input}
use Rattle.fed_consent.specs.declared.table.input.Input.TheVariants as inputs
use Rattle.fed_consent.specs.Outcomes.{Outcome, only_place}
use Rattle.fed_disconnect.specs.Facts.{DisconnectOptions, DisconnectFacts, provider_origin}
use Rattle.fed_disconnect.specs.Rows.{asks_disconnect, by_heard, answered, asserting_reply, stage_reply, provider_reply}
use Rattle.fed_disconnect.specs.Rows.{input_row}
use Rattle.fed_consent.specs.declared.table.ask.Ask.{Ask}
use Rattle.fed_status.specs.Kept.{triples_of_pair}
use Rattle.fed_trace.specs.Begun.{CallKind}
use Rattle.fed_trace.specs.Effect.{login_change}
use Rattle.fed_trace.specs.Row.{call_effects, outcome_effects}
use Rattle.fed_trace.proofs.effects.Silent.{goes_silent}
use Rattle.fed_trace.proofs.happens.Says.{asks_token, finish_of, unmoved}

abbrev pub is_token : Finish → Bool
is_token (Token auto provider token) = true
is_token _ = false

-- an effect sets a login status
abbrev pub sets_login : CallEffect → Option (Origin × LoginStatus)
sets_login (does.SetLogin origin status) = Some (origin, status)
sets_login _ = None

pub data Turn (o : Outcome) : Type 0 where
  Gives : (finish : Finish) → is_token finish ≡ false → filter_map asks_token o.effects ≡ []
      → filter_map finish_of o.effects ≡ finish ∷ []
      → filter_map sets_login o.effects ≡ [] → Turn o
  GivesNone : filter_map asks_token o.effects ≡ [] → filter_map finish_of o.effects ≡ [] → filter_map sets_login o.effects ≡ []
      → Turn o

asks_turn : (origin : Origin) (options : DisconnectOptions) (to : Option Parts) → Turn (asks_disconnect origin options to)
asks_turn origin options None = Gives _ refl refl refl refl
asks_turn origin options (Some to) = GivesNone refl refl refl

heard_turn : (origin : Origin) (options : DisconnectOptions) (h : Heard) → Turn (by_heard origin options h)
heard_turn origin options (heard.Refused step) = Gives _ refl refl refl refl
heard_turn origin options (heard.Waits replies) = GivesNone refl refl refl
heard_turn origin options (heard.Both config) = asks_turn origin options config.disconnect
heard_turn origin options (heard.NotWaited replies) = GivesNone refl refl refl

known_turn : (kept : List Triple) (page provider : Origin) (account : List ℕ) (known : Bool)
    → has_triple kept (triple_of page provider account) ≡ known
    → Turn (answered kept page provider (Ok account))
known_turn kept page provider account true is = rw is (Gives _ refl refl refl refl)
known_turn kept page provider account false is = rw is (Gives _ refl refl refl refl)

answered_turn : (kept : List Triple) (page provider : Origin) (read : Result (List ℕ) TokenStep)
    → Turn (answered kept page provider read)
answered_turn kept page provider (Ok account) =
    known_turn kept page provider account (has_triple kept (triple_of page provider account)) refl
answered_turn kept page provider (Err step) = Gives _ refl refl refl refl

sending_turn : (kept : List Triple) (page provider : Origin) (kind : ReplyKind) (raw : List ℕ)
    → Turn (asserting_reply kept page provider kind raw)
sending_turn kept page provider kinds.Disconnect raw = answered_turn kept page provider (DisconnectOf raw (origin_text page))
sending_turn kept page provider kinds.WellKnown raw = GivesNone refl refl refl
sending_turn kept page provider kinds.Config raw = GivesNone refl refl refl
sending_turn kept page provider kinds.Accounts raw = GivesNone refl refl refl
sending_turn kept page provider kinds.Metadata raw = GivesNone refl refl refl
sending_turn kept page provider kinds.Assertion raw = GivesNone refl refl refl

stage_turn : (world : World) (facts : DisconnectFacts) (stage : Stage) (kind : ReplyKind) (raw : List ℕ)
    → Turn (stage_reply world facts stage kind raw)
stage_turn world facts stages.Reading kind raw =
    heard_turn facts.origin facts.options (reply_heard world.rules facts.replies facts.options.config kind raw)
stage_turn world facts stages.Asserting kind raw = sending_turn world.kept facts.origin (provider_origin facts.options) kind raw
stage_turn world facts stages.Listing kind raw = GivesNone refl refl refl
stage_turn world facts stages.Mismatch kind raw = GivesNone refl refl refl
stage_turn world facts stages.Gathering kind raw = GivesNone refl refl refl
stage_turn world facts stages.Window kind raw = GivesNone refl refl refl
stage_turn world facts stages.Choosing kind raw = GivesNone refl refl refl
stage_turn world facts stages.Prompting kind raw = GivesNone refl refl refl
stage_turn world facts stages.Ended kind raw = GivesNone refl refl refl

provider_turn : (world : World) (facts : DisconnectFacts) (own : Bool) (kind : ReplyKind) (raw : List ℕ)
    → Turn (provider_reply world facts own kind raw)
provider_turn world facts true kind raw = stage_turn world facts facts.stage kind raw
provider_turn world facts false kind raw = GivesNone refl refl refl

pub disconnect_turn : (world : World) (facts : DisconnectFacts) (input : Input) → Turn (input_row world facts input)
disconnect_turn world facts (inputs.Reply place kind raw) = provider_turn world facts (place == only_place) kind raw
disconnect_turn world facts (inputs.Choose place account) = GivesNone refl refl refl
disconnect_turn world facts inputs.GoOn = GivesNone refl refl refl
disconnect_turn world facts inputs.Cancel = GivesNone refl refl refl
disconnect_turn world facts inputs.SignIn = GivesNone refl refl refl
disconnect_turn world facts inputs.Shut = GivesNone refl refl refl
disconnect_turn world facts inputs.Resume = GivesNone refl refl refl
disconnect_turn world facts inputs.Abort = GivesNone refl refl refl

-- ---- no login status is set

no_more_logins : (world : World) (cookies : Ask → List ℕ) (kind : CallKind) (call page : ℕ) (effects : List CallEffect)
    → filter_map sets_login effects ≡ []
    → filter_map login_change (flat_map (call_effects world cookies kind call page) effects) ≡ []
no_more_logins world cookies kind call page [] none = refl
no_more_logins world cookies kind call page (does.SetLogin origin status ∷ effects) none = absurd (cc)
no_more_logins world cookies kind call page (does.Send provider ask ∷ effects) none =
    no_more_logins world cookies kind call page effects none
no_more_logins world cookies kind call page (does.Finish finish ∷ effects) none = no_more_logins world cookies kind call page effects none
no_more_logins world cookies kind call page (does.Ignored why ∷ effects) none = no_more_logins world cookies kind call page effects none
no_more_logins world cookies kind call page (does.Dialog dialog ∷ effects) none = no_more_logins world cookies kind call page effects none
no_more_logins world cookies kind call page (does.Dropped place failure ∷ effects) none =
    no_more_logins world cookies kind call page effects none
no_more_logins world cookies kind call page (does.Window place url ∷ effects) none =
    no_more_logins world cookies kind call page effects none
no_more_logins world cookies kind call page (does.Keep triple ∷ effects) none = no_more_logins world cookies kind call page effects none
no_more_logins world cookies kind call page (does.Forget triple ∷ effects) none = no_more_logins world cookies kind call page effects none
no_more_logins world cookies kind call page (does.ForgetPair p q ∷ effects) none =
    goes_silent login_change (λ t. refl) (triples_of_pair world.kept p q) (flat_map (call_effects world cookies kind call page) effects)
    ∙ no_more_logins world cookies kind call page effects none
no_more_logins world cookies kind call page (does.ClearFlag origin ∷ effects) none =
    no_more_logins world cookies kind call page effects none

pub sets_no_login : (world : World) (cookies : Ask → List ℕ) (kind : CallKind) (call page : ℕ) (o : Outcome) → Turn o
    → filter_map login_change (outcome_effects world cookies kind call page o) ≡ []
sets_no_login world cookies kind call page o turn =
    unmoved login_change (λ n c s. refl) kind call o.stage (flat_map (call_effects world cookies kind call page) o.effects)
    ∙ no_more_logins world cookies kind call page o.effects (none turn)
  where
    none : Turn o → filter_map sets_login o.effects ≡ []
    none (Gives finish other asks gives logins) = logins
    none (GivesNone asks gives logins) = logins
