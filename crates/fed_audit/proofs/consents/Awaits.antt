-- A row that asks for a token is the only one of its call, asks once, and leaves the call waiting for the token of that account.
use Rattle.std.proofs.Common.{◌≡◌, ℕ, List, [], ◌∷◌, Option, Some, None, map, refl, sym, ap, ◌∙◌, cond}
use Rattle.std.specs.Prelude.{option_map, unwrap_or}
use Rattle.std.specs.List.{filter_map, flat_map, list_any}
use Rattle.fed_consent.specs.declared.table.ask.Ask.{Ask}
use Rattle.fed_consent.specs.declared.table.ask.Ask.TheVariants as asks
use Rattle.fed_consent.specs.declared.table.effect.Effect.{Effect as CallEffect}
use Rattle.fed_consent.specs.declared.table.effect.Effect.TheVariants as does
use Rattle.fed_consent.specs.Consent.{AssertionFields}
use Rattle.fed_status.specs.Kept.{triples_of_pair}
use Rattle.fed_status.specs.Shared.{World}
use Rattle.fed_consent.specs.Outcomes.{Outcome}
use Rattle.fed_consent.specs.Outcomes as outcomes
use Rattle.fed_call.specs.Facts.{Facts, at_stage, with_input}
use Rattle.fed_call.specs.Account.{account_awaited}
use Rattle.fed_script.specs.declared.event.Event.{Event}
use Rattle.fed_trace.specs.Begun.{CallKind, GetCall, kind_asked}
use Rattle.fed_trace.specs.Call.{first_row}
use Rattle.fed_trace.specs.Effect.{Effect, Sent}
use Rattle.fed_trace.specs.Known.{world_at, facts_at}
use Rattle.fed_trace.specs.OfCall.{Has, asked}
use Rattle.fed_trace.specs.Row.{effects_of, with_event, call_effects, cookies_with, outcome_effects, IsNew}
use Rattle.fed_trace.specs.Trace.{Trace}
use Rattle.fed_trace.proofs.happens.Ends.{Happens, Left, Ends, Started, Took, Resumed, Starts, Takes}
use Rattle.fed_trace.proofs.happens.First.{first_turn, is_first}
use Rattle.fed_trace.proofs.happens.Gets.{others_ask}
use Rattle.fed_trace.proofs.happens.Happens.{happens}
use Rattle.fed_trace.proofs.effects.Silent.{goes_silent}
use Rattle.fed_trace.proofs.happens.Says.{own, outcome_asks, asks_token, unmoved}
use Rattle.fed_trace.proofs.happens.Taken.{Meets, does_at, outcome_of, facts_taken}
use Rattle.fed_laws.proofs.pending.Begun.{first_asks_none}
use Rattle.fed_laws.proofs.pending.Taken.{asks_at}
use Rattle.fed_laws.proofs.tokens.Token.{says_none, says_one}
use Rattle.fed_laws.proofs.turns.Turn.{Requests, Turn, Asks, Gives, Goes, picks_asked, request_of, turn_at}

-- the call and the provider of which an effect asks for a token
abbrev pub token_sent : Effect → Option (ℕ × ℕ)
token_sent (Sent kind call provider (asks.Assertion ask) cookies) = Some (call, provider)
token_sent _ = None

-- what a row that asks for a token leaves
pub record AsksOnly (T : Trace) (line : ℕ) (event : Event) (call provider : ℕ) (ask : AssertionFields) : Type 0 where
  pub once : filter_map token_sent (effects_of T event) ≡ (call, provider) ∷ []
  pub awaits : account_awaited (facts_at (with_event T line event) call) ≡ Some ask.account

-- of the requests for a token that a call makes, the provider
abbrev places : ℕ → List (ℕ × AssertionFields) → List (ℕ × ℕ)
places call asked = map (λ x. (call, x.0)) asked

does_send : (world : World) (cookies : Ask → List ℕ) (kind : CallKind) (call page : ℕ) (effects : List CallEffect)
    → filter_map token_sent (flat_map (call_effects world cookies kind call page) effects) ≡ places call (filter_map asks_token effects)
does_send world cookies kind call page [] = refl
does_send world cookies kind call page (does.Send provider (asks.WellKnown to) ∷ effects) = does_send world cookies kind call page effects
does_send world cookies kind call page (does.Send provider (asks.Config to) ∷ effects) = does_send world cookies kind call page effects
does_send world cookies kind call page (does.Send provider (asks.Accounts to) ∷ effects) = does_send world cookies kind call page effects
does_send world cookies kind call page (does.Send provider (asks.Metadata to client origin) ∷ effects) =
    does_send world cookies kind call page effects
does_send world cookies kind call page (does.Send provider (asks.Disconnect to client hint origin) ∷ effects) =
    does_send world cookies kind call page effects
does_send world cookies kind call page (does.Send provider (asks.Assertion ask) ∷ effects) =
    ap (λ xs. (call, provider) ∷ xs) (does_send world cookies kind call page effects)
does_send world cookies kind call page (does.Finish finish ∷ effects) = does_send world cookies kind call page effects
does_send world cookies kind call page (does.Ignored why ∷ effects) = does_send world cookies kind call page effects
does_send world cookies kind call page (does.Dialog dialog ∷ effects) = does_send world cookies kind call page effects
does_send world cookies kind call page (does.Dropped place failure ∷ effects) = does_send world cookies kind call page effects
does_send world cookies kind call page (does.Window place url ∷ effects) = does_send world cookies kind call page effects
does_send world cookies kind call page (does.SetLogin origin status ∷ effects) = does_send world cookies kind call page effects
does_send world cookies kind call page (does.Keep triple ∷ effects) = does_send world cookies kind call page effects
does_send world cookies kind call page (does.Forget triple ∷ effects) = does_send world cookies kind call page effects
does_send world cookies kind call page (does.ForgetPair p q ∷ effects) =
    goes_silent token_sent (λ t. refl) (triples_of_pair world.kept p q) (flat_map (call_effects world cookies kind call page) effects)
    ∙ does_send world cookies kind call page effects
does_send world cookies kind call page (does.ClearFlag origin ∷ effects) = does_send world cookies kind call page effects

-- a request for a token among the effects of an outcome
once_sent : (T : Trace) (call page : ℕ) (o : Outcome) (place : ℕ) (ask : AssertionFields) → Requests o place ask
    → filter_map token_sent (outcome_effects (world_at T) (cookies_with T) GetCall call page o) ≡ (call, place) ∷ []
once_sent T call page o place ask r =
    unmoved token_sent (λ n c s. refl) GetCall call o.stage
    (flat_map (call_effects (world_at T) (cookies_with T) GetCall call page) o.effects)
    ∙ does_send (world_at T) (cookies_with T) GetCall call page o.effects ∙ ap (places call) r.asks_it

pub asks_only : (T : Trace) (line : ℕ) (event : Event) (kind : CallKind) (call provider : ℕ) (ask : AssertionFields) (cookies : List ℕ)
    → IsNew T.rows event
    → Has (effects_of T event) (Sent kind call provider (asks.Assertion ask) cookies)
    → AsksOnly T line event call provider ask
asks_only T line event kind call provider ask cookies new has = go (happens T event call)
  where
    sent : Effect
    sent = Sent kind call provider (asks.Assertion ask) cookies

    is : asked call sent ≡ Some (provider, ask)
    is = ap (λ b. cond b (Some (provider, ask)) None) (own call)

    never : filter_map (asked call) (effects_of T event) ≡ [] → AsksOnly T line event call provider ask
    never none = says_none (asked call) (effects_of T event) sent (provider, ask) has is none

    turned : (f : Facts) → (m : Meets T event call f) → Turn (world_at T) f m.takes.input (outcome_of T f m.takes.input)
        → AsksOnly T line event call provider ask
    turned f m (Gives finish ended none gives token) = never (asks_at T event call f m ∙ none)
    turned f m (Goes none gives leaves back) = never (asks_at T event call f m ∙ none)
    turned f m (Asks a) =
        let o = outcome_of T f m.takes.input in
        let place = a.offered.place in
        let made = request_of f a.offered a.manner a.disclosure in
        let both : ◌≡◌ {A = ℕ × AssertionFields} (provider, ask) (place, made) =
        says_one (asked call) (effects_of T event) sent (provider, ask) (place, made) has is (asks_at T event call f m ∙ a.is.asks_it) in
        let place_is : place ≡ provider = sym (ap (λ x. x.0) both) in
        let account_is : a.offered.candidate.account.id ≡ ask.account = sym (ap (λ x. x.1.account) both) in
        let told = with_input (world_at T) (list_any outcomes.is_ignored o.effects) m.takes.input f in
        record {
          once = ap (filter_map token_sent) (does_at T event call f m) ∙ once_sent T call f.page o place made a.is
              ∙ ap (λ p. (call, p) ∷ []) place_is;
          awaits = ap account_awaited (facts_taken T line event call f m)
              ∙ ap (λ st. account_awaited (at_stage (unwrap_or st f.stage) told)) a.is.stage
              ∙ ap (option_map (λ offered. offered.candidate.account.id)) (picks_asked (world_at T) f m.takes.input o a)
              ∙ ap Some account_is;
        }

    taken : (t : Takes T event call) → (o : Option Facts) → facts_at T call ≡ o → AsksOnly T line event call provider ask
    taken t None found = never (others_ask T event call t found)
    taken t (Some f) found = turned f (record { takes = t; found = found }) (turn_at (world_at T) f t.input)

    begins_with : (s : Starts T event call) → AsksOnly T line event call provider ask
    begins_with s =
        let o = first_row (world_at T) s.busy s.begun.origin s.begun.options in
        never (ap (filter_map (asked call)) s.effects
        ∙ ap (λ c. filter_map (asked c) (outcome_effects (world_at T) (cookies_with T) (kind_asked s.begun.options) s.begun.call
        s.begun.page o)) (sym s.is_call)
        ∙ outcome_asks (world_at T) (cookies_with T) (kind_asked s.begun.options) s.begun.call s.begun.page o
        ∙ first_asks_none o (first_turn (world_at T) s.busy s.begun.origin s.begun.options
        (is_first T event s.begun.page s.begun.call s.begun.options new s.is_event).some))

    go : Happens T event call → AsksOnly T line event call provider ask
    go (Left l) = never l.quiet.asks
    go (Ends e) = never e.asks
    go (Started s) = begins_with s
    go (Took t) = taken t (facts_at T call) refl
    go (Resumed r) = never r.asks
