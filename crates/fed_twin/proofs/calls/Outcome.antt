-- What providers can tell of an outcome of a call.
use Rattle.std.proofs.Common.{◌≡◌, ℕ, Bool, true, false, ◌||◌, cond, List, [], ◌∷◌, ◌++◌, Some, None, refl, sym, ap}
use Rattle.std.proofs.Common.{ap₂}
use Rattle.std.proofs.Common.{◌∙◌}
use Rattle.std.proofs.lemmas.List.Elements.{filter_map-append}
use Rattle.std.specs.List.{filter_map, cons_option, list_any, flat_map}
use Rattle.url.specs.Parts.{Parts}
use Rattle.fed_origin.specs.WebUrl.{host_of}
use Rattle.fed_jar.specs.Send.{jar_text}
use Rattle.fed_consent.specs.declared.table.ask.Ask.{Ask}
use Rattle.fed_consent.specs.declared.table.ask.Ask.TheVariants as asks
use Rattle.fed_consent.specs.declared.table.effect.Effect.{Effect as CallEffect}
use Rattle.fed_consent.specs.declared.table.effect.Effect.TheVariants as does
use Rattle.fed_consent.specs.Outcomes.{Outcome}
use Rattle.fed_trace.specs.OfCall.{asked}
use Rattle.fed_trace.specs.Begun.{GetCall}
use Rattle.fed_trace.specs.Effect as effects
use Rattle.fed_trace.specs.Effect.{Effect}
use Rattle.fed_trace.specs.Known.{world_at}
use Rattle.fed_trace.specs.Row.{call_effects, cookies_with, moves, outcome_effects}
use Rattle.fed_trace.specs.Trace.{Trace, now_at, cookies}
use Rattle.fed_trace.proofs.happens.Says.{outcome_asks}
use Rattle.fed_twin.specs.Script.{names}
use Rattle.fed_twin.specs.Providers.{Providers, is_provider}
use Rattle.fed_twin.specs.Seen.{Login, Sent, seen}
use Rattle.fed_twin.specs.Same.{SameWorlds}
use Rattle.fed_twin.proofs.calls.Call.{AgreeWorlds, IsQuiet, told_effect, AllOwn, SameOutcome}
use Rattle.fed_twin.proofs.seen.Look.{now_same, text_same, status_same}
use Rattle.fed_trace.proofs.effects.Silent.{goes_silent}
use Rattle.fed_status.specs.Kept.{triples_of_pair}
use Rattle.fed_status.specs.Shared.{World}

-- the Cookie fields of requests to providers are the same
pub record SameCookies (p : Providers) (ck ck' : Ask → List ℕ) : Type 0 where
  pub wellknown : (to : Parts) → ck (asks.WellKnown to) ≡ ck' (asks.WellKnown to)
  pub config : (to : Parts) → ck (asks.Config to) ≡ ck' (asks.Config to)
  pub accounts : (to : Parts) → is_provider p (host_of to) ≡ true → ck (asks.Accounts to) ≡ ck' (asks.Accounts to)

-- ---- what is told of a get is all that is seen

seen_told : (p : Providers) (w : World) (ck : Ask → List ℕ) (call page : ℕ) (es : List CallEffect)
    → filter_map (seen p) (flat_map (call_effects w ck GetCall call page) es)
    ≡ filter_map (seen p) (flat_map (call_effects w ck GetCall call page) (filter_map told_effect es))
seen_told p w ck call page [] = refl
seen_told p w ck call page (does.Send q (asks.WellKnown to) ∷ es) =
    ap (λ xs. Sent call q (asks.WellKnown to) (ck (asks.WellKnown to)) ∷ xs) (seen_told p w ck call page es)
seen_told p w ck call page (does.Send q (asks.Config to) ∷ es) =
    ap (λ xs. Sent call q (asks.Config to) (ck (asks.Config to)) ∷ xs) (seen_told p w ck call page es)
seen_told p w ck call page (does.Send q (asks.Accounts to) ∷ es) =
    ap (λ xs. Sent call q (asks.Accounts to) (ck (asks.Accounts to)) ∷ xs) (seen_told p w ck call page es)
seen_told p w ck call page (does.Send q (asks.Metadata to client origin) ∷ es) = seen_told p w ck call page es
seen_told p w ck call page (does.Send q (asks.Assertion ask) ∷ es) = seen_told p w ck call page es
seen_told p w ck call page (does.Send q (asks.Disconnect to client hint origin) ∷ es) = seen_told p w ck call page es
seen_told p w ck call page (does.SetLogin origin status ∷ es) =
    ap (cons_option (cond (is_provider p origin.host) (Some (Login origin status)) None)) (seen_told p w ck call page es)
seen_told p w ck call page (does.Finish finish ∷ es) = seen_told p w ck call page es
seen_told p w ck call page (does.Ignored why ∷ es) = seen_told p w ck call page es
seen_told p w ck call page (does.Dialog dialog ∷ es) = seen_told p w ck call page es
seen_told p w ck call page (does.Dropped place failure ∷ es) = seen_told p w ck call page es
seen_told p w ck call page (does.Window place url ∷ es) = seen_told p w ck call page es
seen_told p w ck call page (does.Keep triple ∷ es) = seen_told p w ck call page es
seen_told p w ck call page (does.Forget triple ∷ es) = seen_told p w ck call page es
seen_told p w ck call page (does.ForgetPair o u ∷ es) =
    goes_silent (seen p) (λ t. refl) (triples_of_pair w.kept o u) (flat_map (call_effects w ck GetCall call page) es)
    ∙ seen_told p w ck call page es
seen_told p w ck call page (does.ClearFlag origin ∷ es) = seen_told p w ck call page es

seen_cookies : (p : Providers) (w w' : World) (ck ck' : Ask → List ℕ) → SameCookies p ck ck' → (call page page' : ℕ) (es : List CallEffect)
    → AllOwn p es
    → filter_map (seen p) (flat_map (call_effects w ck GetCall call page) es)
    ≡ filter_map (seen p) (flat_map (call_effects w' ck' GetCall call page') es)
seen_cookies p w w' ck ck' h call page page' [] own = refl
seen_cookies p w w' ck ck' h call page page' (does.Send q (asks.WellKnown to) ∷ es) own =
    ap₂ (λ x xs. Sent call q (asks.WellKnown to) x ∷ xs) (h.wellknown to) (seen_cookies p w w' ck ck' h call page page' es own.1)
seen_cookies p w w' ck ck' h call page page' (does.Send q (asks.Config to) ∷ es) own =
    ap₂ (λ x xs. Sent call q (asks.Config to) x ∷ xs) (h.config to) (seen_cookies p w w' ck ck' h call page page' es own.1)
seen_cookies p w w' ck ck' h call page page' (does.Send q (asks.Accounts to) ∷ es) own =
    ap₂ (λ x xs. Sent call q (asks.Accounts to) x ∷ xs) (h.accounts to own.0) (seen_cookies p w w' ck ck' h call page page' es own.1)
seen_cookies p w w' ck ck' h call page page' (does.Send q (asks.Metadata to client origin) ∷ es) own =
    seen_cookies p w w' ck ck' h call page page' es own.1
seen_cookies p w w' ck ck' h call page page' (does.Send q (asks.Assertion ask) ∷ es) own =
    seen_cookies p w w' ck ck' h call page page' es own.1
seen_cookies p w w' ck ck' h call page page' (does.Send q (asks.Disconnect to client hint origin) ∷ es) own =
    seen_cookies p w w' ck ck' h call page page' es own.1
seen_cookies p w w' ck ck' h call page page' (does.SetLogin origin status ∷ es) own =
    ap (cons_option (cond (is_provider p origin.host) (Some (Login origin status)) None))
    (seen_cookies p w w' ck ck' h call page page' es own.1)
seen_cookies p w w' ck ck' h call page page' (does.Finish finish ∷ es) own = seen_cookies p w w' ck ck' h call page page' es own.1
seen_cookies p w w' ck ck' h call page page' (does.Ignored why ∷ es) own = seen_cookies p w w' ck ck' h call page page' es own.1
seen_cookies p w w' ck ck' h call page page' (does.Dialog dialog ∷ es) own = seen_cookies p w w' ck ck' h call page page' es own.1
seen_cookies p w w' ck ck' h call page page' (does.Dropped place failure ∷ es) own = seen_cookies p w w' ck ck' h call page page' es own.1
seen_cookies p w w' ck ck' h call page page' (does.Window place url ∷ es) own = seen_cookies p w w' ck ck' h call page page' es own.1
seen_cookies p w w' ck ck' h call page page' (does.Keep triple ∷ es) own = seen_cookies p w w' ck ck' h call page page' es own.1
seen_cookies p w w' ck ck' h call page page' (does.Forget triple ∷ es) own = seen_cookies p w w' ck ck' h call page page' es own.1
seen_cookies p w w' ck ck' h call page page' (does.ForgetPair o u ∷ es) own =
    goes_silent (seen p) (λ t. refl) (triples_of_pair w.kept o u) (flat_map (call_effects w ck GetCall call page) es)
    ∙ seen_cookies p w w' ck ck' h call page page' es own.1
    ∙ sym (goes_silent (seen p) (λ t. refl) (triples_of_pair w'.kept o u) (flat_map (call_effects w' ck' GetCall call page') es))
seen_cookies p w w' ck ck' h call page page' (does.ClearFlag origin ∷ es) own = seen_cookies p w w' ck ck' h call page page' es own.1

-- the same of what is done in both
seen_done : (p : Providers) (w w' : World) (ck ck' : Ask → List ℕ) → SameCookies p ck ck' → (call page page' : ℕ) (es es' : List CallEffect)
    → AllOwn p es
    → filter_map told_effect es ≡ filter_map told_effect es'
    → filter_map (seen p) (flat_map (call_effects w ck GetCall call page) es)
    ≡ filter_map (seen p) (flat_map (call_effects w' ck' GetCall call page') es')
seen_done p w w' ck ck' h call page page' es es' own told =
    seen_cookies p w w' ck ck' h call page page' es own ∙ seen_told p w' ck' call page' es
    ∙ ap (λ l. filter_map (seen p) (flat_map (call_effects w' ck' GetCall call page') l)) told
    ∙ sym (seen_told p w' ck' call page' es')

pub seen_outcome : (p : Providers) (w w' : World) (ck ck' : Ask → List ℕ) → SameCookies p ck ck' → (call page page' : ℕ) (o o' : Outcome)
    → SameOutcome p o o'
    → filter_map (seen p) (outcome_effects w ck GetCall call page o)
    ≡ filter_map (seen p) (outcome_effects w' ck' GetCall call page' o')
seen_outcome p w w' ck ck' h call page page' o o' same =
    filter_map-append (seen p) (flat_map (call_effects w ck GetCall call page) o.effects) (moves GetCall call o.stage)
    ∙ ap₂ (λ xs st. xs ++ filter_map (seen p) (moves GetCall call st))
    (seen_done p w w' ck ck' h call page page' o.effects o'.effects same.own same.told) same.stage
    ∙ sym (filter_map-append (seen p) (flat_map (call_effects w' ck' GetCall call page') o'.effects) (moves GetCall call o'.stage))

-- nothing is seen of an outcome of which providers are told nothing and in which the call stays
pub unseen_outcome : (p : Providers) (w : World) (ck : Ask → List ℕ) (call page : ℕ) (o : Outcome) → filter_map told_effect o.effects ≡ []
    → o.stage ≡ None → filter_map (seen p) (outcome_effects w ck GetCall call page o) ≡ []
unseen_outcome p w ck call page o told stays =
    filter_map-append (seen p) (flat_map (call_effects w ck GetCall call page) o.effects) (moves GetCall call o.stage)
    ∙ ap (λ xs. xs ++ filter_map (seen p) (moves GetCall call o.stage))
    (seen_told p w ck call page o.effects ∙ ap (λ l. filter_map (seen p) (flat_map (call_effects w ck GetCall call page) l)) told)
    ∙ ap (λ st. filter_map (seen p) (moves GetCall call st)) stays

-- ---- quiet rows

or_parts : (a b : Bool) → a || b ≡ false → (a ≡ false) × (b ≡ false)
or_parts false b h = (refl, h)
or_parts true b h = absurd (cc)

asks_none : (call : ℕ) (es : List Effect) → list_any names es ≡ false → filter_map (asked call) es ≡ []
asks_none call [] h = refl
asks_none call (effects.Sent kind c q (asks.Assertion ask) cookies ∷ es) h = absurd (cc)
asks_none call (effects.Sent kind c q (asks.Disconnect to client hint origin) cookies ∷ es) h = absurd (cc)
asks_none call (effects.Sent kind c q (asks.WellKnown to) cookies ∷ es) h = asks_none call es h
asks_none call (effects.Sent kind c q (asks.Config to) cookies ∷ es) h = asks_none call es h
asks_none call (effects.Sent kind c q (asks.Accounts to) cookies ∷ es) h = asks_none call es h
asks_none call (effects.Sent kind c q (asks.Metadata to client origin) cookies ∷ es) h = asks_none call es h
asks_none call (effects.Time time ∷ es) h = asks_none call es h
asks_none call (effects.Page page origin ∷ es) h = asks_none call es h
asks_none call (effects.Closed page ∷ es) h = asks_none call es h
asks_none call (effects.Window c place url ∷ es) h = asks_none call es h
asks_none call (effects.Kept triple stays ∷ es) h = asks_none call es h
asks_none call (effects.Flag origin stays ∷ es) h = asks_none call es h
asks_none call (effects.Cookie cookie ∷ es) h = asks_none call es h
asks_none call (effects.Login origin status ∷ es) h = asks_none call es h
asks_none call (effects.Begin b ∷ es) h = asks_none call es h
asks_none call (effects.Move kind c stage ∷ es) h = asks_none call es h
asks_none call (effects.Shown c dialog ∷ es) h = asks_none call es h
asks_none call (effects.Dropped c provider failure ∷ es) h = asks_none call es h
asks_none call (effects.Result c page finish ∷ es) h = asks_none call es h
asks_none call (effects.Ignored why ∷ es) h = asks_none call es h

pub quiet_outcome : (w : World) (ck : Ask → List ℕ) (call page : ℕ) (o : Outcome)
    → list_any names (outcome_effects w ck GetCall call page o) ≡ false
    → IsQuiet o
quiet_outcome w ck call page o h =
    sym (outcome_asks w ck GetCall call page o) ∙ asks_none call (outcome_effects w ck GetCall call page o) h

-- ---- what two worlds have in common

pub cookies_agree : (p : Providers) (T U : Trace) → SameWorlds p T U → SameCookies p (cookies_with T) (cookies_with U)
cookies_agree p T U h =
    record {
      wellknown = λ to. refl;
      config = λ to. refl;
      accounts = λ to known.
          ap (λ r. jar_text r to (now_at T) (cookies T)) h.rules
          ∙ ap (λ n. jar_text p.rules to n (cookies T)) (now_same p T U h.now h.seen)
          ∙ text_same p T U to (now_at U) known h.seen ∙ ap (λ r. jar_text r to (now_at U) (cookies U)) (sym h.rules');
    }

pub worlds_agree : (p : Providers) (T U : Trace) → SameWorlds p T U → AgreeWorlds p (world_at T) (world_at U)
worlds_agree p T U h = record { rules = h.rules; rules' = h.rules'; status = λ o known. status_same p T U o known h.seen }
