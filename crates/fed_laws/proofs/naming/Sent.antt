-- Who sends a request that names its page: a get or a disconnect call, at an input of it.
use Rattle.std.proofs.Common.{◌≡◌, ℕ, Bool, true, false, nat_eq, cond, ◌||◌, map, List, [], ◌∷◌, Option, Some, None, refl, sym, ap, subst}
use Rattle.std.proofs.Common.{◌∙◌}
use Rattle.std.specs.Prelude.{⊤}
use Rattle.std.specs.List.{AllByRecursion, filter_map, flat_map, list_any}
use Rattle.url.specs.Parts.{Parts}
use Rattle.fed_origin.specs.declared.origin.Origin.{Origin}
use Rattle.fed_origin.specs.declared.stage.Stage.{Stage}
use Rattle.fed_origin.specs.declared.stage.Stage.TheVariants.{Reading, Asserting}
use Rattle.fed_origin.specs.declared.status.Triple.{Triple}
use Rattle.fed_status.specs.Kept.{triples_of_pair}
use Rattle.fed_status.specs.Shared.{World}
use Rattle.fed_consent.specs.Ask.{named_origin}
use Rattle.fed_consent.specs.declared.table.ask.Ask.{Ask}
use Rattle.fed_consent.specs.declared.table.ask.Ask.TheVariants as asks
use Rattle.fed_consent.specs.declared.table.effect.Effect.{Effect as CallEffect}
use Rattle.fed_consent.specs.declared.table.effect.Effect.TheVariants as does
use Rattle.fed_consent.specs.declared.table.input.Input.{Input}
use Rattle.fed_consent.specs.declared.table.input.Input.TheVariants as inputs
use Rattle.fed_consent.specs.Outcomes.{Outcome, only_place}
use Rattle.fed_consent.specs.Outcomes as outcomes
use Rattle.fed_call.specs.Facts.{Facts}
use Rattle.fed_disconnect.specs.Facts.{DisconnectFacts}
use Rattle.fed_script.specs.declared.event.Event.{Event}
use Rattle.fed_script.specs.declared.event.Event.TheVariants as events
use Rattle.fed_script.specs.declared.event.Event.TheVariants.{At, ClosePage, Disconnect, Get, Load, Prevent, SetStatus}
use Rattle.fed_trace.specs.Begun.{CallKind, DisconnectCall, GetCall, ToDisconnect, ToGet}
use Rattle.fed_trace.specs.Call.{OfDisconnect, input_row}
use Rattle.fed_trace.specs.Effect.{Effect, Flag, Kept, Login, Sent}
use Rattle.fed_trace.specs.Known.{input_to, is_begun, known_at, world_at}
use Rattle.fed_trace.specs.OfCall.{Has}
use Rattle.fed_trace.specs.Row.{call_effects, close_effects, cookies_with, effects_of, have_changes, input_effects, is_busy}
use Rattle.fed_trace.specs.Row.{load_changes, moves, outcome_effects, set_logins}
use Rattle.fed_trace.specs.Trace.{Trace, gets, page_at, pending_of}
use Rattle.fed_trace.specs.Windows.{windows_of}
use Rattle.fed_trace.proofs.calls.Pending.{load_silent}
use Rattle.fed_trace.proofs.calls.Resumed.{idpclose_silent}
use Rattle.fed_trace.proofs.effects.Silent.{AllSilent, silent_append, silent_map}
use Rattle.fed_trace.proofs.events.Aside.{close_silent, have_silent, says_silent}
use Rattle.fed_trace.proofs.happens.Ends.{event_for}
use Rattle.fed_trace.proofs.happens.Gets.{ByDisconnect, ByGet, ByNone, Taking, taking}
use Rattle.fed_trace.proofs.happens.Over.{over_ignored}
use Rattle.fed_trace.proofs.happens.Says.{own}
use Rattle.fed_trace.proofs.happens.Taken.{Knows, Meets, does_at, does_it, outcome_of}
use Rattle.fed_laws.proofs.disconnects.Turns.{Answers, Ends, Rests, Sends, SendsNone, Way, is_sent, way_of}
use Rattle.fed_laws.proofs.naming.Gets.{NoDisconnect, for_disconnect, no_disconnect, disconnects}
use Rattle.fed_laws.proofs.permissions.Changes.{all_both, has_all}
use Rattle.fed_laws.proofs.tokens.Token.{says_one}
use Rattle.fed_laws.proofs.turns.First.{IsBefore, begin_silent}

-- the page that a request names
abbrev names : Effect → Option Origin
names (Sent kind call provider ask cookies) = named_origin ask
names _ = None

-- the call and the request of an effect that sends one
abbrev sent : Effect → Option (ℕ × Ask)
sent (Sent kind call provider ask cookies) = Some (call, ask)
sent _ = None

-- ---- a call that sends nothing

unsent : (world : World) (cookies : Ask → List ℕ) (kind : CallKind) (call page : ℕ) (effects : List CallEffect)
    → list_any is_sent effects ≡ false → AllSilent names (flat_map (call_effects world cookies kind call page) effects)
unsent world cookies kind call page [] none = tt
unsent world cookies kind call page (does.Send provider ask ∷ effects) none = absurd (cc)
unsent world cookies kind call page (does.Finish finish ∷ effects) none = (refl, unsent world cookies kind call page effects none)
unsent world cookies kind call page (does.Ignored why ∷ effects) none = (refl, unsent world cookies kind call page effects none)
unsent world cookies kind call page (does.Dialog dialog ∷ effects) none = (refl, unsent world cookies kind call page effects none)
unsent world cookies kind call page (does.Dropped place failure ∷ effects) none =
    (refl, unsent world cookies kind call page effects none)
unsent world cookies kind call page (does.Window place url ∷ effects) none = (refl, unsent world cookies kind call page effects none)
unsent world cookies kind call page (does.SetLogin origin status ∷ effects) none =
    (refl, unsent world cookies kind call page effects none)
unsent world cookies kind call page (does.Keep triple ∷ effects) none = (refl, unsent world cookies kind call page effects none)
unsent world cookies kind call page (does.Forget triple ∷ effects) none = (refl, unsent world cookies kind call page effects none)
unsent world cookies kind call page (does.ClearFlag origin ∷ effects) none = (refl, unsent world cookies kind call page effects none)
unsent world cookies kind call page (does.ForgetPair p q ∷ effects) none =
    silent_append names _ _ (silent_map names (λ triple. Kept triple false) (λ triple. refl) (triples_of_pair world.kept p q))
    (unsent world cookies kind call page effects none)

moves_silent : (kind : CallKind) (call : ℕ) (stage : Option Stage) → AllSilent names (moves kind call stage)
moves_silent kind call None = tt
moves_silent kind call (Some stage) = (refl, tt)

outcome_unsent : (world : World) (cookies : Ask → List ℕ) (kind : CallKind) (call page : ℕ) (o : Outcome) → SendsNone o
    → AllSilent names (outcome_effects world cookies kind call page o)
outcome_unsent world cookies kind call page o none =
    silent_append names (flat_map (call_effects world cookies kind call page) o.effects) (moves kind call o.stage)
    (unsent world cookies kind call page o.effects none) (moves_silent kind call o.stage)

-- ---- what a get sends

-- a request has its cookies, and asks for no disconnect
abbrev OfGet : (Ask → List ℕ) → Effect → Type 0
OfGet carries (Sent kind call provider ask cookies) = (cookies ≡ carries ask) × (for_disconnect ask ≡ false)
OfGet carries _ = ⊤

record Neither (a b : Bool) : Type 0 where
  first : a ≡ false
  second : b ≡ false

neither : (a b : Bool) → a || b ≡ false → Neither a b
neither false b is = record { first = refl; second = is }
neither true b is = absurd (cc)

of_get : (world : World) (cookies : Ask → List ℕ) (kind : CallKind) (call page : ℕ) (effects : List CallEffect)
    → list_any disconnects effects ≡ false
    → AllByRecursion (OfGet cookies) (flat_map (call_effects world cookies kind call page) effects)
of_get world cookies kind call page [] none = tt
of_get world cookies kind call page (does.Send provider ask ∷ effects) none =
    let both = neither (for_disconnect ask) (list_any disconnects effects) none in
    ((refl, both.first), of_get world cookies kind call page effects both.second)
of_get world cookies kind call page (does.Finish finish ∷ effects) none = (tt, of_get world cookies kind call page effects none)
of_get world cookies kind call page (does.Ignored why ∷ effects) none = (tt, of_get world cookies kind call page effects none)
of_get world cookies kind call page (does.Dialog dialog ∷ effects) none = (tt, of_get world cookies kind call page effects none)
of_get world cookies kind call page (does.Dropped place failure ∷ effects) none = (tt, of_get world cookies kind call page effects none)
of_get world cookies kind call page (does.Window place url ∷ effects) none = (tt, of_get world cookies kind call page effects none)
of_get world cookies kind call page (does.SetLogin origin status ∷ effects) none = (tt, of_get world cookies kind call page effects none)
of_get world cookies kind call page (does.Keep triple ∷ effects) none = (tt, of_get world cookies kind call page effects none)
of_get world cookies kind call page (does.Forget triple ∷ effects) none = (tt, of_get world cookies kind call page effects none)
of_get world cookies kind call page (does.ClearFlag origin ∷ effects) none = (tt, of_get world cookies kind call page effects none)
of_get world cookies kind call page (does.ForgetPair p q ∷ effects) none =
    all_both (OfGet cookies) _ _ (go (triples_of_pair world.kept p q)) (of_get world cookies kind call page effects none)
  where
    go : (triples : List Triple) → AllByRecursion (OfGet cookies) (map (λ triple. Kept triple false) triples)
    go [] = tt
    go (triple ∷ triples) = (tt, go triples)

outcome_of_get : (world : World) (cookies : Ask → List ℕ) (kind : CallKind) (call page : ℕ) (o : Outcome) → NoDisconnect o
    → AllByRecursion (OfGet cookies) (outcome_effects world cookies kind call page o)
outcome_of_get world cookies kind call page o none =
    all_both (OfGet cookies) (flat_map (call_effects world cookies kind call page) o.effects) (moves kind call o.stage)
    (of_get world cookies kind call page o.effects none) (go o.stage)
  where
    go : (stage : Option Stage) → AllByRecursion (OfGet cookies) (moves kind call stage)
    go None = tt
    go (Some stage) = (tt, tt)

-- ---- who sends a request that names its page

-- a disconnect call asks its provider
pub record Disconnecting (T : Trace) (event : Event) (call : ℕ) (ask : Ask) : Type 0 where
  pub facts : DisconnectFacts
  pub knows : Knows T event call (OfDisconnect facts)
  pub reading : facts.stage ≡ Reading
  pub to : Parts
  pub asks_it : ask ≡ asks.Disconnect to facts.options.client facts.options.hint facts.origin
  pub is : input_row (world_at T) (OfDisconnect facts) knows.takes.input
      ≡ outcomes.moves Asserting (does.Send only_place (asks.Disconnect to facts.options.client facts.options.hint facts.origin))

pub data Sender (T : Trace) (event : Event) (call : ℕ) (ask : Ask) (cookies : List ℕ) : Type 0 where
  IsGet : cookies ≡ cookies_with T ask → for_disconnect ask ≡ false → Sender T event call ask cookies
  IsDisconnect : Disconnecting T event call ask → Sender T event call ask cookies

module _ (kind : CallKind) (call provider : ℕ) (ask : Ask) (cookies : List ℕ) (origin : Origin) (named : named_origin ask ≡ Some origin)
  where
    abbrev request : Effect
    request = Sent kind call provider ask cookies

    -- it is none of the effects that name no page
    unnamed : {A : Type 0} (effects : List Effect) → AllSilent names effects → Has effects request → A
    unnamed effects silent has =
        let no : Some origin ≡ None = sym named ∙ has_all (λ e. names e ≡ None) effects request silent has in absurd (cc)

    by_get : (T : Trace) (event : Event) (to : ℕ) (f : Facts) → Meets T event to f → Has (effects_of T event) request
        → Sender T event call ask cookies
    by_get T event to f m has =
        let all = outcome_of_get (world_at T) (cookies_with T) GetCall to f.page (outcome_of T f m.takes.input)
        (no_disconnect (world_at T) f m.takes.input) in
        let of = has_all (OfGet (cookies_with T)) (effects_of T event) request
        (subst (AllByRecursion (OfGet (cookies_with T))) (sym (does_at T event to f m)) all) has in
        IsGet of.0 of.1

    by_disconnect : (T : Trace) (event : Event) (to : ℕ) (f : DisconnectFacts) → Knows T event to (OfDisconnect f)
        → Has (effects_of T event) request → Sender T event call ask cookies
    by_disconnect T event to f m has = go (way_of (world_at T) f m.takes.input)
      where
        o : Outcome
        o = input_row (world_at T) (OfDisconnect f) m.takes.input

        does_so : effects_of T event ≡ outcome_effects (world_at T) (cookies_with T) DisconnectCall to f.page o
        does_so = does_it T event to (OfDisconnect f) m

        never : SendsNone o → Sender T event call ask cookies
        never none =
            unnamed (effects_of T event)
            (subst (AllSilent names) (sym does_so)
            (outcome_unsent (world_at T) (cookies_with T) DisconnectCall to f.page o none)) has

        go : Way (world_at T) f m.takes.input o → Sender T event call ask cookies
        go (Sends at reading sends) =
            let asked = asks.Disconnect at f.options.client f.options.hint f.origin in
            let one : (call, ask) ≡ (to, asked) =
            says_one sent (effects_of T event) request (call, ask) (to, asked) has refl
            (ap (filter_map sent) (does_so ∙ ap (outcome_effects (world_at T) (cookies_with T) DisconnectCall to f.page) sends)) in
            IsDisconnect
            (subst (λ c. Disconnecting T event c ask) (sym (ap (λ p. p.0) one))
            (record { facts = f; knows = m; reading = reading; to = at; asks_it = ap (λ p. p.1) one; is = sends }))
        go (Answers raw at is_reply answers none) = never none
        go (Ends ended leaves none) = never none
        go (Rests still gives leaves none) = never none

    by_input : (T : Trace) (event : Event) (to : ℕ) (input : Input)
        → effects_of T event ≡ input_effects (world_at T) (cookies_with T) (is_begun T to) to (known_at T to) input
        → input_to to event ≡ cond (nat_eq to to) (Some input) None → Some event ≡ event_for to input
        → Has (effects_of T event) request → Sender T event call ask cookies
    by_input T event to input effects said is_event has = go (is_begun T to) refl
      where
        by : (begun : Bool) → is_begun T to ≡ begun
            → effects_of T event ≡ input_effects (world_at T) (cookies_with T) begun to (known_at T to) input
        by begun is = effects ∙ ap (λ b. input_effects (world_at T) (cookies_with T) b to (known_at T to) input) is

        taken : Taking T event to → Sender T event call ask cookies
        taken (ByGet f m) = by_get T event to f m has
        taken (ByDisconnect f m) = by_disconnect T event to f m has
        taken (ByNone t none) =
            unnamed (effects_of T event) (subst (AllSilent names) (sym (over_ignored T event to t none)) (refl, tt)) has

        go : (begun : Bool) → is_begun T to ≡ begun → Sender T event call ask cookies
        go false is = unnamed (effects_of T event) (subst (AllSilent names) (sym (by false is)) (refl, tt)) has
        go true is =
            taken (taking T event to
            (record {
              begun = is;
              input = input;
              is_event = is_event;
              input_is = said ∙ ap (λ b. cond b (Some input) None) (own to);
              effects = by true is;
            }))

    before : IsBefore names
    before =
        record {
          wellknown = λ n c p t k. refl;
          config = λ n c p t k. refl;
          dropped = λ c p f. refl;
          result = λ c p f. refl;
          begin = λ b. refl;
          move = λ n c s. refl;
          ignored = λ w. refl;
        }

    closes : (calls : List (ℕ × CallKind)) (page : ℕ) (o : Option Origin) → AllSilent names (close_effects calls page o)
    closes calls page None = (refl, tt)
    closes calls page (Some origin) = close_silent names (λ n c. refl) (λ p. refl) calls page

    pub sender : (T : Trace) (event : Event) → Has (effects_of T event) request → Sender T event call ask cookies
    sender T (events.Have have) has =
        unnamed _ (have_silent names (record { cookie = λ c. refl; login = λ o s. refl; kept = λ t k. refl; flag = λ o k. refl })
        (have_changes T have) have) has
    sender T (At time) has = unnamed _ (refl, tt) has
    sender T (Prevent page) has =
        unnamed _ (says_silent names (λ origin. Flag origin true) (λ o. refl) (λ w. refl) (page_at T page)) has
    sender T (SetStatus page status) has =
        unnamed _ (says_silent names (λ origin. Login origin status) (λ o. refl) (λ w. refl) (page_at T page)) has
    sender T (Load page url raw) has =
        unnamed _
        (load_silent names (λ n c. refl) (λ p o. refl) (λ c. refl) (λ o s. refl) (pending_of T page) page url
        (load_changes T url raw) (set_logins raw)) has
    sender T (ClosePage page) has = unnamed _ (closes (pending_of T page) page (page_at T page)) has
    sender T (Get page to options) has =
        unnamed _
        (begin_silent names before (world_at T) (cookies_with T) (page_at T page) (is_busy page (gets T)) page to (ToGet options)) has
    sender T (Disconnect page to config client hint) has =
        unnamed _
        (begin_silent names before (world_at T) (cookies_with T) (page_at T page) (is_busy page (gets T)) page to
        (ToDisconnect (record { config = config; client = client; hint = hint }))) has
    sender T (events.IdpClose page) has =
        unnamed _
        (idpclose_silent names (record { ignored = λ w. refl; sent = λ n c p t k. refl; move = λ n c. refl }) (world_at T)
        (cookies_with T) (known_at T) (windows_of T) (page_at T page)) has
    sender T (events.Abort to) has = by_input T (events.Abort to) to inputs.Abort refl refl refl has
    sender T (events.Reply to place kind raw) has =
        by_input T (events.Reply to place kind raw) to (inputs.Reply place kind raw) refl refl refl has
    sender T (events.Choose to place account) has =
        by_input T (events.Choose to place account) to (inputs.Choose place account) refl refl refl has
    sender T (events.GoOn to) has = by_input T (events.GoOn to) to inputs.GoOn refl refl refl has
    sender T (events.Cancel to) has = by_input T (events.Cancel to) to inputs.Cancel refl refl refl has
    sender T (events.SignIn to) has = by_input T (events.SignIn to) to inputs.SignIn refl refl refl has
    sender T (events.ShutWindow to) has = by_input T (events.ShutWindow to) to inputs.Shut refl refl refl has
