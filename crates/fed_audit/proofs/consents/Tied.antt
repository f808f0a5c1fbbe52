-- An event is the cause of a request for a token exactly where the row of it asks for one, of the account that is then awaited.
use Rattle.std.proofs.Common.{◌≡◌, ℕ, List, [], ◌∷◌, Option, Some, None, refl, sym, ap, subst, ◌∙◌}
use Rattle.std.specs.Option.{option_or}
use Rattle.std.specs.List.{filter_map, cons_option}
use Rattle.fed_consent.specs.declared.table.ask.Ask.{Ask}
use Rattle.fed_consent.specs.declared.table.ask.Ask.TheVariants as asks
use Rattle.fed_consent.specs.Ask.{kind_of}
use Rattle.fed_consent.specs.Consent.{AssertionFields}
use Rattle.fed_call.specs.Account.{account_awaited}
use Rattle.fed_request.specs.Request.{request_bytes}
use Rattle.fed_script.specs.declared.event.Event.{Event}
use Rattle.fed_trace.specs.Begun.{CallKind}
use Rattle.fed_trace.specs.Effect.{Effect, Sent, Dropped, Time, Page, Closed, Cookie, Login, Begin, Move, Shown, Window, Kept, Flag, Result}
use Rattle.fed_trace.specs.Effect.{Ignored}
use Rattle.fed_trace.specs.Known.{facts_at}
use Rattle.fed_trace.specs.OfCall.{Has}
use Rattle.fed_trace.specs.Records.{records_of, records}
use Rattle.fed_trace.specs.Row.{effects_of, row_of, with_event, IsRun}
use Rattle.fed_trace.specs.Trace.{Trace}
use Rattle.fed_trace.specs.declared.out.Out.TheVariants as outs
use Rattle.fed_laws.specs.Cause.{AssertionCause}
use Rattle.fed_laws.proofs.causes.Agreed.{cause_lem}
use Rattle.fed_laws.proofs.followed.Acts.{followed_lem}
use Rattle.fed_audit.specs.Asked.{token_asked, first_asked}
use Rattle.fed_audit.proofs.consents.Awaits.{token_sent, asks_only}

-- ---- the records of a row tell whom it asks

ask_told : (line call provider : ℕ) (ask : Ask) (cookies : List ℕ) (kind : CallKind)
    → token_asked (outs.Request line call provider (kind_of ask) (request_bytes ask cookies))
    ≡ token_sent (Sent kind call provider ask cookies)
ask_told line call provider (asks.WellKnown to) cookies kind = refl
ask_told line call provider (asks.Config to) cookies kind = refl
ask_told line call provider (asks.Accounts to) cookies kind = refl
ask_told line call provider (asks.Metadata to client origin) cookies kind = refl
ask_told line call provider (asks.Assertion ask) cookies kind = refl
ask_told line call provider (asks.Disconnect to client hint origin) cookies kind = refl

-- the first that a list has, if it has one
abbrev first_in : {A : Type 0} → List A → Option A
first_in [] = None
first_in (x ∷ xs) = Some x

first_cons : {A : Type 0} (o : Option A) (xs : List A) → first_in (cons_option o xs) ≡ option_or o (first_in xs)
first_cons None xs = refl
first_cons (Some x) xs = refl

first_told : (line : ℕ) (effects : List Effect) → first_asked (records_of line effects) ≡ first_in (filter_map token_sent effects)
first_told line [] = refl
first_told line (Sent kind call provider ask cookies ∷ effects) =
    ap (λ o. option_or o (first_asked (records_of line effects))) (ask_told line call provider ask cookies kind)
    ∙ ap (option_or (token_sent (Sent kind call provider ask cookies))) (first_told line effects)
    ∙ sym (first_cons (token_sent (Sent kind call provider ask cookies)) (filter_map token_sent effects))
first_told line (Dropped call place failure ∷ effects) = first_told line effects
first_told line (Shown call dialog ∷ effects) = first_told line effects
first_told line (Window call provider url ∷ effects) = first_told line effects
first_told line (Result call page finish ∷ effects) = first_told line effects
first_told line (Ignored why ∷ effects) = first_told line effects
first_told line (Time time ∷ effects) = first_told line effects
first_told line (Page page origin ∷ effects) = first_told line effects
first_told line (Closed page ∷ effects) = first_told line effects
first_told line (Cookie cookie ∷ effects) = first_told line effects
first_told line (Login origin status ∷ effects) = first_told line effects
first_told line (Begin begun ∷ effects) = first_told line effects
first_told line (Move kind call stage ∷ effects) = first_told line effects
first_told line (Kept triple stays ∷ effects) = first_told line effects
first_told line (Flag origin stays ∷ effects) = first_told line effects

-- ---- the effect that a record tells of

record SendsToken (effects : List Effect) (call provider : ℕ) : Type 0 where
  kind : CallKind
  ask : AssertionFields
  cookies : List ℕ
  has : Has effects (Sent kind call provider (asks.Assertion ask) cookies)

later : (effect : Effect) (effects : List Effect) (call provider : ℕ) → SendsToken effects call provider
    → SendsToken (effect ∷ effects) call provider
later effect effects call provider s =
    record {
      kind = s.kind;
      ask = s.ask;
      cookies = s.cookies;
      has = record { before = effect ∷ s.has.before; after = s.has.after; all = ap (λ es. effect ∷ es) s.has.all };
    }

-- the first that is told is sent
is_sent : (effects : List Effect) (call provider : ℕ) → first_in (filter_map token_sent effects) ≡ Some (call, provider)
    → SendsToken effects call provider
is_sent [] call provider is = absurd (cc)
is_sent (Sent kind c p (asks.Assertion ask) cookies ∷ effects) call provider is =
    let both : ◌≡◌ {A = ℕ × ℕ} (c, p) (call, provider) = cc in
    record {
      kind = kind;
      ask = ask;
      cookies = cookies;
      has = record {
        before = [];
        after = effects;
        all = ap (λ (x : ℕ × ℕ). Sent kind x.0 x.1 (asks.Assertion ask) cookies ∷ effects) both;
      };
    }
is_sent (Sent kind c p (asks.WellKnown to) cookies ∷ effects) call provider is =
    later _ effects call provider (is_sent effects call provider is)
is_sent (Sent kind c p (asks.Config to) cookies ∷ effects) call provider is =
    later _ effects call provider (is_sent effects call provider is)
is_sent (Sent kind c p (asks.Accounts to) cookies ∷ effects) call provider is =
    later _ effects call provider (is_sent effects call provider is)
is_sent (Sent kind c p (asks.Metadata to client origin) cookies ∷ effects) call provider is =
    later _ effects call provider (is_sent effects call provider is)
is_sent (Sent kind c p (asks.Disconnect to client hint origin) cookies ∷ effects) call provider is =
    later _ effects call provider (is_sent effects call provider is)
is_sent (Dropped c place failure ∷ effects) call provider is = later _ effects call provider (is_sent effects call provider is)
is_sent (Shown c dialog ∷ effects) call provider is = later _ effects call provider (is_sent effects call provider is)
is_sent (Window c p url ∷ effects) call provider is = later _ effects call provider (is_sent effects call provider is)
is_sent (Result c page finish ∷ effects) call provider is = later _ effects call provider (is_sent effects call provider is)
is_sent (Ignored why ∷ effects) call provider is = later _ effects call provider (is_sent effects call provider is)
is_sent (Time time ∷ effects) call provider is = later _ effects call provider (is_sent effects call provider is)
is_sent (Page page origin ∷ effects) call provider is = later _ effects call provider (is_sent effects call provider is)
is_sent (Closed page ∷ effects) call provider is = later _ effects call provider (is_sent effects call provider is)
is_sent (Cookie cookie ∷ effects) call provider is = later _ effects call provider (is_sent effects call provider is)
is_sent (Login origin status ∷ effects) call provider is = later _ effects call provider (is_sent effects call provider is)
is_sent (Begin begun ∷ effects) call provider is = later _ effects call provider (is_sent effects call provider is)
is_sent (Move kind c stage ∷ effects) call provider is = later _ effects call provider (is_sent effects call provider is)
is_sent (Kept triple stays ∷ effects) call provider is = later _ effects call provider (is_sent effects call provider is)
is_sent (Flag origin stays ∷ effects) call provider is = later _ effects call provider (is_sent effects call provider is)

-- ---- both ways

-- what a session's own row tells of a request for a token
pub record Tells (T : Trace) (line : ℕ) (event : Event) (call provider : ℕ) (account : List ℕ) : Type 0 where
  pub asks : first_asked (records (row_of T line event)) ≡ Some (call, provider)
  pub awaits : account_awaited (facts_at (with_event T line event) call) ≡ Some account

-- the trace with the event is a run
abbrev Runs : Trace → ℕ → Event → Type 0
Runs T line event = IsRun T.header (row_of T line event ∷ T.rows)

tells_of : (T : Trace) (line : ℕ) (event : Event) (call provider : ℕ) → (s : SendsToken (effects_of T event) call provider)
    → Runs T line event → Tells T line event call provider s.ask.account
tells_of T line event call provider s run =
    let only = asks_only T line event s.kind call provider s.ask s.cookies run.1 s.has in
    record {
      asks = first_told line (effects_of T event) ∙ ap first_in only.once;
      awaits = only.awaits;
    }

-- a cause is told
pub cause_tells : (T : Trace) (line : ℕ) (event : Event) (call provider : ℕ) (account : List ℕ) → Runs T line event
    → AssertionCause T event call provider account → Tells T line event call provider account
cause_tells T line event call provider account run cause =
    let sends = followed_lem (with_event T line event) run [] T.rows (row_of T line event) call provider account refl cause in
    let s : SendsToken (effects_of T event) call provider =
    record { kind = _; ask = sends.0; cookies = sends.1; has = sends.3 } in
    subst (Tells T line event call provider) sends.2 (tells_of T line event call provider s run)

-- what is told is caused
pub told_is_caused : (T : Trace) (line : ℕ) (event : Event) (call provider : ℕ) (account : List ℕ) → Runs T line event
    → Tells T line event call provider account → AssertionCause T event call provider account
told_is_caused T line event call provider account run told =
    let s = is_sent (effects_of T event) call provider (sym (first_told line (effects_of T event)) ∙ told.asks) in
    let caused = cause_lem (with_event T line event) run [] T.rows (row_of T line event) s.kind call provider s.ask s.cookies refl s.has in
    let awaits = (tells_of T line event call provider s run).awaits in
    let same : s.ask.account ≡ account = let both : Some s.ask.account ≡ Some account = sym awaits ∙ told.awaits in cc in
    subst (AssertionCause T event call provider) same caused.0
