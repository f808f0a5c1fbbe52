-- What an event does is of calls that began.
use Rattle.std.proofs.Common.{◌≡◌, ℕ, ◌<◌, ◌≤◌, Bool, true, false, cond, List, [], ◌∷◌, length, map, Option, Some, None}
use Rattle.std.proofs.Common.{refl, sym, ap, subst, ◌∙◌}
use Rattle.std.specs.Prelude.{⊤, option_and_then}
use Rattle.std.specs.List.{AllByRecursion, flat_map}
use Rattle.std.specs.Option.{option_or}
use Rattle.fed_origin.specs.declared.origin.Origin.{Origin}
use Rattle.fed_origin.specs.declared.stage.Stage.{Stage}
use Rattle.fed_origin.specs.declared.status.Triple.{Triple}
use Rattle.fed_origin.specs.Origin.{is_trustworthy}
use Rattle.fed_status.specs.Kept.{triples_of_pair}
use Rattle.fed_status.specs.Shared.{World}
use Rattle.fed_consent.specs.Ask.{named_origin}
use Rattle.fed_consent.specs.declared.table.ask.Ask.{Ask}
use Rattle.fed_consent.specs.declared.table.effect.Effect.{Effect as CallEffect}
use Rattle.fed_consent.specs.declared.table.effect.Effect.TheVariants as does
use Rattle.fed_consent.specs.declared.table.input.Input.{Input}
use Rattle.fed_consent.specs.declared.table.input.Input.TheVariants as inputs
use Rattle.fed_consent.specs.Outcomes.{Outcome}
use Rattle.fed_call.specs.Row as get_rows
use Rattle.fed_disconnect.specs.Facts.{disconnect_options}
use Rattle.fed_disconnect.specs.Rows as disconnect_rows
use Rattle.fed_script.specs.declared.event.Event.{Event}
use Rattle.fed_script.specs.declared.event.Event.TheVariants as events
use Rattle.fed_script.specs.declared.event.Event.TheVariants.{At, ClosePage, Disconnect, Get, Load, Prevent, SetStatus}
use Rattle.fed_trace.specs.Begun.{Begun, CallKind, CallOptions, DisconnectCall, GetCall, ToDisconnect, ToGet, kind_asked}
use Rattle.fed_trace.specs.Call.{Known, OfDisconnect, OfGet, first_row, get_facts}
use Rattle.fed_trace.specs.Effect.{Effect, Sent, Dropped, Time, Page, Closed, Cookie, Login, Begin, Move, Shown, Window, Kept, Flag, Result}
use Rattle.fed_trace.specs.Effect.{Ignored}
use Rattle.fed_trace.specs.Known.{is_begun, known_at, world_at}
use Rattle.fed_trace.specs.OfCall.{Has, call_at}
use Rattle.fed_trace.specs.Row.{IsNew, IsRun, begin_effects, call_effects, close_effects, cookies_with, effects_of, have_changes}
use Rattle.fed_trace.specs.Row.{idpclose_effects, input_effects, is_busy, load_changes, moves, outcome_effects, resume_effects, row_of}
use Rattle.fed_trace.specs.Row.{set_logins}
use Rattle.fed_trace.specs.Row.{standing_call, standing_resumes, waiting_effects}
use Rattle.fed_trace.specs.Trace.{Row, Trace, cookies, gets, page_at, pending_of}
use Rattle.fed_trace.specs.Windows.{windows_of}
use Rattle.fed_trace.proofs.calls.Pending.{load_silent}
use Rattle.fed_trace.proofs.effects.Silent.{AllSilent}
use Rattle.fed_trace.proofs.events.Aside.{close_silent, have_silent, says_silent}
use Rattle.fed_trace.proofs.happens.First.{HasSome}
use Rattle.fed_trace.proofs.happens.Says.{own}
use Rattle.fed_laws.specs.Laws.{OfRuns, at}
use Rattle.fed_laws.proofs.disconnects.Sending.{sending}
use Rattle.fed_laws.proofs.pending.Asked.{invariant, row_is}
use Rattle.fed_laws.proofs.permissions.Changes.{has_all}
use Rattle.fed_laws.proofs.tokens.Token.{row_of_trace}
use Rattle.fed_audit.specs.Scene.{provider_count}
use Rattle.fed_audit.proofs.follows.Begins.{begins_is, begun_by, begun_with, if_of}
use Rattle.fed_own.specs.Calls.{IsResultOfCall, OwnResultsAreOfCalls}
use Rattle.fed_own.proofs.calls.Others.{all_two, begins_fit, disconnect_fits}
use Rattle.fed_own.proofs.calls.Placed.{facts_placed}
use Rattle.fed_own.proofs.calls.Rows.{AllFit, Fits, IsPage, input_fits}

-- ---- what an effect says of its call, where the rows are with its own, and cookies are those of what happened before

pub record SentOf (T : Trace) (rows : List Row) (call provider : ℕ) (ask : Ask) (cookies : List ℕ) : Type 0 where
  pub begun : Begun
  pub began : call_at rows call ≡ Some begun
  pub place : provider < provider_count begun.options
  pub names : IsPage begun.origin (named_origin ask)
  pub carries : cookies ≡ cookies_with T ask

abbrev pub Told : Trace → List Row → Effect → Type 0
Told T rows (Sent kind call provider ask cookies) = SentOf T rows call provider ask cookies
Told T rows (Result call page finish) = IsResultOfCall rows call finish
Told T rows _ = ⊤

-- an effect is a request or a result
tells : Effect → Option ⊤
tells (Sent kind call provider ask cookies) = Some tt
tells (Result call page finish) = Some tt
tells _ = None

silent_told : (T : Trace) (rows : List Row) (effects : List Effect) → AllSilent tells effects → AllByRecursion (Told T rows) effects
unfolding tells
silent_told T rows [] h = tt
silent_told T rows (Sent kind call provider ask cookies ∷ effects) h = absurd (cc)
silent_told T rows (Result call page finish ∷ effects) h = absurd (cc)
silent_told T rows (Time time ∷ effects) h = (tt, silent_told T rows effects h.1)
silent_told T rows (Page page origin ∷ effects) h = (tt, silent_told T rows effects h.1)
silent_told T rows (Closed page ∷ effects) h = (tt, silent_told T rows effects h.1)
silent_told T rows (Cookie change ∷ effects) h = (tt, silent_told T rows effects h.1)
silent_told T rows (Login origin status ∷ effects) h = (tt, silent_told T rows effects h.1)
silent_told T rows (Begin begun ∷ effects) h = (tt, silent_told T rows effects h.1)
silent_told T rows (Move kind call stage ∷ effects) h = (tt, silent_told T rows effects h.1)
silent_told T rows (Dropped call place failure ∷ effects) h = (tt, silent_told T rows effects h.1)
silent_told T rows (Shown call dialog ∷ effects) h = (tt, silent_told T rows effects h.1)
silent_told T rows (Window call provider url ∷ effects) h = (tt, silent_told T rows effects h.1)
silent_told T rows (Kept triple stays ∷ effects) h = (tt, silent_told T rows effects h.1)
silent_told T rows (Flag origin stays ∷ effects) h = (tt, silent_told T rows effects h.1)
silent_told T rows (Ignored why ∷ effects) h = (tt, silent_told T rows effects h.1)

-- ---- what a call does

module _ (T : Trace) (rows : List Row) (world : World) (kind : CallKind) (call page : ℕ) (b : Begun) (began : call_at rows call ≡ Some b)
  where
    does_told : (effects : List CallEffect) → AllByRecursion (Fits (provider_count b.options) b.origin) effects
        → AllByRecursion (Told T rows) (flat_map (call_effects world (cookies_with T) kind call page) effects)
    does_told [] fits = tt
    does_told (does.Send provider ask ∷ effects) fits = (
      record { begun = b; began = began; place = fits.0.0; names = fits.0.1; carries = refl },
      does_told effects fits.1,
    )
    does_told (does.Finish finish ∷ effects) fits = (record { begun = b; began = began; place = fits.0 }, does_told effects fits.1)
    does_told (does.Ignored why ∷ effects) fits = (tt, does_told effects fits.1)
    does_told (does.Dialog dialog ∷ effects) fits = (tt, does_told effects fits.1)
    does_told (does.Dropped place failure ∷ effects) fits = (tt, does_told effects fits.1)
    does_told (does.Window place url ∷ effects) fits = (tt, does_told effects fits.1)
    does_told (does.SetLogin origin status ∷ effects) fits = (tt, does_told effects fits.1)
    does_told (does.Keep triple ∷ effects) fits = (tt, does_told effects fits.1)
    does_told (does.Forget triple ∷ effects) fits = (tt, does_told effects fits.1)
    does_told (does.ClearFlag origin ∷ effects) fits = (tt, does_told effects fits.1)
    does_told (does.ForgetPair p q ∷ effects) fits =
        all_two (Told T rows) (map (λ triple. Kept triple false) (triples_of_pair world.kept p q))
        (flat_map (call_effects world (cookies_with T) kind call page) effects) (go (triples_of_pair world.kept p q))
        (does_told effects fits.1)
      where
        go : (triples : List Triple) → AllByRecursion (Told T rows) (map (λ triple. Kept triple false) triples)
        go [] = tt
        go (triple ∷ triples) = (tt, go triples)

    outcome_told : (o : Outcome) → AllFit (provider_count b.options) b.origin o
        → AllByRecursion (Told T rows) (outcome_effects world (cookies_with T) kind call page o)
    outcome_told o fits =
        all_two (Told T rows) (flat_map (call_effects world (cookies_with T) kind call page) o.effects) (moves kind call o.stage)
        (does_told o.effects fits) (go o.stage)
      where
        go : (stage : Option Stage) → AllByRecursion (Told T rows) (moves kind call stage)
        go None = tt
        go (Some stage) = (tt, tt)

-- ---- an event

module _ (T : Trace) (line : ℕ) (event : Event) (run : IsRun T.header T.rows) where
  abbrev rows : List Row
  rows = row_of T line event ∷ T.rows

  abbrev All : List Effect → Type 0
  All effects = AllByRecursion (Told T rows) effects

  now_begun : (q : ℕ) → call_at rows q ≡ option_or (if_of q (begun_by T event)) (call_at T.rows q)
  now_begun q = ap (λ o. option_or o (call_at T.rows q)) (begins_is T event q)

  begin_told : (page call : ℕ) (options : CallOptions) (busy : Bool) → begun_by T event ≡ begun_with (page_at T page) page call options
      → HasSome options → All (begin_effects (world_at T) (cookies_with T) (page_at T page) busy page call options)
  begin_told page call options busy is some = go (page_at T page) is
    where
      trusted : (origin : Origin) (b : Bool)
          → begun_by T event ≡ cond b (Some (record { call = call; page = page; origin = origin; options = options })) None
          → All (standing_call (world_at T) (cookies_with T) b busy
          (record { call = call; page = page; origin = origin; options = options }))
      trusted origin false is = (tt, tt)
      trusted origin true is =
          let b : Begun = record { call = call; page = page; origin = origin; options = options } in
          let began : call_at rows call ≡ Some b =
          now_begun call ∙ (ap (λ x. option_or (if_of call x) (call_at T.rows call)) is
          ∙ ap (λ t. option_or (cond t (Some b) None) (call_at T.rows call)) (own call)) in (
            tt,
            outcome_told T rows (world_at T) (kind_asked options) call page b began (first_row (world_at T) busy origin options)
                (begins_fit (world_at T) origin busy options some),
          )

      go : (o : Option Origin) → begun_by T event ≡ begun_with o page call options
          → All (begin_effects (world_at T) (cookies_with T) o busy page call options)
      go None is = (tt, tt)
      go (Some origin) is = trusted origin (is_trustworthy origin) is

  module _ (none : begun_by T event ≡ None) where
    still : (q : ℕ) → call_at rows q ≡ call_at T.rows q
    still q = now_begun q ∙ ap (λ x. option_or (if_of q x) (call_at T.rows q)) none

    known_told : (call : ℕ) (input : Input) (k : Option Known) → known_at T call ≡ k
        → All (input_effects (world_at T) (cookies_with T) true call k input)
    known_told call input None is = (tt, tt)
    known_told call input (Some (OfGet f)) is =
        let found = ap (option_and_then get_facts) is in
        let s = (invariant T.header T.rows call run).stood f found in
        let o : Outcome = get_rows.input_row (world_at T) f input in
        let some : 1 ≤ length f.options.providers = subst (λ g. 1 ≤ length g.providers) (sym s.of_options) s.some in
        let count : length f.options.providers ≡ provider_count s.begun.options =
        ap (λ g. length g.providers) s.of_options ∙ sym (ap provider_count s.is_get) in
        outcome_told T rows (world_at T) GetCall call f.page s.begun (still call ∙ s.began) o
        (subst (λ c. AllFit c s.begun.origin o) count
        (subst (λ p. AllFit (length f.options.providers) p o) s.of_origin
        (input_fits (world_at T) f input (facts_placed T call f found) some)))
    known_told call input (Some (OfDisconnect f)) is =
        let s = sending T.header T.rows call run f is in
        let o : Outcome = disconnect_rows.input_row (world_at T) f input in
        outcome_told T rows (world_at T) DisconnectCall call f.page s.begun (still call ∙ s.going.began) o
        (subst (λ c. AllFit c s.begun.origin o) (sym (ap provider_count s.is_disconnect))
        (subst (λ p. AllFit 1 p o) s.of_origin (disconnect_fits (world_at T) f input)))

    input_told : (call : ℕ) (input : Input) (begun : Bool)
        → All (input_effects (world_at T) (cookies_with T) begun call (known_at T call) input)
    input_told call input false = (tt, tt)
    input_told call input true = known_told call input (known_at T call) refl

    resumes_told : (calls : List ℕ) → All (flat_map (resume_effects (world_at T) (cookies_with T) (known_at T)) calls)
    resumes_told [] = tt
    resumes_told (call ∷ calls) =
        all_two (Told T rows) (resume_effects (world_at T) (cookies_with T) (known_at T) call)
        (flat_map (resume_effects (world_at T) (cookies_with T) (known_at T)) calls)
        (known_told call inputs.Resume (known_at T call) refl) (resumes_told calls)

    waiting_told : (calls : List ℕ) → All (waiting_effects (world_at T) (cookies_with T) (known_at T) calls)
    waiting_told [] = (tt, tt)
    waiting_told (call ∷ calls) = resumes_told (call ∷ calls)

    closes_told : (waiting : Origin → List ℕ) (o : Option Origin)
        → All (idpclose_effects (world_at T) (cookies_with T) (known_at T) waiting o)
    closes_told waiting None = (tt, tt)
    closes_told waiting (Some origin) = go (is_trustworthy origin)
      where
        go : (trusted : Bool) → All (standing_resumes (world_at T) (cookies_with T) (known_at T) (waiting origin) trusted)
        go true = waiting_told (waiting origin)
        go false = (tt, tt)

  quietly : (effects : List Effect) → AllSilent tells effects → All effects
  quietly effects h = silent_told T rows effects h

-- ---- events that send nothing and give nothing

closes_silent : (calls : List (ℕ × CallKind)) (page : ℕ) (o : Option Origin) → AllSilent tells (close_effects calls page o)
unfolding tells
closes_silent calls page None = (refl, tt)
closes_silent calls page (Some origin) = close_silent tells (λ n c. refl) (λ p. refl) calls page

pub told : (T : Trace) (line : ℕ) (event : Event) → IsRun T.header T.rows → IsNew T.rows event
    → AllByRecursion (Told T (row_of T line event ∷ T.rows)) (effects_of T event)
unfolding tells
told T line (events.Have have) run new =
    quietly T line (events.Have have) run (effects_of T (events.Have have))
    (have_silent tells (record { cookie = λ c. refl; login = λ o s. refl; kept = λ t k. refl; flag = λ o k. refl })
    (have_changes T have) have)
told T line (At time) run new = (tt, tt)
told T line (Prevent page) run new =
    quietly T line (Prevent page) run (effects_of T (Prevent page))
    (says_silent tells (λ origin. Flag origin true) (λ o. refl) (λ w. refl) (page_at T page))
told T line (SetStatus page status) run new =
    quietly T line (SetStatus page status) run (effects_of T (SetStatus page status))
    (says_silent tells (λ origin. Login origin status) (λ o. refl) (λ w. refl) (page_at T page))
told T line (Load page url raw) run new =
    quietly T line (Load page url raw) run (effects_of T (Load page url raw))
    (load_silent tells (λ n c. refl) (λ p o. refl) (λ c. refl) (λ o s. refl) (pending_of T page) page url (load_changes T url raw)
    (set_logins raw))
told T line (ClosePage page) run new =
    quietly T line (ClosePage page) run (effects_of T (ClosePage page)) (closes_silent (pending_of T page) page (page_at T page))
told T line (Get page call options) run new =
    begin_told T line (Get page call options) run page call (ToGet options) (is_busy page (gets T)) refl new.1
told T line (Disconnect page call config client hint) run new =
    begin_told T line (Disconnect page call config client hint) run page call (ToDisconnect (disconnect_options config client hint))
    (is_busy page (gets T)) refl tt
told T line (events.IdpClose page) run new =
    closes_told T line (events.IdpClose page) run refl (windows_of T) (page_at T page)
told T line (events.Abort call) run new = input_told T line (events.Abort call) run refl call inputs.Abort (is_begun T call)
told T line (events.Reply call place kind raw) run new =
    input_told T line (events.Reply call place kind raw) run refl call (inputs.Reply place kind raw) (is_begun T call)
told T line (events.Choose call place account) run new =
    input_told T line (events.Choose call place account) run refl call (inputs.Choose place account) (is_begun T call)
told T line (events.GoOn call) run new = input_told T line (events.GoOn call) run refl call inputs.GoOn (is_begun T call)
told T line (events.Cancel call) run new = input_told T line (events.Cancel call) run refl call inputs.Cancel (is_begun T call)
told T line (events.SignIn call) run new = input_told T line (events.SignIn call) run refl call inputs.SignIn (is_begun T call)
told T line (events.ShutWindow call) run new = input_told T line (events.ShutWindow call) run refl call inputs.Shut (is_begun T call)

-- ---- a result

pub results_lem : OfRuns OwnResultsAreOfCalls
results_lem T run after before row call page finish is has =
    let r = row_of_trace T after before row run is in
    let T' = at T before in
    let same = row_is T' row r.effects in
    subst (λ x. IsResultOfCall (x ∷ before) call finish) (sym same)
    (has_all (Told T' (row_of T' row.line row.event ∷ before)) (effects_of T' row.event) (Result call page finish)
    (told T' row.line row.event r.run r.new) (subst (λ es. Has es (Result call page finish)) r.effects has))
