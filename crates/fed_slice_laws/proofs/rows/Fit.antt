-- The effects of an event that fits are on the side of their numbers.
use Rattle.std.proofs.Common.{◌≡◌, ℕ, Bool, true, false, List, [], ◌∷◌, ◌++◌, Option, Some, None}
use Rattle.std.specs.Prelude.{IfSome}
use Rattle.std.specs.List.{flat_map, AllByRecursion}
use Rattle.fed_origin.specs.declared.origin.Origin.{Origin}
use Rattle.fed_origin.specs.declared.status.LoginStatus.{LoginStatus}
use Rattle.fed_origin.specs.Origin.{is_trustworthy}
use Rattle.fed_origin.specs.WebUrl.{origin_of}
use Rattle.fed_jar.specs.Changes.{CookieChange}
use Rattle.fed_status.specs.Shared.{World}
use Rattle.fed_consent.specs.declared.table.ask.Ask.{Ask}
use Rattle.fed_consent.specs.declared.table.input.Input.{Input}
use Rattle.fed_consent.specs.declared.table.input.Input.TheVariants as inputs
use Rattle.fed_disconnect.specs.Facts.{disconnect_options}
use Rattle.fed_script.specs.declared.event.Event.{Event}
use Rattle.fed_script.specs.declared.event.Event.TheVariants as events
use Rattle.fed_script.specs.declared.event.Have.{Have}
use Rattle.fed_script.specs.declared.event.Have.TheVariants as haves
use Rattle.fed_trace.specs.Begun.{Begun, CallKind, CallOptions, ToGet, ToDisconnect, kind_asked}
use Rattle.fed_trace.specs.Call.{Known, kind_of, page_of, first_row, input_row}
use Rattle.fed_trace.specs.Effect.{Effect}
use Rattle.fed_trace.specs.Effect as does
use Rattle.fed_trace.specs.Known.{world_at, is_begun, known_at}
use Rattle.fed_trace.specs.Row.{effects_of, cookies_with, begin_effects, standing_call, input_effects, is_busy, close_effects, page_says}
use Rattle.fed_trace.specs.Row.{standing_says, have_changes, have_states, load_changes, cookie_effects, login_effects, ends_of}
use Rattle.fed_trace.specs.Row.{set_logins, resume_effects, waiting_effects, standing_resumes, idpclose_effects}
use Rattle.fed_trace.specs.Trace.{Trace, page_at, gets, pending_of}
use Rattle.fed_trace.specs.Windows.{windows_of}
use Rattle.fed_slice.specs.Part.{Part}
use Rattle.fed_slice_laws.specs.Side.{Fits, PageFits, AllFit}
use Rattle.fed_slice_laws.proofs.looks.Fit.{page_side}
use Rattle.fed_slice_laws.proofs.lists.Keep.{all_append}
use Rattle.fed_slice_laws.proofs.calls.Effects.{outcome_fits}
use Rattle.fed_slice_laws.proofs.rows.Same.{EventFits, AskedFits}

module _ (p : Part) (loaded : ℕ → Bool) where
  abbrev All : List Effect → Type 0
  All es = AllByRecursion (Fits p loaded) es

  ends_fit : (calls : List (ℕ × CallKind)) → All (ends_of calls)
  ends_fit [] = tt
  ends_fit (c ∷ calls) = (tt, ends_fit calls)

  cookies_fit : (cookies : List CookieChange) → All (cookie_effects cookies)
  cookies_fit [] = tt
  cookies_fit (c ∷ cookies) = (tt, cookies_fit cookies)

  logins_fit : (origin : Origin) (statuses : List LoginStatus) → All (login_effects origin statuses)
  logins_fit origin [] = tt
  logins_fit origin (s ∷ statuses) = (tt, logins_fit origin statuses)

  states_fit : (have : Have) → All (have_states have)
  states_fit (haves.Cookie url field) = tt
  states_fit (haves.Login origin status) = (tt, tt)
  states_fit (haves.Kept triple) = (tt, tt)
  states_fit (haves.Silent origin) = (tt, tt)

  close_fit : (calls : List (ℕ × CallKind)) (page : ℕ) (o : Option Origin) → All (close_effects calls page o)
  close_fit calls page None = (tt, tt)
  close_fit calls page (Some origin) = all_append (Fits p loaded) (ends_of calls) (does.Closed page ∷ []) (ends_fit calls) (tt, tt)

  says_fit : (o : Option Origin) (said : Origin → Effect) → ((origin : Origin) → Fits p loaded (said origin)) → All (page_says o said)
  says_fit None said fit = (tt, tt)
  says_fit (Some origin) said fit = go (is_trustworthy origin)
    where
      go : (trusted : Bool) → All (standing_says trusted (said origin))
      go true = (fit origin, tt)
      go false = (tt, tt)

  input_fit : (w : World) (ck : Ask → List ℕ) (taken : Bool) (call : ℕ) (k : Option Known) (input : Input)
      → All (input_effects w ck taken call k input)
  input_fit w ck false call k input = (tt, tt)
  input_fit w ck true call None input = (tt, tt)
  input_fit w ck true call (Some k) input = outcome_fits p loaded w ck (kind_of k) call (page_of k) (input_row w k input)

  resumes_fit : (w : World) (ck : Ask → List ℕ) (known : ℕ → Option Known) (calls : List ℕ)
      → All (flat_map (resume_effects w ck known) calls)
  resumes_fit w ck known [] = tt
  resumes_fit w ck known (call ∷ calls) =
      all_append (Fits p loaded) (resume_effects w ck known call) (flat_map (resume_effects w ck known) calls)
      (input_fit w ck true call (known call) inputs.Resume) (resumes_fit w ck known calls)

  waiting_fit : (w : World) (ck : Ask → List ℕ) (known : ℕ → Option Known) (calls : List ℕ) → All (waiting_effects w ck known calls)
  waiting_fit w ck known [] = (tt, tt)
  waiting_fit w ck known (call ∷ calls) = resumes_fit w ck known (call ∷ calls)

  idpclose_fit : (w : World) (ck : Ask → List ℕ) (known : ℕ → Option Known) (waiting : Origin → List ℕ) (o : Option Origin)
      → All (idpclose_effects w ck known waiting o)
  idpclose_fit w ck known waiting None = (tt, tt)
  idpclose_fit w ck known waiting (Some origin) = go (is_trustworthy origin)
    where
      go : (trusted : Bool) → All (standing_resumes w ck known (waiting origin) trusted)
      go true = waiting_fit w ck known (waiting origin)
      go false = (tt, tt)

  begin_fit : (w : World) (ck : Ask → List ℕ) (page call : ℕ) (options : CallOptions) (o : Option Origin) (busy : Bool)
      → IfSome o (λ o. PageFits p loaded page o.host) → p.calls call ≡ p.pages page → AskedFits p loaded page options
      → All (begin_effects w ck o busy page call options)
  begin_fit w ck page call options None busy fit number asked = (tt, tt)
  begin_fit w ck page call options (Some origin) busy fit number asked = go (is_trustworthy origin)
    where
      b : Begun
      b = record { call = call; page = page; origin = origin; options = options }

      go : (trusted : Bool) → All (standing_call w ck trusted busy b)
      go false = (tt, tt)
      go true = (
        record { call = number; page = fit.side; asked = asked fit.loaded_once },
        outcome_fits p loaded w ck (kind_asked options) call page (first_row w busy origin options),
      )

  pub effects_fit : (T : Trace) → AllFit p loaded T.rows → (e : Event) → EventFits p loaded e → All (effects_of T e)
  effects_fit T fits (events.Have have) fit =
      all_append (Fits p loaded) (cookie_effects (have_changes T have)) (have_states have) (cookies_fit (have_changes T have))
      (states_fit have)
  effects_fit T fits (events.At time) fit = (tt, tt)
  effects_fit T fits (events.Load page url raw) fit =
      let cookies = load_changes T url raw in
      all_append (Fits p loaded) (ends_of (pending_of T page))
      (does.Page page (origin_of url) ∷ (cookie_effects cookies ++ login_effects (origin_of url) (set_logins raw)))
      (ends_fit (pending_of T page)) (
        record { side = fit.0; loaded_once = fit.1 },
        all_append (Fits p loaded) (cookie_effects cookies) (login_effects (origin_of url) (set_logins raw)) (cookies_fit cookies)
            (logins_fit (origin_of url) (set_logins raw)),
      )
  effects_fit T fits (events.ClosePage page) fit = close_fit (pending_of T page) page (page_at T page)
  effects_fit T fits (events.Get page call options) fit =
      begin_fit (world_at T) (cookies_with T) page call (ToGet options) (page_at T page) (is_busy page (gets T))
      (page_side p loaded T fits page) fit.0 fit.1
  effects_fit T fits (events.Disconnect page call config client hint) fit =
      begin_fit (world_at T) (cookies_with T) page call (ToDisconnect (disconnect_options config client hint)) (page_at T page)
      (is_busy page (gets T)) (page_side p loaded T fits page) fit.0 fit.1
  effects_fit T fits (events.IdpClose page) fit =
      idpclose_fit (world_at T) (cookies_with T) (known_at T) (windows_of T) (page_at T page)
  effects_fit T fits (events.Prevent page) fit = says_fit (page_at T page) (λ origin. does.Flag origin true) (λ o. tt)
  effects_fit T fits (events.SetStatus page status) fit = says_fit (page_at T page) (λ origin. does.Login origin status) (λ o. tt)
  effects_fit T fits (events.Abort call) fit =
      input_fit (world_at T) (cookies_with T) (is_begun T call) call (known_at T call) inputs.Abort
  effects_fit T fits (events.GoOn call) fit =
      input_fit (world_at T) (cookies_with T) (is_begun T call) call (known_at T call) inputs.GoOn
  effects_fit T fits (events.Cancel call) fit =
      input_fit (world_at T) (cookies_with T) (is_begun T call) call (known_at T call) inputs.Cancel
  effects_fit T fits (events.SignIn call) fit =
      input_fit (world_at T) (cookies_with T) (is_begun T call) call (known_at T call) inputs.SignIn
  effects_fit T fits (events.ShutWindow call) fit =
      input_fit (world_at T) (cookies_with T) (is_begun T call) call (known_at T call) inputs.Shut
  effects_fit T fits (events.Reply call provider kind raw) fit =
      input_fit (world_at T) (cookies_with T) (is_begun T call) call (known_at T call) (inputs.Reply provider kind raw)
  effects_fit T fits (events.Choose call provider account) fit =
      input_fit (world_at T) (cookies_with T) (is_begun T call) call (known_at T call) (inputs.Choose provider account)
