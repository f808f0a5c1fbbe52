-- An event of a part has the same effects in two traces of which the part has the same.
use Rattle.std.proofs.Common.{◌≡◌, ℕ, Bool, true, false, List, [], ◌∷◌, ◌++◌, Option, Some, None, refl, ap, ap₂, subst, ◌∙◌}
use Rattle.std.specs.Prelude.{IfSome, ⊤}
use Rattle.std.specs.List.{flat_map, AllByRecursion}
use Rattle.url.specs.Parts.{Parts}
use Rattle.fed_origin.specs.declared.origin.Origin.{Origin}
use Rattle.fed_origin.specs.Origin.{is_trustworthy}
use Rattle.fed_origin.specs.WebUrl.{host_of}
use Rattle.fed_suffix.specs.Registrable.{party}
use Rattle.fed_jar.specs.Limit.{changes_from}
use Rattle.fed_jar.proofs.limit.Limit.{gone_by_own}
use Rattle.fed_status.specs.Shared.{World}
use Rattle.fed_consent.specs.declared.table.ask.Ask.{Ask}
use Rattle.fed_consent.specs.declared.table.input.Input.{Input}
use Rattle.fed_consent.specs.declared.table.input.Input.TheVariants as inputs
use Rattle.fed_disconnect.specs.Facts.{disconnect_options}
use Rattle.fed_script.specs.declared.event.Event.{Event}
use Rattle.fed_script.specs.declared.event.Event.TheVariants as events
use Rattle.fed_script.specs.declared.event.Have.TheVariants as haves
use Rattle.fed_trace.specs.Begun.{Begun, CallOptions, ToGet, ToDisconnect, kind_asked}
use Rattle.fed_trace.specs.Call.{Known, kind_of, page_of, first_row, input_row}
use Rattle.fed_trace.specs.Effect.{Begin, Flag, Login}
use Rattle.fed_trace.specs.Known.{world_at, is_begun, known_at}
use Rattle.fed_trace.specs.Row.{effects_of, cookies_with, outcome_effects, begin_effects, standing_call, input_effects, is_busy}
use Rattle.fed_trace.specs.Row.{load_effects}
use Rattle.fed_trace.specs.Row.{close_effects, page_says, stored_in, cookie_effects, cookies_from, set_cookies, set_logins}
use Rattle.fed_trace.specs.Row.{resume_effects, waiting_effects, standing_resumes, idpclose_effects}
use Rattle.fed_trace.specs.Trace.{Trace, page_at, gets, now_at, cookies}
use Rattle.fed_trace.specs.Windows.{windows_of}
use Rattle.fed_trace.proofs.events.Own.{own_fields}
use Rattle.fed_slice.specs.Part.{Part, has, has_event}
use Rattle.fed_slice_laws.specs.Side.{ProviderSide, KnownSide, AskedSide, PageFits}
use Rattle.fed_slice_laws.proofs.looks.Looks.{SamePart, same_now, same_page, same_known, same_begun, agree, cookies_same, same_pending}
use Rattle.fed_slice_laws.proofs.looks.Looks.{same_busy}
use Rattle.fed_slice_laws.proofs.looks.Looks.{part_same, same_windows, waiting_side}
use Rattle.fed_slice_laws.proofs.looks.Fit.{SideOf, known_side, page_side}
use Rattle.fed_slice_laws.proofs.calls.Rows.{first_on, input_on}
use Rattle.fed_slice_laws.proofs.calls.Agree.{AgreeWorlds, first_same, row_same}
use Rattle.fed_slice_laws.proofs.calls.Effects.{SameCookies, outcome_same}

-- an event names what is on the side of its page's number, and a call that is
abbrev pub EventFits : Part → (ℕ → Bool) → Event → Type 0
EventFits p loaded (events.Load page url raw) = (has p (host_of url) ≡ p.pages page) × (loaded page ≡ true)
EventFits p loaded (events.Get page call options) =
    (p.calls call ≡ p.pages page) × (loaded page ≡ true → AllByRecursion (ProviderSide p (p.pages page)) options.providers)
EventFits p loaded (events.Disconnect page call config client hint) =
    (p.calls call ≡ p.pages page) × (loaded page ≡ true → has p (host_of config) ≡ p.pages page)
EventFits p loaded _ = ⊤

-- what is asked fits the page's number, where it is loaded
abbrev pub AskedFits : Part → (ℕ → Bool) → ℕ → CallOptions → Type 0
AskedFits p loaded page options = loaded page ≡ true → AskedSide p (p.pages page) options

module _ (p : Part) (loaded : ℕ → Bool) (T U : Trace) (h : SamePart p loaded T U) where
  abbrev w : World
  w = world_at T

  abbrev w' : World
  w' = world_at U

  abbrev ck : Ask → List ℕ
  ck = cookies_with T

  abbrev ck' : Ask → List ℕ
  ck' = cookies_with U

  agrees : AgreeWorlds p w w'
  agrees = agree p loaded T U h

  texts : SameCookies p ck ck'
  texts = cookies_same p loaded T U h

  -- ---- calls that begin

  begin_same : (page call : ℕ) (options : CallOptions) → p.pages page ≡ true → AskedFits p loaded page options
      → begin_effects w ck (page_at T page) (is_busy page (gets T)) page call options
      ≡ begin_effects w' ck' (page_at U page) (is_busy page (gets U)) page call options
  begin_same page call options inside asked =
      ap (λ b. begin_effects w ck (page_at T page) b page call options) (same_busy p loaded T U h page inside)
      ∙ go (page_at T page) (page_side p loaded T h.fits page)
      ∙ ap (λ o. begin_effects w' ck' o (is_busy page (gets U)) page call options) (same_page p loaded T U h page inside)
    where
      busy : Bool
      busy = is_busy page (gets U)

      go : (o : Option Origin) → IfSome o (λ o. PageFits p loaded page o.host)
          → begin_effects w ck o busy page call options ≡ begin_effects w' ck' o busy page call options
      go None fit = refl
      go (Some origin) fit = trusts (is_trustworthy origin)
        where
          b : Begun
          b = record { call = call; page = page; origin = origin; options = options }

          side : AskedSide p true options
          side = subst (λ s. AskedSide p s options) inside (asked fit.loaded_once)

          trusts : (trusted : Bool) → standing_call w ck trusted busy b ≡ standing_call w' ck' trusted busy b
          trusts false = refl
          trusts true =
              ap (λ o. Begin b ∷ outcome_effects w ck (kind_asked options) call page o)
              (first_same p w w' agrees busy origin options (fit.side ∙ inside) side)
              ∙ ap (λ es. Begin b ∷ es)
              (outcome_same p w w' ck ck' agrees texts (kind_asked options) call page (first_row w' busy origin options)
              (first_on p true w' busy origin options))

  -- ---- inputs

  known_same_effects : (taken : Bool) (call : ℕ) → p.calls call ≡ true → (k : Option Known) → IfSome k (SideOf p call) → (input : Input)
      → input_effects w ck taken call k input ≡ input_effects w' ck' taken call k input
  known_same_effects false call inside k side input = refl
  known_same_effects true call inside None side input = refl
  known_same_effects true call inside (Some k) side input =
      let own : KnownSide p true k = subst (λ s. KnownSide p s k) inside side in
      ap (outcome_effects w ck (kind_of k) call (page_of k)) (row_same p w w' agrees k own input)
      ∙ outcome_same p w w' ck ck' agrees texts (kind_of k) call (page_of k) (input_row w' k input) (input_on p true w' k own input)

  input_same : (call : ℕ) (input : Input) → p.calls call ≡ true
      → input_effects w ck (is_begun T call) call (known_at T call) input
      ≡ input_effects w' ck' (is_begun U call) call (known_at U call) input
  input_same call input inside =
      known_same_effects (is_begun T call) call inside (known_at T call) (known_side p loaded T h.fits call) input
      ∙ ap₂ (λ b k. input_effects w' ck' b call k input) (same_begun p loaded T U h call inside) (same_known p loaded T U h call inside)

  -- ---- calls that wait

  resume_same : (call : ℕ) → p.calls call ≡ true → resume_effects w ck (known_at T) call ≡ resume_effects w' ck' (known_at U) call
  resume_same call inside =
      known_same_effects true call inside (known_at T call) (known_side p loaded T h.fits call) inputs.Resume
      ∙ ap (λ k. input_effects w' ck' true call k inputs.Resume) (same_known p loaded T U h call inside)

  resumes_same : (calls : List ℕ) → AllByRecursion (λ q. p.calls q ≡ true) calls
      → flat_map (resume_effects w ck (known_at T)) calls ≡ flat_map (resume_effects w' ck' (known_at U)) calls
  resumes_same [] own = refl
  resumes_same (call ∷ calls) own = ap₂ (λ xs ys. xs ++ ys) (resume_same call own.0) (resumes_same calls own.1)

  waiting_same : (calls : List ℕ) → AllByRecursion (λ q. p.calls q ≡ true) calls
      → waiting_effects w ck (known_at T) calls ≡ waiting_effects w' ck' (known_at U) calls
  waiting_same [] own = refl
  waiting_same (call ∷ calls) own = resumes_same (call ∷ calls) own

  idpclose_same : (page : ℕ) → p.pages page ≡ true
      → idpclose_effects w ck (known_at T) (windows_of T) (page_at T page)
      ≡ idpclose_effects w' ck' (known_at U) (windows_of U) (page_at U page)
  idpclose_same page inside =
      go (page_at T page) (page_side p loaded T h.fits page)
      ∙ ap (idpclose_effects w' ck' (known_at U) (windows_of U)) (same_page p loaded T U h page inside)
    where
      go : (o : Option Origin) → IfSome o (λ o. PageFits p loaded page o.host)
          → idpclose_effects w ck (known_at T) (windows_of T) o ≡ idpclose_effects w' ck' (known_at U) (windows_of U) o
      go None fit = refl
      go (Some origin) fit = trusts (is_trustworthy origin)
        where
          own : has p origin.host ≡ true
          own = fit.side ∙ inside

          each : (qs : List ℕ) → AllByRecursion (λ q. p.calls q ≡ has p origin.host) qs → AllByRecursion (λ q. p.calls q ≡ true) qs
          each [] k = tt
          each (q ∷ qs) k = (k.0 ∙ own, each qs k.1)

          trusts : (trusted : Bool)
              → standing_resumes w ck (known_at T) (windows_of T origin) trusted
              ≡ standing_resumes w' ck' (known_at U) (windows_of U origin) trusted
          trusts false = refl
          trusts true =
              waiting_same (windows_of T origin) (each (windows_of T origin) (waiting_side p loaded T h.fits origin))
              ∙ ap (waiting_effects w' ck' (known_at U)) (same_windows p loaded T U h origin own)

  -- ---- cookies of a URL of the part

  stored_same : (url : Parts) (fields : List (List ℕ)) → has p (host_of url) ≡ true
      → stored_in T (cookies_from T.header.rules url (now_at T) fields) ≡ stored_in U (cookies_from U.header.rules url (now_at U) fields)
  stored_same url fields inside =
      let rules = T.header.rules in
      gone_by_own rules (now_at T) (party rules (host_of url)) (cookies T) (cookies U) (cookies_from rules url (now_at T) fields)
      (own_fields rules url (now_at T) fields) (part_same p loaded T U h (host_of url) inside)
      ∙ ap₂ (λ r n. changes_from r n (cookies U) (cookies_from r url n fields)) (ap (λ x. x.rules) h.header) (same_now p loaded T U h)

  -- ---- each event

  pub effects_same : (e : Event) → EventFits p loaded e → has_event p e ≡ true → effects_of T e ≡ effects_of U e
  effects_same (events.Have (haves.Cookie url field)) fit inside =
      ap (λ cs. cookie_effects cs ++ []) (stored_same url (field ∷ []) inside)
  effects_same (events.Have (haves.Login origin status)) fit inside = refl
  effects_same (events.Have (haves.Kept triple)) fit inside = refl
  effects_same (events.Have (haves.Silent origin)) fit inside = refl
  effects_same (events.At time) fit inside = refl
  effects_same (events.Load page url raw) fit inside =
      ap₂ (λ calls cs. load_effects calls page url cs (set_logins raw)) (same_pending p loaded T U h page inside)
      (stored_same url (set_cookies raw) (fit.0 ∙ inside))
  effects_same (events.ClosePage page) fit inside =
      ap₂ (λ calls o. close_effects calls page o) (same_pending p loaded T U h page inside) (same_page p loaded T U h page inside)
  effects_same (events.Get page call options) fit inside = begin_same page call (ToGet options) inside fit.1
  effects_same (events.Disconnect page call config client hint) fit inside =
      begin_same page call (ToDisconnect (disconnect_options config client hint)) inside fit.1
  effects_same (events.IdpClose page) fit inside = idpclose_same page inside
  effects_same (events.Prevent page) fit inside =
      ap (λ o. page_says o (λ origin. Flag origin true)) (same_page p loaded T U h page inside)
  effects_same (events.SetStatus page status) fit inside =
      ap (λ o. page_says o (λ origin. Login origin status)) (same_page p loaded T U h page inside)
  effects_same (events.Abort call) fit inside = input_same call inputs.Abort inside
  effects_same (events.GoOn call) fit inside = input_same call inputs.GoOn inside
  effects_same (events.Cancel call) fit inside = input_same call inputs.Cancel inside
  effects_same (events.SignIn call) fit inside = input_same call inputs.SignIn inside
  effects_same (events.ShutWindow call) fit inside = input_same call inputs.Shut inside
  effects_same (events.Reply call provider kind raw) fit inside = input_same call (inputs.Reply provider kind raw) inside
  effects_same (events.Choose call provider account) fit inside = input_same call (inputs.Choose provider account) inside
