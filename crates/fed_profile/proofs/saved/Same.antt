-- Where the same stands, an event that names no old call has the same effects.
use Rattle.std.proofs.Common.{◌≡◌, ℕ, Bool, true, false, nat_eq, cond, List, [], ◌∷◌, ◌++◌, Option, Some, None, refl, sym, ap, ap₂}
use Rattle.std.proofs.Common.{◌∙◌}
use Rattle.std.specs.Prelude.{option_and_then, filter}
use Rattle.std.specs.Map.{lookup, keys_of}
use Rattle.std.specs.List.{flat_map, AllByRecursion}
use Rattle.url.specs.Parts.{Parts}
use Rattle.fed_origin.specs.declared.origin.Origin.{Origin}
use Rattle.fed_origin.specs.Origin.{is_trustworthy, same_origin}
use Rattle.fed_origin.specs.Status.{same_triple}
use Rattle.fed_jar.specs.Cookie.{StoredCookie}
use Rattle.fed_jar.specs.Limit.{changes_from}
use Rattle.fed_jar.specs.Send.{jar_text}
use Rattle.fed_status.specs.Shared.{World}
use Rattle.fed_consent.specs.declared.table.ask.Ask.{Ask}
use Rattle.fed_consent.specs.declared.table.ask.Ask.TheVariants as asks
use Rattle.fed_consent.specs.declared.table.input.Input.{Input}
use Rattle.fed_consent.specs.declared.table.input.Input.TheVariants as inputs
use Rattle.fed_disconnect.specs.Facts.{disconnect_options}
use Rattle.fed_script.specs.declared.event.Event.{Event}
use Rattle.fed_script.specs.declared.event.Event.TheVariants as events
use Rattle.fed_trace.specs.Begun.{Begun, CallOptions, ToGet, ToDisconnect}
use Rattle.fed_trace.specs.Effect.{Flag, Login, page_change, kept_change, flag_change}
use Rattle.fed_trace.specs.Effect.{window_change}
use Rattle.fed_trace.specs.Known.{world_at, is_begun, known_in, known_by, known_at}
use Rattle.fed_trace.specs.OfCall.{call_at}
use Rattle.fed_trace.specs.Row.{effects_of, cookies_with, begin_effects, input_effects, is_busy, load_effects, close_effects, page_says}
use Rattle.fed_trace.specs.Row.{have_cookies, have_states, cookie_effects, cookies_from, set_cookies, set_logins, resume_effects}
use Rattle.fed_trace.specs.Row.{waiting_effects, standing_resumes, idpclose_effects}
use Rattle.fed_trace.specs.Trace.{Row, Trace, page_at, logins, kept, flags, pending, gets, calls_of, stage_at, now_at, cookies}
use Rattle.fed_trace.specs.Trace.{standing}
use Rattle.fed_trace.specs.Windows.{open_windows, provider_asked, provider_of, is_origin, windows_of}
use Rattle.fed_trace.proofs.keyed.Keyed.{lookup-standing}
use Rattle.fed_profile.specs.Saved.{NamesNone}
use Rattle.fed_profile.proofs.saved.Jar.{SameJar, jar_text_same, changes_same}

-- what is the same of a call
pub record SameCall (T U : Trace) (q : ℕ) : Type 0 where
  pub known : known_in T.header T.rows q ≡ known_in U.header U.rows q
  pub stage : stage_at T q ≡ stage_at U q
  pub began : call_at T.rows q ≡ call_at U.rows q
  pub begun : is_begun T q ≡ is_begun U q

-- the same stands in two traces, but for calls of these numbers, of which none waits
pub record SameState (old : ℕ → Bool) (T U : Trace) : Type 0 where
  pub rules : T.header.rules ≡ U.header.rules
  pub now : now_at T ≡ now_at U
  pub logins : logins T ≡ logins U
  pub kept : standing same_triple kept_change T.rows ≡ standing same_triple kept_change U.rows
  pub flags : standing same_origin flag_change T.rows ≡ standing same_origin flag_change U.rows
  pub pages : standing nat_eq page_change T.rows ≡ standing nat_eq page_change U.rows
  pub pending : pending T ≡ pending U
  pub gets : gets T ≡ gets U
  pub windows : standing nat_eq window_change T.rows ≡ standing nat_eq window_change U.rows
  pub waits : AllByRecursion (λ w. old w.0 ≡ false) (standing nat_eq window_change T.rows)
  pub jar : SameJar (now_at T) (cookies T) (cookies U)
  pub calls : (q : ℕ) → old q ≡ false → SameCall T U q

-- a filter of what all passes a test
filter_on : (q f g : ℕ → Bool) → ((n : ℕ) → q n ≡ false → f n ≡ g n) → (xs : List ℕ) → AllByRecursion (λ n. q n ≡ false) xs
    → filter f xs ≡ filter g xs
filter_on q f g h [] k = refl
filter_on q f g h (x ∷ xs) k = ap₂ (λ b l. cond b (x ∷ l) l) (h x k.0) (filter_on q f g h xs k.1)

keys_on : {V : Type 0} (q : ℕ → Bool) (es : List (ℕ × V)) → AllByRecursion (λ e. q e.0 ≡ false) es
    → AllByRecursion (λ n. q n ≡ false) (keys_of es)
keys_on q [] h = tt
keys_on q (e ∷ es) h = (h.0, keys_on q es h.1)

filter_all : (q : ℕ → Bool) (f : ℕ → Bool) (xs : List ℕ) → AllByRecursion (λ n. q n ≡ false) xs
    → AllByRecursion (λ n. q n ≡ false) (filter f xs)
filter_all q f [] h = tt
filter_all q f (x ∷ xs) h = go (f x) (filter_all q f xs h.1)
  where
    go : (b : Bool) → AllByRecursion (λ n. q n ≡ false) (filter f xs)
        → AllByRecursion (λ n. q n ≡ false) (cond b (x ∷ filter f xs) (filter f xs))
    go true rest = (h.0, rest)
    go false rest = rest

module _ (old : ℕ → Bool) (T U : Trace) (h : SameState old T U) where
  pub world_same : world_at T ≡ world_at U
  world_same =
      ap₂ (λ r l. let w : World = record { rules = r; login = l; kept = kept T; flags = flags T } in w) h.rules h.logins
      ∙ ap₂ (λ k f. let w : World = record { rules = U.header.rules; login = logins U; kept = keys_of k; flags = keys_of f } in w)
      h.kept h.flags

  page_same : (q : ℕ) → page_at T q ≡ page_at U q
  page_same q =
      sym (lookup-standing page_change q T.rows) ∙ ap (lookup (nat_eq q)) h.pages ∙ lookup-standing page_change q U.rows

  text_same : (url : Parts)
      → jar_text T.header.rules url (now_at T) (cookies T) ≡ jar_text U.header.rules url (now_at U) (cookies U)
  text_same url =
      jar_text_same T.header.rules url (now_at T) (cookies T) (cookies U) h.jar
      ∙ ap₂ (λ r n. jar_text r url n (cookies U)) h.rules h.now

  -- cookies that are stored make the same come and go
  stored_same : (new : List StoredCookie)
      → changes_from T.header.rules (now_at T) (cookies T) new ≡ changes_from U.header.rules (now_at U) (cookies U) new
  stored_same new =
      changes_same T.header.rules (now_at T) new (cookies T) (cookies U) h.jar
      ∙ ap₂ (λ r n. changes_from r n (cookies U) new) h.rules h.now

  ask_same : (ask : Ask) → cookies_with T ask ≡ cookies_with U ask
  ask_same (asks.WellKnown to) = refl
  ask_same (asks.Config to) = refl
  ask_same (asks.Accounts to) = text_same to
  ask_same (asks.Metadata to client origin) = refl
  ask_same (asks.Assertion ask) = text_same ask.to
  ask_same (asks.Disconnect to client hint origin) = text_same to

  cookies_same : cookies_with T ≡ cookies_with U
  cookies_same = λ i ask. ask_same ask i

  known_same : (q : ℕ) → old q ≡ false → known_at T q ≡ known_at U q
  known_same q new = ap₂ known_by (h.calls q new).stage (h.calls q new).known

  begin_same : (page call : ℕ) (options : CallOptions)
      → begin_effects (world_at T) (cookies_with T) (page_at T page) (is_busy page (gets T)) page call options
      ≡ begin_effects (world_at U) (cookies_with U) (page_at U page) (is_busy page (gets U)) page call options
  begin_same page call options =
      ap₂ (λ w ck. begin_effects w ck (page_at T page) (is_busy page (gets T)) page call options) world_same cookies_same
      ∙ ap₂ (λ o g. begin_effects (world_at U) (cookies_with U) o (is_busy page g) page call options) (page_same page) h.gets

  input_same : (call : ℕ) (input : Input) → old call ≡ false
      → input_effects (world_at T) (cookies_with T) (is_begun T call) call (known_at T call) input
      ≡ input_effects (world_at U) (cookies_with U) (is_begun U call) call (known_at U call) input
  input_same call input new =
      ap₂ (λ w ck. input_effects w ck (is_begun T call) call (known_at T call) input) world_same cookies_same
      ∙ ap₂ (λ b k. input_effects (world_at U) (cookies_with U) b call k input) (h.calls call new).begun (known_same call new)

  -- ---- calls that wait

  abbrev waits_for : List Row → Origin → ℕ → Bool
  waits_for rows origin q = is_origin origin (provider_of rows q)

  opened : AllByRecursion (λ q. old q ≡ false) (open_windows T)
  opened = keys_on old (standing nat_eq window_change T.rows) h.waits

  pub waiting : (origin : Origin) → AllByRecursion (λ q. old q ≡ false) (windows_of T origin)
  waiting origin = filter_all old (waits_for T.rows origin) (open_windows T) opened

  windows_same : (origin : Origin) → windows_of T origin ≡ windows_of U origin
  windows_same origin =
      filter_on old (waits_for T.rows origin) (waits_for U.rows origin)
      (λ q new. ap (λ (b : Option Begun). is_origin origin (option_and_then (λ begun. provider_asked begun.options) b))
      (h.calls q new).began)
      (open_windows T) opened
      ∙ ap (λ es. filter (waits_for U.rows origin) (keys_of es)) h.windows

  resumes_same : (calls : List ℕ) → AllByRecursion (λ q. old q ≡ false) calls
      → flat_map (resume_effects (world_at T) (cookies_with T) (known_at T)) calls
      ≡ flat_map (resume_effects (world_at U) (cookies_with U) (known_at U)) calls
  resumes_same [] new = refl
  resumes_same (call ∷ calls) new =
      ap₂ (λ xs ys. xs ++ ys)
      (ap₂ (λ w ck. input_effects w ck true call (known_at T call) inputs.Resume) world_same cookies_same
      ∙ ap (λ k. input_effects (world_at U) (cookies_with U) true call k inputs.Resume) (known_same call new.0))
      (resumes_same calls new.1)

  waiting_same : (calls : List ℕ) → AllByRecursion (λ q. old q ≡ false) calls
      → waiting_effects (world_at T) (cookies_with T) (known_at T) calls ≡ waiting_effects (world_at U) (cookies_with U) (known_at U) calls
  waiting_same [] new = refl
  waiting_same (call ∷ calls) new = resumes_same (call ∷ calls) new

  idpclose_same : (page : ℕ)
      → idpclose_effects (world_at T) (cookies_with T) (known_at T) (windows_of T) (page_at T page)
      ≡ idpclose_effects (world_at U) (cookies_with U) (known_at U) (windows_of U) (page_at U page)
  idpclose_same page =
      go (page_at T page) ∙ ap (idpclose_effects (world_at U) (cookies_with U) (known_at U) (windows_of U)) (page_same page)
    where
      go : (o : Option Origin)
          → idpclose_effects (world_at T) (cookies_with T) (known_at T) (windows_of T) o
          ≡ idpclose_effects (world_at U) (cookies_with U) (known_at U) (windows_of U) o
      go None = refl
      go (Some origin) = trusts (is_trustworthy origin)
        where
          trusts : (trusted : Bool)
              → standing_resumes (world_at T) (cookies_with T) (known_at T) (windows_of T origin) trusted
              ≡ standing_resumes (world_at U) (cookies_with U) (known_at U) (windows_of U origin) trusted
          trusts false = refl
          trusts true =
              waiting_same (windows_of T origin) (waiting origin)
              ∙ ap (waiting_effects (world_at U) (cookies_with U) (known_at U)) (windows_same origin)

  -- ---- each event

  pub effects_same : (e : Event) → NamesNone old e → effects_of T e ≡ effects_of U e
  effects_same (events.Have have) new =
      ap (λ cs. cookie_effects cs ++ have_states have)
      (stored_same (have_cookies T.header.rules (now_at T) have)
      ∙ ap₂ (λ r n. changes_from U.header.rules (now_at U) (cookies U) (have_cookies r n have)) h.rules h.now)
  effects_same (events.At time) new = refl
  effects_same (events.Load page url raw) new =
      ap₂ (λ es cs. load_effects (calls_of page es) page url cs (set_logins raw)) h.pending
      (stored_same (cookies_from T.header.rules url (now_at T) (set_cookies raw))
      ∙ ap₂ (λ r n. changes_from U.header.rules (now_at U) (cookies U) (cookies_from r url n (set_cookies raw))) h.rules h.now)
  effects_same (events.ClosePage page) new =
      ap₂ (λ es o. close_effects (calls_of page es) page o) h.pending (page_same page)
  effects_same (events.Get page call options) new = begin_same page call (ToGet options)
  effects_same (events.Disconnect page call config client hint) new =
      begin_same page call (ToDisconnect (disconnect_options config client hint))
  effects_same (events.IdpClose page) new = idpclose_same page
  effects_same (events.Prevent page) new = ap (λ o. page_says o (λ origin. Flag origin true)) (page_same page)
  effects_same (events.SetStatus page status) new = ap (λ o. page_says o (λ origin. Login origin status)) (page_same page)
  effects_same (events.Abort call) new = input_same call inputs.Abort new
  effects_same (events.GoOn call) new = input_same call inputs.GoOn new
  effects_same (events.Cancel call) new = input_same call inputs.Cancel new
  effects_same (events.SignIn call) new = input_same call inputs.SignIn new
  effects_same (events.ShutWindow call) new = input_same call inputs.Shut new
  effects_same (events.Reply call provider kind raw) new = input_same call (inputs.Reply provider kind raw) new
  effects_same (events.Choose call provider account) new = input_same call (inputs.Choose provider account) new
