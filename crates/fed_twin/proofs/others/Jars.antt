-- All that is looked up but cookies is the same where cookies alone differ.
use Rattle.std.proofs.Common.{◌≡◌, ℕ, Bool, true, false, ◌||◌, nat_eq, List, [], ◌∷◌, ◌++◌, map, Option, Some, None}
use Rattle.std.proofs.Common.{refl, sym, ap, ap₂}
use Rattle.std.proofs.Common.{◌∙◌}
use Rattle.std.proofs.lemmas.List.Elements.{filter_map-append}
use Rattle.std.specs.Prelude.{option_and_then, option_map, unwrap_or, filter}
use Rattle.std.specs.Option.{option_or}
use Rattle.std.specs.List.{filter_map, list_any, AllZip, flat_map}
use Rattle.url.specs.Parts.{Parts}
use Rattle.fed_origin.specs.declared.origin.Origin.{Origin}
use Rattle.fed_origin.specs.declared.status.LoginStatus.{LoginStatus}
use Rattle.fed_origin.specs.Origin.{is_trustworthy, same_origin}
use Rattle.fed_origin.specs.WebUrl.{origin_of}
use Rattle.fed_jar.specs.Changes.{CookieChange}
use Rattle.fed_status.specs.Login.{set_login_of}
use Rattle.fed_status.specs.Shared.{World}
use Rattle.fed_consent.specs.declared.table.ask.Ask.{Ask}
use Rattle.fed_consent.specs.declared.table.ask.Ask.TheVariants as asks
use Rattle.fed_consent.specs.declared.table.effect.Effect.{Effect as CallEffect}
use Rattle.fed_consent.specs.declared.table.effect.Effect.TheVariants as does
use Rattle.fed_consent.specs.declared.table.input.Input.{Input}
use Rattle.fed_consent.specs.declared.table.input.Input.TheVariants.{Resume}
use Rattle.fed_consent.specs.Outcomes.{Outcome}
use Rattle.fed_script.specs.declared.event.Event.{Event}
use Rattle.fed_script.specs.declared.event.Event.TheVariants as events
use Rattle.fed_script.specs.declared.event.Have.TheVariants as haves
use Rattle.fed_script.specs.declared.event.Numbered.{Numbered}
use Rattle.fed_trace.specs.Begun.{Begun, CallKind, CallOptions, ToGet, ToDisconnect, kind_asked}
use Rattle.fed_trace.specs.Call.{Known, kind_of, page_of, known_first, first_row, input_row}
use Rattle.fed_trace.specs.Effect as effects
use Rattle.fed_trace.specs.Effect.{Effect, Page, Login, Begin, last_of, page_change, login_change, kept_change, flag_change, call_change}
use Rattle.fed_trace.specs.Effect.{get_change, stage_change, window_change, time_of, begun_by, begins, is_ignored}
use Rattle.fed_trace.specs.Keyed.{Change, entries_after, says}
use Rattle.fed_trace.specs.Known.{world_at, is_begun, input_to, with_said, known_in, known_by, known_at}
use Rattle.fed_trace.specs.Row.{effects_of, with_event, cookies_with, call_effects, moves, outcome_effects, begin_effects, standing_call}
use Rattle.fed_trace.specs.Row.{input_effects, is_busy, ends_of, load_changes, cookie_effects, login_effects, load_effects, close_effects}
use Rattle.fed_trace.specs.Row.{page_says, have_changes, set_logins, resume_effects, waiting_effects, standing_resumes}
use Rattle.fed_trace.specs.Row.{idpclose_effects}
use Rattle.fed_trace.specs.Windows.{provider_asked, provider_of, is_origin, open_windows, windows_of}
use Rattle.fed_trace.specs.Trace.{Row, Trace, page_at, logins, kept, flags, pending, gets, pending_of, calls_of, now_at, begun, stage_at}
use Rattle.fed_trace.specs.Trace.{last_value, all_said}
use Rattle.fed_trace.specs.OfScript.{start, with_events}
use Rattle.fed_twin.specs.Jars.{BringCookies, Equal, Haves, Loads, OnOneLine, but_cookies, but_cookies_of, fixed_cookies, TwoJars}
use Rattle.fed_twin.proofs.seen.Seen.{last_at, last_of-seen, last_in-seen, last_value-seen, standing-seen, all_said-seen}
use Rattle.fed_origin.specs.declared.status.Triple.{Triple}
use Rattle.fed_status.specs.Kept.{triples_of_pair}
use Rattle.std.specs.Map.{keys_of}
use Rattle.fed_origin.specs.Status.{same_triple}

-- ---- what is read of effects without their cookies

-- a reading that does not look at cookies
record IsBlind {A : Type 0} (said : Effect → Option A) : Type 0 where
  cookie : (cookie : CookieChange) → said (effects.Cookie cookie) ≡ None
  sent : (kind : CallKind) (call provider : ℕ) (ask : Ask) (cookies : List ℕ)
      → said (effects.Sent kind call provider ask cookies) ≡ said (effects.Sent kind call provider ask [])

blind : {A : Type 0} (said : Effect → Option A) → IsBlind said → (e : Effect) → said e ≡ option_and_then said (but_cookies e)
blind said h (effects.Cookie cookie) = h.cookie cookie
blind said h (effects.Sent kind call provider ask cookies) =
    h.sent kind call provider ask cookies ∙ sym (h.sent kind call provider ask (fixed_cookies ask cookies))
blind said h (effects.Time time) = refl
blind said h (effects.Page page origin) = refl
blind said h (effects.Closed page) = refl
blind said h (effects.Login origin status) = refl
blind said h (effects.Begin b) = refl
blind said h (effects.Move kind call stage) = refl
blind said h (effects.Shown call dialog) = refl
blind said h (effects.Dropped call provider failure) = refl
blind said h (effects.Window call provider url) = refl
blind said h (effects.Kept triple stays) = refl
blind said h (effects.Flag origin stays) = refl
blind said h (effects.Result call page finish) = refl
blind said h (effects.Ignored why) = refl

-- the effects of all rows without their cookies, in their order
abbrev bare : List Row → List Effect
bare rows = all_said but_cookies rows

map_same : {A : Type 0} (o : Option A) → option_map (λ x. x) o ≡ o
map_same None = refl
map_same (Some x) = refl

map_twice : {A : Type 0} (o : Option (Option A)) → option_map (option_map (λ x. x)) o ≡ o
map_twice None = refl
map_twice (Some None) = refl
map_twice (Some (Some x)) = refl

value_same : {V : Type 0} (change : Effect → Option (Change ℕ V)) (k : ℕ) → IsBlind (λ e. says nat_eq k (change e))
    → (xs ys : List Row) → bare xs ≡ bare ys
    → last_value nat_eq change k xs ≡ last_value nat_eq change k ys
value_same change k h xs ys same =
    by xs ∙ ap (λ v. unwrap_or (last_at (λ e. says nat_eq k (change e)) v) None) same ∙ sym (by ys)
  where
    by : (rows : List Row) → last_value nat_eq change k rows ≡ unwrap_or (last_at (λ e. says nat_eq k (change e)) (bare rows)) None
    by rows =
        sym (map_same (last_value nat_eq change k rows))
        ∙ last_value-seen but_cookies nat_eq change k (λ x. x) (λ e. says nat_eq k (change e)) (λ e. map_twice (says nat_eq k
        (change e)) ∙ blind (λ e. says nat_eq k (change e)) h e) rows

any_same : (test : Effect → Bool) → ((cookie : CookieChange) → test (effects.Cookie cookie) ≡ false)
    → ((kind : CallKind) (call provider : ℕ) (ask : Ask) (cookies : List ℕ)
    → test (effects.Sent kind call provider ask cookies) ≡ test
    (effects.Sent kind call provider ask []))
    → (es : List Effect) → list_any test es ≡ list_any test (filter_map but_cookies es)
any_same test c s [] = refl
any_same test c s (effects.Cookie cookie ∷ es) = ap (λ b. b || list_any test es) (c cookie) ∙ any_same test c s es
any_same test c s (effects.Sent kind call provider ask cookies ∷ es) =
    ap₂ (λ a b. a || b) (s kind call provider ask cookies ∙ sym (s kind call provider ask (fixed_cookies ask cookies)))
    (any_same test c s es)
any_same test c s (effects.Time time ∷ es) = ap (λ b. test (effects.Time time) || b) (any_same test c s es)
any_same test c s (effects.Page page origin ∷ es) = ap (λ b. test (effects.Page page origin) || b) (any_same test c s es)
any_same test c s (effects.Closed page ∷ es) = ap (λ b. test (effects.Closed page) || b) (any_same test c s es)
any_same test c s (effects.Login origin status ∷ es) = ap (λ b. test (effects.Login origin status) || b) (any_same test c s es)
any_same test c s (effects.Begin begun ∷ es) = ap (λ b. test (effects.Begin begun) || b) (any_same test c s es)
any_same test c s (effects.Move kind call stage ∷ es) = ap (λ b. test (effects.Move kind call stage) || b) (any_same test c s es)
any_same test c s (effects.Shown call dialog ∷ es) = ap (λ b. test (effects.Shown call dialog) || b) (any_same test c s es)
any_same test c s (effects.Dropped call provider failure ∷ es) =
    ap (λ b. test (effects.Dropped call provider failure) || b) (any_same test c s es)
any_same test c s (effects.Window call provider url ∷ es) = ap (λ b. test (effects.Window call provider url) || b) (any_same test c s es)
any_same test c s (effects.Kept triple stays ∷ es) = ap (λ b. test (effects.Kept triple stays) || b) (any_same test c s es)
any_same test c s (effects.Flag origin stays ∷ es) = ap (λ b. test (effects.Flag origin stays) || b) (any_same test c s es)
any_same test c s (effects.Result call page finish ∷ es) = ap (λ b. test (effects.Result call page finish) || b) (any_same test c s es)
any_same test c s (effects.Ignored why ∷ es) = ap (λ b. test (effects.Ignored why) || b) (any_same test c s es)

-- ---- what is the same where cookies alone differ

pub record SameLooks (T U : Trace) : Type 0 where
  pub header : T.header ≡ U.header
  pub does : bare T.rows ≡ bare U.rows
  pub known : (q : ℕ) → known_in T.header T.rows q ≡ known_in U.header U.rows q

module _ (T U : Trace) (h : SameLooks T U) where
  same_now : now_at T ≡ now_at U
  same_now =
      ap₂ unwrap_or
      (last_in-seen but_cookies time_of time_of
      (blind time_of (record { cookie = λ c. refl; sent = λ n c p a k. refl })) T.rows ∙ ap (last_at time_of) h.does
      ∙ sym (last_in-seen but_cookies time_of time_of (blind time_of (record { cookie = λ c. refl; sent = λ n c p a k. refl })) U.rows))
      (ap (λ x. x.now) h.header)

  same_page : (q : ℕ) → page_at T q ≡ page_at U q
  same_page q = value_same page_change q (record { cookie = λ c. refl; sent = λ n c p a k. refl }) T.rows U.rows h.does

  same_stage : (q : ℕ) → stage_at T q ≡ stage_at U q
  same_stage q = value_same stage_change q (record { cookie = λ c. refl; sent = λ n c p a k. refl }) T.rows U.rows h.does

  same_logins : logins T ≡ logins U
  same_logins =
      standing-seen but_cookies same_origin login_change login_change
      (blind login_change (record { cookie = λ c. refl; sent = λ n c p a k. refl })) T.rows
      ∙ ap (λ v. entries_after same_origin login_change v []) h.does
      ∙ sym (standing-seen but_cookies same_origin login_change login_change
      (blind login_change (record { cookie = λ c. refl; sent = λ n c p a k. refl })) U.rows)

  same_kept : kept T ≡ kept U
  same_kept =
      ap keys_of
      (standing-seen but_cookies same_triple kept_change kept_change
      (blind kept_change (record { cookie = λ c. refl; sent = λ n c p a k. refl })) T.rows
      ∙ ap (λ v. entries_after same_triple kept_change v []) h.does
      ∙ sym (standing-seen but_cookies same_triple kept_change kept_change
      (blind kept_change (record { cookie = λ c. refl; sent = λ n c p a k. refl })) U.rows))

  same_flags : flags T ≡ flags U
  same_flags =
      ap keys_of
      (standing-seen but_cookies same_origin flag_change flag_change
      (blind flag_change (record { cookie = λ c. refl; sent = λ n c p a k. refl })) T.rows
      ∙ ap (λ v. entries_after same_origin flag_change v []) h.does
      ∙ sym (standing-seen but_cookies same_origin flag_change flag_change
      (blind flag_change (record { cookie = λ c. refl; sent = λ n c p a k. refl })) U.rows))

  same_pending : pending T ≡ pending U
  same_pending =
      standing-seen but_cookies nat_eq call_change call_change
      (blind call_change (record { cookie = λ c. refl; sent = λ n c p a k. refl })) T.rows
      ∙ ap (λ v. entries_after nat_eq call_change v []) h.does
      ∙ sym (standing-seen but_cookies nat_eq call_change call_change
      (blind call_change (record { cookie = λ c. refl; sent = λ n c p a k. refl })) U.rows)

  same_gets : gets T ≡ gets U
  same_gets =
      standing-seen but_cookies nat_eq get_change get_change
      (blind get_change (record { cookie = λ c. refl; sent = λ n c p a k. refl })) T.rows
      ∙ ap (λ v. entries_after nat_eq get_change v []) h.does
      ∙ sym (standing-seen but_cookies nat_eq get_change get_change
      (blind get_change (record { cookie = λ c. refl; sent = λ n c p a k. refl })) U.rows)

  same_opened : open_windows T ≡ open_windows U
  same_opened =
      ap keys_of
      (standing-seen but_cookies nat_eq window_change window_change
      (blind window_change (record { cookie = λ c. refl; sent = λ n c p a k. refl })) T.rows
      ∙ ap (λ v. entries_after nat_eq window_change v []) h.does
      ∙ sym (standing-seen but_cookies nat_eq window_change window_change
      (blind window_change (record { cookie = λ c. refl; sent = λ n c p a k. refl })) U.rows))

  same_provider : (q : ℕ) → provider_of T.rows q ≡ provider_of U.rows q
  same_provider q =
      ap (λ (o : Option Begun). option_and_then (λ begun. provider_asked begun.options) o)
      (last_in-seen but_cookies (begins q) (begins q)
      (blind (begins q) (record { cookie = λ c. refl; sent = λ n c p a k. refl })) T.rows ∙ ap (last_at (begins q)) h.does
      ∙ sym (last_in-seen but_cookies (begins q) (begins q)
      (blind (begins q) (record { cookie = λ c. refl; sent = λ n c p a k. refl })) U.rows))

  same_windows : (origin : Origin) → windows_of T origin ≡ windows_of U origin
  same_windows origin =
      ap₂ (λ (asked : ℕ → Option Origin) calls. filter (λ call. is_origin origin (asked call)) calls) (λ i q. same_provider q i) same_opened

  same_begun : (q : ℕ) → is_begun T q ≡ is_begun U q
  same_begun q =
      ap (list_any (nat_eq q))
      (all_said-seen but_cookies begun_by begun_by
      (blind begun_by (record { cookie = λ c. refl; sent = λ n c p a k. refl })) T.rows ∙ ap (filter_map begun_by) h.does
      ∙ sym (all_said-seen but_cookies begun_by begun_by
      (blind begun_by (record { cookie = λ c. refl; sent = λ n c p a k. refl })) U.rows))

  same_world : world_at T ≡ world_at U
  same_world =
      ap₂ (λ r l. let w : World = record { rules = r; login = l; kept = kept T; flags = flags T } in
      w) (ap (λ x. x.rules) h.header) same_logins
      ∙ ap₂ (λ k f. let w : World = record { rules = U.header.rules; login = logins U; kept = k; flags = f } in w) same_kept same_flags

  same_known : (q : ℕ) → known_at T q ≡ known_at U q
  same_known q = ap₂ known_by (same_stage q) (h.known q)

-- ---- effects without their cookies

-- these cookies agree where a request carries none by its kind
abbrev Agree : (Ask → List ℕ) → (Ask → List ℕ) → Type 0
Agree ck ck' = (ask : Ask) → fixed_cookies ask (ck ask) ≡ fixed_cookies ask (ck' ask)

cookies_agree : (T U : Trace) → Agree (cookies_with T) (cookies_with U)
cookies_agree T U (asks.WellKnown to) = refl
cookies_agree T U (asks.Config to) = refl
cookies_agree T U (asks.Accounts to) = refl
cookies_agree T U (asks.Metadata to client origin) = refl
cookies_agree T U (asks.Assertion ask) = refl
cookies_agree T U (asks.Disconnect to client hint origin) = refl

but_call : (w : World) (ck ck' : Ask → List ℕ) (ag : Agree ck ck') (kind : CallKind) (call page : ℕ) (es : List CallEffect)
    → filter_map but_cookies (flat_map (call_effects w ck kind call page) es)
    ≡ filter_map but_cookies (flat_map (call_effects w ck' kind call page) es)
but_call w ck ck' ag kind call page [] = refl
but_call w ck ck' ag kind call page (does.Send provider ask ∷ es) =
    ap₂ (λ c xs. effects.Sent kind call provider ask c ∷ xs) (ag ask) (but_call w ck ck' ag kind call page es)
but_call w ck ck' ag kind call page (does.SetLogin origin status ∷ es) =
    ap (λ xs. Login origin status ∷ xs) (but_call w ck ck' ag kind call page es)
but_call w ck ck' ag kind call page (does.Finish finish ∷ es) =
    ap (λ xs. effects.Result call page finish ∷ xs) (but_call w ck ck' ag kind call page es)
but_call w ck ck' ag kind call page (does.Ignored why ∷ es) = ap (λ xs. effects.Ignored why ∷ xs) (but_call w ck ck' ag kind call page es)
but_call w ck ck' ag kind call page (does.Dialog dialog ∷ es) =
    ap (λ xs. effects.Shown call dialog ∷ xs) (but_call w ck ck' ag kind call page es)
but_call w ck ck' ag kind call page (does.Dropped place failure ∷ es) =
    ap (λ xs. effects.Dropped call place failure ∷ xs) (but_call w ck ck' ag kind call page es)
but_call w ck ck' ag kind call page (does.Window place url ∷ es) =
    ap (λ xs. effects.Window call place url ∷ xs) (but_call w ck ck' ag kind call page es)
but_call w ck ck' ag kind call page (does.Keep triple ∷ es) =
    ap (λ xs. effects.Kept triple true ∷ xs) (but_call w ck ck' ag kind call page es)
but_call w ck ck' ag kind call page (does.Forget triple ∷ es) =
    ap (λ xs. effects.Kept triple false ∷ xs) (but_call w ck ck' ag kind call page es)
but_call w ck ck' ag kind call page (does.ForgetPair o u ∷ es) = goes (but_call w ck ck' ag kind call page es) (triples_of_pair w.kept o u)
  where
    goes : filter_map but_cookies (flat_map (call_effects w ck kind call page) es)
        ≡ filter_map but_cookies (flat_map (call_effects w ck' kind call page) es)
        → (triples : List Triple)
        → filter_map but_cookies (map (λ triple. effects.Kept triple false) triples ++ flat_map (call_effects w ck kind call page) es)
        ≡ filter_map but_cookies (map (λ triple. effects.Kept triple false) triples ++ flat_map (call_effects w ck' kind call page) es)
    goes rest [] = rest
    goes rest (t ∷ triples) = ap (λ xs. effects.Kept t false ∷ xs) (goes rest triples)
but_call w ck ck' ag kind call page (does.ClearFlag origin ∷ es) =
    ap (λ xs. effects.Flag origin false ∷ xs) (but_call w ck ck' ag kind call page es)

but_outcome : (w : World) (ck ck' : Ask → List ℕ) (ag : Agree ck ck') (kind : CallKind) (call page : ℕ) (o : Outcome)
    → filter_map but_cookies (outcome_effects w ck kind call page o) ≡ filter_map but_cookies (outcome_effects w ck' kind call page o)
but_outcome w ck ck' ag kind call page o =
    filter_map-append but_cookies (flat_map (call_effects w ck kind call page) o.effects) (moves kind call o.stage)
    ∙ ap (λ xs. xs ++ filter_map but_cookies (moves kind call o.stage)) (but_call w ck ck' ag kind call page o.effects)
    ∙ sym (filter_map-append but_cookies (flat_map (call_effects w ck' kind call page) o.effects) (moves kind call o.stage))

but_input : (w : World) (ck ck' : Ask → List ℕ) (ag : Agree ck ck') (begun : Bool) (call : ℕ) (known : Option Known) (i : Input)
    → filter_map but_cookies (input_effects w ck begun call known i) ≡ filter_map but_cookies (input_effects w ck' begun call known i)
but_input w ck ck' ag false call known i = refl
but_input w ck ck' ag true call None i = refl
but_input w ck ck' ag true call (Some known) i = but_outcome w ck ck' ag (kind_of known) call (page_of known) (input_row w known i)

but_begin : (w : World) (ck ck' : Ask → List ℕ) (ag : Agree ck ck') (o : Option Origin) (busy : Bool) (page call : ℕ) (options : CallOptions)
    → filter_map but_cookies (begin_effects w ck o busy page call options)
    ≡ filter_map but_cookies (begin_effects w ck' o busy page call options)
but_begin w ck ck' ag None busy page call options = refl
but_begin w ck ck' ag (Some origin) busy page call options = go (is_trustworthy origin)
  where
    b : Begun
    b = record { call = call; page = page; origin = origin; options = options }

    go : (trusted : Bool)
        → filter_map but_cookies (standing_call w ck trusted busy b) ≡ filter_map but_cookies (standing_call w ck' trusted busy b)
    go false = refl
    go true = ap (λ xs. Begin b ∷ xs) (but_outcome w ck ck' ag (kind_asked options) call page (first_row w busy origin options))

but_writes : (cookies : List CookieChange) → filter_map but_cookies (cookie_effects cookies) ≡ []
but_writes [] = refl
but_writes (c ∷ cookies) = but_writes cookies

but_load : (calls : List (ℕ × CallKind)) (page : ℕ) (url : Parts) (cookies : List CookieChange) (statuses : List LoginStatus)
    → filter_map but_cookies (load_effects calls page url cookies statuses)
    ≡ filter_map but_cookies (load_effects calls page url [] statuses)
but_load calls page url cookies statuses =
    filter_map-append but_cookies (ends_of calls)
    (Page page (origin_of url) ∷ (cookie_effects cookies ++ login_effects (origin_of url) statuses))
    ∙ ap (λ xs. filter_map but_cookies (ends_of calls) ++ Page page (origin_of url) ∷ xs)
    (filter_map-append but_cookies (cookie_effects cookies) (login_effects (origin_of url) statuses)
    ∙ ap (λ xs. xs ++ filter_map but_cookies (login_effects (origin_of url) statuses)) (but_writes cookies))
    ∙ sym (filter_map-append but_cookies (ends_of calls) (Page page (origin_of url) ∷ login_effects (origin_of url) statuses))

but_have : (cookies : List CookieChange) → filter_map but_cookies (cookie_effects cookies ++ []) ≡ []
but_have [] = refl
but_have (c ∷ cookies) = but_have cookies

-- an input's effects are those of what is looked up
input_same : (T U : Trace) → SameLooks T U → (call : ℕ) (i : Input)
    → filter_map but_cookies (input_effects (world_at T) (cookies_with T) (is_begun T call) call (known_at T call) i)
    ≡ filter_map but_cookies (input_effects (world_at U) (cookies_with U) (is_begun U call) call (known_at U call) i)
input_same T U h call i =
    but_input (world_at T) (cookies_with T) (cookies_with U) (cookies_agree T U) (is_begun T call) call (known_at T call) i
    ∙ ap (λ w. filter_map but_cookies (input_effects w (cookies_with U) (is_begun T call) call (known_at T call) i)) (same_world T U h)
    ∙ ap₂ (λ b f. filter_map but_cookies (input_effects (world_at U) (cookies_with U) b call f i)) (same_begun T U h call)
    (same_known T U h call)

begin_same : (T U : Trace) → SameLooks T U → (page call : ℕ) (options : CallOptions)
    → filter_map but_cookies (begin_effects (world_at T) (cookies_with T) (page_at T page) (is_busy page (gets T)) page call options)
    ≡ filter_map but_cookies (begin_effects (world_at U) (cookies_with U) (page_at U page) (is_busy page (gets U)) page call options)
begin_same T U h page call options =
    but_begin (world_at T) (cookies_with T) (cookies_with U) (cookies_agree T U) (page_at T page) (is_busy page (gets T)) page call options
    ∙ ap (λ w. filter_map but_cookies (begin_effects w (cookies_with U) (page_at T page) (is_busy page (gets T)) page call options))
    (same_world T U h)
    ∙ ap₂ (λ o x. filter_map but_cookies (begin_effects (world_at U) (cookies_with U) o (is_busy page x) page call options))
    (same_page T U h page) (same_gets T U h)

but_resumes : (w : World) (ck ck' : Ask → List ℕ) (ag : Agree ck ck') (known : ℕ → Option Known) (calls : List ℕ)
    → filter_map but_cookies (flat_map (resume_effects w ck known) calls)
    ≡ filter_map but_cookies (flat_map (resume_effects w ck' known) calls)
but_resumes w ck ck' ag known [] = refl
but_resumes w ck ck' ag known (call ∷ calls) =
    filter_map-append but_cookies (resume_effects w ck known call) (flat_map (resume_effects w ck known) calls)
    ∙ ap₂ (λ xs ys. xs ++ ys) (but_input w ck ck' ag true call (known call) Resume) (but_resumes w ck ck' ag known calls)
    ∙ sym (filter_map-append but_cookies (resume_effects w ck' known call) (flat_map (resume_effects w ck' known) calls))

but_waiting : (w : World) (ck ck' : Ask → List ℕ) (ag : Agree ck ck') (known : ℕ → Option Known) (calls : List ℕ)
    → filter_map but_cookies (waiting_effects w ck known calls) ≡ filter_map but_cookies (waiting_effects w ck' known calls)
but_waiting w ck ck' ag known [] = refl
but_waiting w ck ck' ag known (call ∷ calls) = but_resumes w ck ck' ag known (call ∷ calls)

but_idpclose : (w : World) (ck ck' : Ask → List ℕ) (ag : Agree ck ck') (known : ℕ → Option Known) (waiting : Origin → List ℕ) (o : Option Origin)
    → filter_map but_cookies (idpclose_effects w ck known waiting o) ≡ filter_map but_cookies (idpclose_effects w ck' known waiting o)
but_idpclose w ck ck' ag known waiting None = refl
but_idpclose w ck ck' ag known waiting (Some origin) = go (is_trustworthy origin)
  where
    go : (trusted : Bool) → filter_map but_cookies (standing_resumes w ck known (waiting origin) trusted)
        ≡ filter_map but_cookies (standing_resumes w ck' known (waiting origin) trusted)
    go false = refl
    go true = but_waiting w ck ck' ag known (waiting origin)

-- a page that says that the user has signed in
resumes_same : (T U : Trace) → SameLooks T U → (page : ℕ)
    → filter_map but_cookies (idpclose_effects (world_at T) (cookies_with T) (known_at T) (windows_of T) (page_at T page))
    ≡ filter_map but_cookies (idpclose_effects (world_at U) (cookies_with U) (known_at U) (windows_of U) (page_at U page))
resumes_same T U h page =
    but_idpclose (world_at T) (cookies_with T) (cookies_with U) (cookies_agree T U) (known_at T) (windows_of T) (page_at T page)
    ∙ ap₂ (λ w o. filter_map but_cookies (idpclose_effects w (cookies_with U) (known_at T) (windows_of T) o)) (same_world T U h)
    (same_page T U h page)
    ∙ ap₂ (λ known waiting. filter_map but_cookies (idpclose_effects (world_at U) (cookies_with U) known waiting (page_at U page)))
    (λ i q. same_known T U h q i) (λ i origin. same_windows T U h origin i)

equal_effects : (T U : Trace) → SameLooks T U → (e : Event)
    → filter_map but_cookies (effects_of T e) ≡ filter_map but_cookies (effects_of U e)
equal_effects T U h (events.Have (haves.Cookie url field)) =
    but_have (have_changes T (haves.Cookie url field))
    ∙ sym (but_have (have_changes U (haves.Cookie url field)))
equal_effects T U h (events.Have (haves.Login origin status)) = refl
equal_effects T U h (events.Have (haves.Kept triple)) = refl
equal_effects T U h (events.Have (haves.Silent origin)) = refl
equal_effects T U h (events.At time) = refl
equal_effects T U h (events.Load page url raw) =
    but_load (pending_of T page) page url (load_changes T url raw) (set_logins raw)
    ∙ ap (λ x. filter_map but_cookies (load_effects (calls_of page x) page url [] (set_logins raw))) (same_pending T U h)
    ∙ sym (but_load (pending_of U page) page url (load_changes U url raw) (set_logins raw))
equal_effects T U h (events.ClosePage page) =
    ap₂ (λ x o. filter_map but_cookies (close_effects (calls_of page x) page o)) (same_pending T U h) (same_page T U h page)
equal_effects T U h (events.Prevent page) =
    ap (λ o. filter_map but_cookies (page_says o (λ origin. effects.Flag origin true))) (same_page T U h page)
equal_effects T U h (events.SetStatus page status) =
    ap (λ o. filter_map but_cookies (page_says o (λ origin. Login origin status))) (same_page T U h page)
equal_effects T U h (events.Get page call options) = begin_same T U h page call (ToGet options)
equal_effects T U h (events.Disconnect page call config client hint) =
    begin_same T U h page call (ToDisconnect (record { config = config; client = client; hint = hint }))
equal_effects T U h (events.Abort call) = input_same T U h call _
equal_effects T U h (events.GoOn call) = input_same T U h call _
equal_effects T U h (events.Cancel call) = input_same T U h call _
equal_effects T U h (events.SignIn call) = input_same T U h call _
equal_effects T U h (events.ShutWindow call) = input_same T U h call _
equal_effects T U h (events.IdpClose page) = resumes_same T U h page
equal_effects T U h (events.Reply call provider kind raw) = input_same T U h call _
equal_effects T U h (events.Choose call provider account) = input_same T U h call _

jar_effects : (T U : Trace) → SameLooks T U → {e e' : Event} → BringCookies e e'
    → filter_map but_cookies (effects_of T e) ≡ filter_map but_cookies (effects_of U e')
jar_effects T U h (Equal e) = equal_effects T U h e
jar_effects T U h (Haves url url' field field') =
    but_have (have_changes T (haves.Cookie url field))
    ∙ sym (but_have (have_changes U (haves.Cookie url' field')))
jar_effects T U h (Loads page url raw raw' same) =
    but_load (pending_of T page) page url (load_changes T url raw) (set_logins raw)
    ∙ ap₂ (λ x v. filter_map but_cookies (load_effects (calls_of page x) page url [] (filter_map set_login_of v)))
    (same_pending T U h) same
    ∙ sym (but_load (pending_of U page) page url (load_changes U url raw') (set_logins raw'))

same_inputs : (q : ℕ) {e e' : Event} → BringCookies e e' → input_to q e ≡ input_to q e'
same_inputs q (Equal e) = refl
same_inputs q (Haves url url' field field') = refl
same_inputs q (Loads page url raw raw' same) = refl

-- ---- a row more

jar_step : (T U : Trace) → SameLooks T U → (line line' : ℕ) {e e' : Event} → BringCookies e e'
    → SameLooks (with_event T line e) (with_event U line' e')
jar_step T U h line line' {e} {e'} alike =
    record {
      header = h.header;
      does = ap₂ (λ xs ys. xs ++ ys) h.does effects_same;
      known = λ q.
          ap₂ option_or (ap₂ (λ w b. option_map (known_first w) b) (same_world T U h) (begins_same q))
          (ap₂ (λ g k. option_map g k)
          (ap (λ w. with_said w (list_any is_ignored (effects_of T e)) (input_to q e)) (same_world T U h)
          ∙ ap₂ (λ b i. with_said (world_at U) b i) ignored_same (same_inputs q alike))
          (h.known q));
    }
  where
    effects_same : filter_map but_cookies (effects_of T e) ≡ filter_map but_cookies (effects_of U e')
    effects_same = jar_effects T U h alike

    begins_same : (q : ℕ) → last_of (begins q) (effects_of T e) ≡ last_of (begins q) (effects_of U e')
    begins_same q =
        last_of-seen but_cookies (begins q) (begins q)
        (blind (begins q) (record { cookie = λ c. refl; sent = λ n c p a k. refl })) (effects_of T e)
        ∙ ap (last_at (begins q)) effects_same
        ∙ sym (last_of-seen but_cookies (begins q) (begins q)
        (blind (begins q) (record { cookie = λ c. refl; sent = λ n c p a k. refl })) (effects_of U e'))

    ignored_same : list_any is_ignored (effects_of T e) ≡ list_any is_ignored (effects_of U e')
    ignored_same =
        any_same is_ignored (λ c. refl) (λ n c p a k. refl) (effects_of T e) ∙ ap (list_any is_ignored) effects_same
        ∙ sym (any_same is_ignored (λ c. refl) (λ n c p a k. refl) (effects_of U e'))

jar_walk : (xs ys : List Numbered) → AllZip OnOneLine xs ys → (T U : Trace) → SameLooks T U
    → map but_cookies_of T.rows ≡ map but_cookies_of U.rows
    → map but_cookies_of (with_events T xs).rows ≡ map but_cookies_of (with_events U ys).rows
jar_walk [] [] all T U h rows = rows
jar_walk [] (y ∷ ys) all T U h rows = absurd all
jar_walk (x ∷ xs) [] all T U h rows = absurd all
jar_walk (x ∷ xs) (y ∷ ys) all T U h rows =
    jar_walk xs ys all.1 (with_event T x.line x.event) (with_event U y.line y.event) (jar_step T U h x.line y.line all.0.event)
    (ap₂ (λ r rs. r ∷ rs) (ap₂ (λ l es. (l, es)) all.0.line (jar_effects T U h all.0.event)) rows)

pub two_jars_lem : TwoJars
two_jars_lem a b twin =
    jar_walk a.events b.events twin.events (start a.header) (start b.header)
    (record { header = twin.header; does = refl; known = λ q. refl }) refl
