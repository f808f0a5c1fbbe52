-- Nothing is looked up of a token.
use Rattle.std.proofs.Common.{◌≡◌, ℕ, Bool, true, false, ◌||◌, nat_eq, cond, List, [], ◌∷◌, ◌++◌, Option, Some, None}
use Rattle.std.proofs.Common.{Result as Answer, Ok, Err}
use Rattle.std.proofs.Common.{append_assoc, refl, sym, ap, ap₂, subst, ◌∙◌}
use Rattle.std.specs.Prelude.{◌==◌, option_map, option_and_then, unwrap_or, filter, ⊤}
use Rattle.std.specs.Option.{option_or}
use Rattle.std.specs.List.{filter_map, cons_option, list_any}
use Rattle.url.specs.Parts.{Parts}
use Rattle.fed_origin.specs.declared.stage.ReplyKind.TheVariants as kinds
use Rattle.fed_origin.specs.declared.stage.Stage.{Stage}
use Rattle.fed_origin.specs.declared.stage.Stage.TheVariants.{Reading, Listing, Gathering, Mismatch, Window, Choosing, Prompting}
use Rattle.fed_origin.specs.declared.stage.Stage.TheVariants.{Asserting, Ended}
use Rattle.fed_origin.specs.Origin.{same_origin, origin_text}
use Rattle.fed_origin.specs.WebUrl.{origin_of}
use Rattle.fed_jar.specs.Changes.{standing as standing_cookies}
use Rattle.fed_jar.specs.Limit.{changes_from}
use Rattle.fed_jar.specs.Send.{jar_text}
use Rattle.fed_token.specs.declared.step.TokenStep.{TokenStep}
use Rattle.fed_token.specs.Read.{AssertionOf}
use Rattle.fed_status.specs.Kept.{triple_of}
use Rattle.fed_status.specs.Login.{Logins}
use Rattle.fed_status.specs.Shared.{World}
use Rattle.fed_consent.specs.declared.table.ask.Ask.{Ask}
use Rattle.fed_consent.specs.declared.table.ask.Ask.TheVariants as asks
use Rattle.fed_consent.specs.declared.table.input.Input.{Input}
use Rattle.fed_consent.specs.declared.table.input.Input.TheVariants as inputs
use Rattle.fed_call.specs.Accounts.{Offered, provider_at}
use Rattle.fed_call.specs.AssertingRows.{clears, keeps, by_token, assertion_reply, picked_at}
use Rattle.fed_consent.specs.declared.table.finish.Finish.TheVariants.{Token}
use Rattle.fed_consent.specs.Outcomes.{finishes, only_place}
use Rattle.fed_call.specs.Facts.{Facts}
use Rattle.fed_call.specs.Row.{awaited_reply, provider_row, stage_reply}
use Rattle.fed_script.specs.declared.event.Event.{Event}
use Rattle.fed_script.specs.declared.event.Event.TheVariants as events
use Rattle.fed_script.specs.declared.event.Have.TheVariants as haves
use Rattle.fed_script.specs.declared.event.Numbered.{Numbered}
use Rattle.fed_disconnect.specs.Facts.{DisconnectFacts}
use Rattle.fed_disconnect.specs.Rows.{provider_reply}
use Rattle.fed_trace.specs.Begun.{Begun, GetCall, DisconnectCall, CallOptions, ToGet, ToDisconnect}
use Rattle.fed_trace.specs.Call.{Known, OfGet, OfDisconnect, known_first, with_input}
use Rattle.fed_trace.specs.Effect.{Effect, PendingCall, last_of, page_change, login_change, kept_change, flag_change, call_change}
use Rattle.fed_trace.specs.Effect.{get_change, stage_change, window_change, time_of, cookie_change, begun_by, begins, is_ignored}
use Rattle.fed_trace.specs.Effect.{Login, Move, Kept, Flag, Result}
use Rattle.fed_trace.specs.Keyed.{changed, entries_after, last_said, says}
use Rattle.fed_trace.specs.Known.{world_at, is_begun, input_to, with_said, known_in, known_by, known_at}
use Rattle.fed_trace.specs.Row.{effects_of, row_of, with_event, cookies_with, outcome_effects, begin_effects, input_effects, is_busy}
use Rattle.fed_trace.specs.Row.{cookies_from, stored_in, cookie_effects, load_effects, close_effects, page_says, set_cookies, set_logins}
use Rattle.fed_trace.specs.Row.{idpclose_effects}
use Rattle.fed_trace.specs.OfCall.{call_at}
use Rattle.fed_trace.specs.Windows.{provider_asked, is_origin, windows_of}
use Rattle.fed_trace.specs.Trace.{Row, Trace, page_at, logins, kept, flags, standing, pending, calls_of, now_at, cookie_changes}
use Rattle.fed_trace.specs.Trace.{begun, stage_at, last_in}
use Rattle.fed_trace.specs.Trace as trace
use Rattle.fed_trace.specs.OfScript.{start, with_events}
use Rattle.fed_twin.proofs.calls.Row.{no_assertion}
use Rattle.fed_twin.specs.Tokens.{AreTokens, reply_at, ButToken, Equal, Tokens, OneToken}
use Rattle.std.specs.Map.{keys_of}
use Rattle.fed_origin.specs.Status.{same_triple}
use Rattle.fed_origin.specs.declared.status.Triple.{Triple}
use Rattle.fed_origin.specs.declared.origin.Origin.{Origin}

-- all that is looked up is the same
record SameAll (T U : Trace) : Type 0 where
  header : T.header ≡ U.header
  time : last_in time_of T.rows ≡ last_in time_of U.rows
  page : (q : ℕ) → page_at T q ≡ page_at U q
  stage : (q : ℕ) → stage_at T q ≡ stage_at U q
  login : logins T ≡ logins U
  kept : standing same_triple kept_change T.rows ≡ standing same_triple kept_change U.rows
  flags : standing same_origin flag_change T.rows ≡ standing same_origin flag_change U.rows
  calls : pending T ≡ pending U
  gets : trace.gets T ≡ trace.gets U
  windows : standing nat_eq window_change T.rows ≡ standing nat_eq window_change U.rows
  begins_it : (q : ℕ) → call_at T.rows q ≡ call_at U.rows q
  taken : begun T.rows ≡ begun U.rows
  written : cookie_changes T ≡ cookie_changes U
  known : (q : ℕ) → known_in T.header T.rows q ≡ known_in U.header U.rows q

same_self : (T : Trace) → SameAll T T
same_self T =
    record {
      header = refl;
      time = refl;
      page = λ q. refl;
      stage = λ q. refl;
      login = refl;
      kept = refl;
      flags = refl;
      calls = refl;
      gets = refl;
      windows = refl;
      begins_it = λ q. refl;
      taken = refl;
      written = refl;
      known = λ q. refl;
    }

-- all that is read of effects for it
record SameReads (es es' : List Effect) : Type 0 where
  time : last_of time_of es ≡ last_of time_of es'
  page : (q : ℕ) → last_said nat_eq page_change q es ≡ last_said nat_eq page_change q es'
  stage : (q : ℕ) → last_said nat_eq stage_change q es ≡ last_said nat_eq stage_change q es'
  login : (l : Logins) → entries_after same_origin login_change es l ≡ entries_after same_origin login_change es' l
  kept : (l : List (Triple × ⊤)) → entries_after same_triple kept_change es l ≡ entries_after same_triple kept_change es' l
  flags : (l : List (Origin × ⊤)) → entries_after same_origin flag_change es l ≡ entries_after same_origin flag_change es' l
  calls : (l : List (ℕ × PendingCall)) → entries_after nat_eq call_change es l ≡ entries_after nat_eq call_change es' l
  gets : (l : List (ℕ × ℕ)) → entries_after nat_eq get_change es l ≡ entries_after nat_eq get_change es' l
  windows : (l : List (ℕ × ⊤)) → entries_after nat_eq window_change es l ≡ entries_after nat_eq window_change es' l
  taken : filter_map begun_by es ≡ filter_map begun_by es'
  written : filter_map cookie_change es ≡ filter_map cookie_change es'
  begins_it : (q : ℕ) → last_of (begins q) es ≡ last_of (begins q) es'
  ignored : list_any is_ignored es ≡ list_any is_ignored es'

same_reads : (es : List Effect) → SameReads es es
same_reads es =
    record {
      time = refl;
      page = λ q. refl;
      stage = λ q. refl;
      login = λ l. refl;
      kept = λ l. refl;
      flags = λ l. refl;
      calls = λ l. refl;
      gets = λ l. refl;
      windows = λ l. refl;
      taken = refl;
      written = refl;
      begins_it = λ q. refl;
      ignored = refl;
    }

-- the same after an effect more in front
reads_after : (e : Effect) (es es' : List Effect) → SameReads es es' → SameReads (e ∷ es) (e ∷ es')
reads_after e es es' h =
    record {
      time = ap (λ o. option_or o (time_of e)) h.time;
      page = λ q. ap (λ o. option_or o (says nat_eq q (page_change e))) (h.page q);
      stage = λ q. ap (λ o. option_or o (says nat_eq q (stage_change e))) (h.stage q);
      login = λ l. h.login (changed same_origin (login_change e) l);
      kept = λ l. h.kept (changed same_triple (kept_change e) l);
      flags = λ l. h.flags (changed same_origin (flag_change e) l);
      calls = λ l. h.calls (changed nat_eq (call_change e) l);
      gets = λ l. h.gets (changed nat_eq (get_change e) l);
      windows = λ l. h.windows (changed nat_eq (window_change e) l);
      taken = ap (cons_option (begun_by e)) h.taken;
      written = ap (cons_option (cookie_change e)) h.written;
      begins_it = λ q. ap (λ o. option_or o (begins q e)) (h.begins_it q);
      ignored = ap (λ b. is_ignored e || b) h.ignored;
    }

reads_same : (call : ℕ) {es es' : List Effect} → ButToken call es es' → SameReads es es'
reads_same call (Equal es) = same_reads es
reads_same call (Tokens before page provider auto token token') = go before
  where
    result : List ℕ → List Effect
    result token = Result call page (Token auto provider token) ∷ Move GetCall call Ended ∷ []

    go : (before : List Effect) → SameReads (before ++ result token) (before ++ result token')
    go [] =
        record {
          time = refl;
          page = λ q. refl;
          stage = λ q. refl;
          login = λ l. refl;
          kept = λ l. refl;
          flags = λ l. refl;
          calls = λ l. refl;
          gets = λ l. refl;
          windows = λ l. refl;
          taken = refl;
          written = refl;
          begins_it = λ q. refl;
          ignored = refl;
        }
    go (e ∷ before) = reads_after e (before ++ result token) (before ++ result token') (go before)

world_same : (T U : Trace) → SameAll T U → world_at T ≡ world_at U
world_same T U h =
    ap₂ (λ r l. let w : World = record { rules = r; login = l; kept = kept T; flags = flags T } in w) (ap (λ x. x.rules) h.header) h.login
    ∙ ap₂ (λ k f. let w : World = record { rules = U.header.rules; login = logins U; kept = k; flags = f } in
    w) (ap keys_of h.kept) (ap keys_of h.flags)

-- a row more, of events that say the same to calls that go on
grow_all : (T U : Trace) → SameAll T U → (line line' : ℕ) (e e' : Event) → SameReads (effects_of T e) (effects_of U e')
    → ((q : ℕ) (ign : Bool) (f : Known) → with_said (world_at T) ign (input_to q e) f ≡ with_said (world_at T) ign
    (input_to q e') f)
    → SameAll (with_event T line e) (with_event U line' e')
grow_all T U h line line' e e' reads said =
    record {
      header = h.header;
      time = ap₂ option_or reads.time h.time;
      page = λ q. ap₂ unwrap_or (reads.page q) (h.page q);
      stage = λ q. ap₂ unwrap_or (reads.stage q) (h.stage q);
      login = ap (entries_after same_origin login_change (effects_of T e)) h.login ∙ reads.login (logins U);
      kept = ap (entries_after same_triple kept_change (effects_of T e)) h.kept ∙ reads.kept (standing same_triple kept_change U.rows);
      flags = ap (entries_after same_origin flag_change (effects_of T e)) h.flags ∙ reads.flags (standing same_origin flag_change U.rows);
      calls = ap (entries_after nat_eq call_change (effects_of T e)) h.calls ∙ reads.calls (pending U);
      gets = ap (entries_after nat_eq get_change (effects_of T e)) h.gets ∙ reads.gets (trace.gets U);
      windows = ap (entries_after nat_eq window_change (effects_of T e)) h.windows ∙ reads.windows (standing nat_eq window_change U.rows);
      begins_it = λ q. ap₂ option_or (reads.begins_it q) (h.begins_it q);
      taken = ap₂ (λ xs ys. xs ++ ys) h.taken reads.taken;
      written = ap₂ (λ xs ys. xs ++ ys) h.written reads.written;
      known = λ q.
          ap₂ option_or (ap₂ (λ w b. option_map (known_first w) b) (world_same T U h) (reads.begins_it q))
          (same_map (known_in T.header T.rows q) (said q (list_any is_ignored (effects_of T e)))
          ∙ ap₂ (λ w b. option_map (with_said w b (input_to q e')) (known_in T.header T.rows q)) (world_same T U h) reads.ignored
          ∙ ap (option_map (with_said (world_at U) (list_any is_ignored (effects_of U e')) (input_to q e'))) (h.known q));
    }
  where
    same_map : {f g : Known → Known} (o : Option Known) → ((x : Known) → f x ≡ g x) → option_map f o ≡ option_map g o
    same_map None k = refl
    same_map (Some x) k = ap Some (k x)

-- ---- the effects of an event are a function of what is looked up

text_same : (T U : Trace) → SameAll T U → (to : Parts)
    → jar_text T.header.rules to (now_at T) (trace.cookies T) ≡ jar_text U.header.rules to (now_at U) (trace.cookies U)
text_same T U h to =
    ap (λ r. jar_text r to (now_at T) (trace.cookies T)) (ap (λ x. x.rules) h.header)
    ∙ ap₂ (λ n w. jar_text U.header.rules to n (standing_cookies w)) (ap₂ unwrap_or h.time (ap (λ x. x.now) h.header)) h.written

cookies_same : (T U : Trace) → SameAll T U → (ask : Ask) → cookies_with T ask ≡ cookies_with U ask
cookies_same T U h (asks.Accounts to) = text_same T U h to
cookies_same T U h (asks.Disconnect to client hint origin) = text_same T U h to
cookies_same T U h (asks.Assertion ask) = text_same T U h ask.to
cookies_same T U h (asks.WellKnown to) = refl
cookies_same T U h (asks.Config to) = refl
cookies_same T U h (asks.Metadata to client origin) = refl

all_cookies_same : (T U : Trace) → SameAll T U → cookies_with T ≡ cookies_with U
all_cookies_same T U h = λ i ask. cookies_same T U h ask i

known_same : (T U : Trace) → SameAll T U → (q : ℕ) → known_at T q ≡ known_at U q
known_same T U h q = ap₂ known_by (h.stage q) (h.known q)

input_same : (T U : Trace) → SameAll T U → (call : ℕ) (i : Input)
    → input_effects (world_at T) (cookies_with T) (is_begun T call) call (known_at T call) i
    ≡ input_effects (world_at U) (cookies_with U) (is_begun U call) call (known_at U call) i
input_same T U h call i =
    ap₂ (λ w ck. input_effects w ck (is_begun T call) call (known_at T call) i) (world_same T U h) (all_cookies_same T U h)
    ∙ ap₂ (λ b f. input_effects (world_at U) (cookies_with U) b call f i) (ap (list_any (nat_eq call)) h.taken) (known_same T U h call)

found_same : (T U : Trace) → SameAll T U → (url : Parts) (fields : List (List ℕ))
    → stored_in T (cookies_from T.header.rules url (now_at T) fields) ≡ stored_in U (cookies_from U.header.rules url (now_at U) fields)
found_same T U h url fields =
    ap₂ (λ r n. changes_from r n (trace.cookies T) (cookies_from r url n fields)) (ap (λ x. x.rules) h.header)
    (ap₂ unwrap_or h.time (ap (λ x. x.now) h.header))
    ∙ ap (λ w. changes_from U.header.rules (now_at U) (standing_cookies w) (cookies_from U.header.rules url (now_at U) fields)) h.written

begin_same : (T U : Trace) → SameAll T U → (page call : ℕ) (options : CallOptions)
    → begin_effects (world_at T) (cookies_with T) (page_at T page) (is_busy page (trace.gets T)) page call options
    ≡ begin_effects (world_at U) (cookies_with U) (page_at U page) (is_busy page (trace.gets U)) page call options
begin_same T U h page call options =
    ap₂ (λ w ck. begin_effects w ck (page_at T page) (is_busy page (trace.gets T)) page call options) (world_same T U h)
    (all_cookies_same T U h)
    ∙ ap₂ (λ o x. begin_effects (world_at U) (cookies_with U) o (is_busy page x) page call options) (h.page page) h.gets

windows_same : (T U : Trace) → SameAll T U → (origin : Origin) → windows_of T origin ≡ windows_of U origin
windows_same T U h origin =
    ap₂ (λ (asked : ℕ → Option Origin) calls. filter (λ call. is_origin origin (asked call)) calls)
    (λ i q. ap (λ (o : Option Begun). option_and_then (λ begun. provider_asked begun.options) o) (h.begins_it q) i)
    (ap keys_of h.windows)

-- a page that says that the user has signed in
resumes_same : (T U : Trace) → SameAll T U → (page : ℕ)
    → idpclose_effects (world_at T) (cookies_with T) (known_at T) (windows_of T) (page_at T page)
    ≡ idpclose_effects (world_at U) (cookies_with U) (known_at U) (windows_of U) (page_at U page)
resumes_same T U h page =
    ap₂ (λ w ck. idpclose_effects w ck (known_at T) (windows_of T) (page_at T page)) (world_same T U h) (all_cookies_same T U h)
    ∙ ap₂ (λ known waiting. idpclose_effects (world_at U) (cookies_with U) known waiting (page_at T page)) (λ i q. known_same T U h q i)
    (λ i origin. windows_same T U h origin i)
    ∙ ap (idpclose_effects (world_at U) (cookies_with U) (known_at U) (windows_of U)) (h.page page)

effects_same : (T U : Trace) → SameAll T U → (e : Event) → effects_of T e ≡ effects_of U e
effects_same T U h (events.Have (haves.Cookie url field)) = ap (λ cs. cookie_effects cs ++ []) (found_same T U h url (field ∷ []))
effects_same T U h (events.Have (haves.Login origin status)) = refl
effects_same T U h (events.Have (haves.Kept triple)) = refl
effects_same T U h (events.Have (haves.Silent origin)) = refl
effects_same T U h (events.At time) = refl
effects_same T U h (events.Load page url raw) =
    ap₂ (λ x cs. load_effects (calls_of page x) page url cs (set_logins raw)) h.calls (found_same T U h url (set_cookies raw))
effects_same T U h (events.ClosePage page) = ap₂ (λ x o. close_effects (calls_of page x) page o) h.calls (h.page page)
effects_same T U h (events.Prevent page) = ap (λ o. page_says o (λ origin. Flag origin true)) (h.page page)
effects_same T U h (events.SetStatus page status) = ap (λ o. page_says o (λ origin. Login origin status)) (h.page page)
effects_same T U h (events.Get page call options) = begin_same T U h page call (ToGet options)
effects_same T U h (events.Disconnect page call config client hint) =
    begin_same T U h page call (ToDisconnect (record { config = config; client = client; hint = hint }))
effects_same T U h (events.Abort call) = input_same T U h call inputs.Abort
effects_same T U h (events.GoOn call) = input_same T U h call inputs.GoOn
effects_same T U h (events.Cancel call) = input_same T U h call inputs.Cancel
effects_same T U h (events.SignIn call) = input_same T U h call inputs.SignIn
effects_same T U h (events.ShutWindow call) = input_same T U h call inputs.Shut
effects_same T U h (events.IdpClose page) = resumes_same T U h page
effects_same T U h (events.Reply call provider kind raw) = input_same T U h call (inputs.Reply provider kind raw)
effects_same T U h (events.Choose call provider account) = input_same T U h call (inputs.Choose provider account)

-- ---- the row that may differ

-- a token, by whether its account was reselected
tokens_same : (w : World) (ck : Ask → List ℕ) (call page : ℕ) (origin : Origin) (o : Offered) (t t' : List ℕ) (auto : Bool)
    → ButToken call (outcome_effects w ck GetCall call page (keeps origin o (clears auto origin (finishes (Token auto o.place t)))))
    (outcome_effects w ck GetCall call page (keeps origin o (clears auto origin (finishes (Token auto o.place t')))))
tokens_same w ck call page origin o t t' true =
    Tokens (Kept (triple_of origin (origin_of o.options.config) o.candidate.account.id) true ∷ []) page o.place true t t'
tokens_same w ck call page origin o t t' false =
    Tokens (Kept (triple_of origin
    (origin_of o.options.config) o.candidate.account.id) true ∷ Flag origin false ∷ []) page o.place false t t'

given_same : (w : World) (ck : Ask → List ℕ) (call page : ℕ) (f : Facts) (o : Offered)
    → (a b : Answer (List ℕ) TokenStep) → AreTokens a b
    → ButToken call (outcome_effects w ck GetCall call page (by_token f o a)) (outcome_effects w ck GetCall call page (by_token f o b))
given_same w ck call page f o (Ok t) (Ok t') h = tokens_same w ck call page f.origin o t t' f.auto
given_same w ck call page f o (Err s) (Err s') h =
    subst (λ x. ButToken call (outcome_effects w ck GetCall call page (by_token f o (Err s)))
    (outcome_effects w ck GetCall call page (by_token f o (Err x)))) h (Equal _)
given_same w ck call page f o (Ok t) (Err s) h = absurd h
given_same w ck call page f o (Err s) (Ok t) h = absurd h

-- the first stages await no assertion reply
first_same : (w : World) (ck : Ask → List ℕ) (call page : ℕ) (f : Facts) (place : ℕ) (raw raw' : List ℕ)
    → ButToken call (outcome_effects w ck GetCall call page (awaited_reply w f place kinds.Assertion raw))
    (outcome_effects w ck GetCall call page (awaited_reply w f place kinds.Assertion raw'))
first_same w ck call page f place raw raw' =
    subst (λ c. ButToken call (outcome_effects w ck GetCall call page (awaited_reply w f place kinds.Assertion raw))
    (outcome_effects w ck GetCall call page (provider_row w f place (provider_at place f.options) c)))
    (no_assertion w f place raw ∙ sym (no_assertion w f place raw')) (Equal _)

reply_same : (w : World) (ck : Ask → List ℕ) (call page : ℕ) (f : Facts) (stage : Stage) (place : ℕ) (raw raw' : List ℕ)
    → ((o : List ℕ) → AreTokens (AssertionOf raw o) (AssertionOf raw' o))
    → ButToken call (outcome_effects w ck GetCall call page (stage_reply w f stage place kinds.Assertion raw))
    (outcome_effects w ck GetCall call page (stage_reply w f stage place kinds.Assertion raw'))
reply_same w ck call page f Reading place raw raw' h = first_same w ck call page f place raw raw'
reply_same w ck call page f Listing place raw raw' h = first_same w ck call page f place raw raw'
reply_same w ck call page f Gathering place raw raw' h = first_same w ck call page f place raw raw'
reply_same w ck call page f Mismatch place raw raw' h = Equal _
reply_same w ck call page f Window place raw raw' h = Equal _
reply_same w ck call page f Choosing place raw raw' h = Equal _
reply_same w ck call page f Prompting place raw raw' h = Equal _
reply_same w ck call page f Ended place raw raw' h = Equal _
reply_same w ck call page f Asserting place raw raw' h = go (picked_at place f.picked)
  where
    go : (o : Option Offered)
        → ButToken call (outcome_effects w ck GetCall call page (assertion_reply f o raw))
        (outcome_effects w ck GetCall call page (assertion_reply f o raw'))
    go None = Equal _
    go (Some o) =
        given_same w ck call page f o (AssertionOf raw (origin_text f.origin)) (AssertionOf raw' (origin_text f.origin))
        (h (origin_text f.origin))

-- a disconnect waits for no assertion reply
disconnect_reply_same : (w : World) (ck : Ask
    → List ℕ) (call : ℕ) (f : DisconnectFacts) (own : Bool) (stage : Stage) (raw raw' : List ℕ)
    → ButToken call (outcome_effects w ck DisconnectCall call f.page
    (provider_reply w (record f { stage = stage }) own kinds.Assertion raw))
    (outcome_effects w ck DisconnectCall call f.page (provider_reply w (record f { stage = stage }) own kinds.Assertion raw'))
disconnect_reply_same w ck call f false stage raw raw' = Equal _
disconnect_reply_same w ck call f true Reading raw raw' = Equal _
disconnect_reply_same w ck call f true Asserting raw raw' = Equal _
disconnect_reply_same w ck call f true Listing raw raw' = Equal _
disconnect_reply_same w ck call f true Mismatch raw raw' = Equal _
disconnect_reply_same w ck call f true Gathering raw raw' = Equal _
disconnect_reply_same w ck call f true Window raw raw' = Equal _
disconnect_reply_same w ck call f true Choosing raw raw' = Equal _
disconnect_reply_same w ck call f true Prompting raw raw' = Equal _
disconnect_reply_same w ck call f true Ended raw raw' = Equal _

token_row : (T : Trace) (call place : ℕ) (raw raw' : List ℕ) → ((o : List ℕ) → AreTokens (AssertionOf raw o) (AssertionOf raw' o))
    → ButToken call (effects_of T (events.Reply call place kinds.Assertion raw))
    (effects_of T (events.Reply call place kinds.Assertion raw'))
token_row T call place raw raw' h = go (is_begun T call) (known_at T call)
  where
    go : (begun : Bool) (known : Option Known)
        → ButToken call (input_effects (world_at T) (cookies_with T) begun call known (inputs.Reply place kinds.Assertion raw))
        (input_effects (world_at T) (cookies_with T) begun call known (inputs.Reply place kinds.Assertion raw'))
    go false known = Equal _
    go true None = Equal _
    go true (Some (OfGet f)) = reply_same (world_at T) (cookies_with T) call f.page f f.stage place raw raw' h
    go true (Some (OfDisconnect f)) =
        disconnect_reply_same (world_at T) (cookies_with T) call f (place == only_place) f.stage raw raw'

-- an assertion reply says nothing to a call that goes on
says_nothing : (T : Trace) (call place q : ℕ) (raw raw' : List ℕ) (ign : Bool) (f : Known)
    → with_said (world_at T) ign (input_to q (events.Reply call place kinds.Assertion raw)) f
    ≡ with_said (world_at T) ign (input_to q (events.Reply call place kinds.Assertion raw')) f
says_nothing T call place q raw raw' ign f = go (nat_eq q call) ign
  where
    known : (ign : Bool) (k : Known) → with_input (world_at T) ign (inputs.Reply place kinds.Assertion raw) k
        ≡ with_input (world_at T) ign (inputs.Reply place kinds.Assertion raw') k
    known false (OfGet facts) = refl
    known true (OfGet facts) = refl
    known false (OfDisconnect facts) = refl
    known true (OfDisconnect facts) = refl

    go : (own ign : Bool) → with_said (world_at T) ign (cond own (Some (inputs.Reply place kinds.Assertion raw)) None) f
        ≡ with_said (world_at T) ign (cond own (Some (inputs.Reply place kinds.Assertion raw')) None) f
    go false ign = refl
    go true ign = known ign f

-- ---- the walk

-- the rows that events add
pub rows_of : Trace → List Numbered → List Row
rows_of T [] = []
rows_of T (n ∷ ns) = rows_of (with_event T n.line n.event) ns ++ row_of T n.line n.event ∷ []

pub rows_are : (T : Trace) (ns : List Numbered) → (with_events T ns).rows ≡ rows_of T ns ++ T.rows
unfolding rows_of
rows_are T [] = refl
rows_are T (n ∷ ns) =
    rows_are (with_event T n.line n.event) ns
    ∙ sym (append_assoc (rows_of (with_event T n.line n.event) ns) (row_of T n.line n.event ∷ []) T.rows)

events_joined : (T : Trace) (xs ys : List Numbered) → with_events T (xs ++ ys) ≡ with_events (with_events T xs) ys
events_joined T [] ys = refl
events_joined T (x ∷ xs) ys = events_joined (with_event T x.line x.event) xs ys

-- events add the same rows where all that is looked up is the same
same_rows : (T U : Trace) → SameAll T U → (ns : List Numbered) → rows_of T ns ≡ rows_of U ns
unfolding rows_of
same_rows T U h [] = refl
same_rows T U h (n ∷ ns) =
    let reads : SameReads (effects_of T n.event) (effects_of U n.event) = subst (SameReads (effects_of T n.event))
    (effects_same T U h n.event) (reads_same 0 (Equal (effects_of T n.event))) in
    ap₂ (λ later es. later ++ (record { line = n.line; event = n.event; effects = es }) ∷ [])
    (same_rows (with_event T n.line n.event) (with_event U n.line n.event)
    (grow_all T U h n.line n.line n.event n.event reads (λ q ign f. refl)) ns)
    (effects_same T U h n.event)

pub one_token_lem : OneToken
one_token_lem a b call twin =
    let T : Trace = with_events (start a.header) twin.before in
    let e : Event = events.Reply call twin.provider kinds.Assertion twin.raw in
    let e' : Event = events.Reply call twin.provider kinds.Assertion twin.raw' in
    let T1 : Trace = with_event T twin.line e in
    let T2 : Trace = with_event T twin.line e' in
    let but = token_row T call twin.provider twin.raw twin.raw' twin.reads in
    let same = grow_all T T (same_self T) twin.line twin.line e e'
    (reads_same call but) (λ q ign f. says_nothing T call twin.provider q twin.raw twin.raw' ign f) in
    record {
      later = rows_of T1 twin.after;
      earlier = T.rows;
      row = row_of T twin.line e;
      row' = row_of T twin.line e';
      first = ap (λ ns. (with_events (start a.header) ns).rows) twin.first
          ∙ ap (λ x. x.rows) (events_joined (start a.header) twin.before (reply_at twin.line call twin.provider twin.raw ∷ twin.after))
          ∙ rows_are T1 twin.after;
      second = ap (λ ns. (with_events (start b.header) ns).rows) twin.second
          ∙ ap (λ h. (with_events (start h) (twin.before ++ reply_at twin.line call twin.provider twin.raw' ∷ twin.after)).rows)
          (sym twin.header)
          ∙ ap (λ x. x.rows) (events_joined (start a.header) twin.before
          (reply_at twin.line call twin.provider twin.raw' ∷ twin.after))
          ∙ rows_are T2 twin.after ∙ ap (λ l. l ++ T2.rows) (sym (same_rows T1 T2 same twin.after));
      line = refl;
      effects = but;
    }
