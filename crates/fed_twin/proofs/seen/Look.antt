-- Where providers can tell the same of what happened, the look-backs are the same, as far as they hang on it.
use Rattle.std.proofs.Common.{◌≡◌, ℕ, Bool, true, false, nat_eq, cond, List, [], ◌∷◌, ◌++◌, Option, Some, None, filter, refl, sym, ap, ◌∙◌}
use Rattle.std.specs.Prelude.{option_and_then, option_map, unwrap_or, bytes_eq, ⊤}
use Rattle.std.proofs.lemmas.Slice.Eq.{bytes_eq-Decides}
use Rattle.std.specs.Map.{lookup, keys_of}
use Rattle.std.specs.List.{filter_map, cons_option, list_any}
use Rattle.indexmap.specs.IndexMap.{insert_entry}
use Rattle.url.specs.Parts.{Parts}
use Rattle.fed_origin.specs.declared.origin.Origin.{Origin}
use Rattle.fed_origin.specs.declared.stage.Stage.{Stage}
use Rattle.fed_origin.specs.declared.stage.Stage.TheVariants as stages
use Rattle.fed_origin.specs.declared.status.LoginStatus.{LoginStatus}
use Rattle.fed_origin.specs.declared.status.LoginStatus.TheVariants.{Unknown}
use Rattle.fed_origin.specs.Origin.{same_origin}
use Rattle.fed_origin.specs.WebUrl.{host_of}
use Rattle.fed_suffix.specs.Registrable.{party}
use Rattle.fed_jar.specs.Changes.{CookieChange, domain_of, changes_party}
use Rattle.fed_jar.specs.Store.{part_of}
use Rattle.fed_jar.specs.Send.{jar_text}
use Rattle.fed_status.specs.Login.{Logins, status_of}
use Rattle.fed_status.proofs.lists.Same.{same_origin_is}
use Rattle.fed_consent.specs.declared.table.ask.Ask.{Ask}
use Rattle.fed_consent.specs.declared.table.ask.Ask.TheVariants as asks
use Rattle.fed_trace.specs.Begun.{CallKind, GetCall, DisconnectCall, kind_asked, of_get}
use Rattle.fed_trace.specs.Effect.{Effect, page_change, login_change, get_change, get_begun, time_of, cookie_change, is_window, key_change}
use Rattle.fed_trace.specs.Effect as does
use Rattle.fed_trace.specs.Keyed.{Change, changed, entries_after, says}
use Rattle.fed_trace.specs.Trace.{Row, Trace, page_at, logins, gets, now_at, cookies, cookie_changes, standing, all_said, last_in}
use Rattle.fed_twin.specs.Script.{first_bytes, first_sent, first_requests}
use Rattle.fed_twin.specs.Providers.{Providers, is_provider}
use Rattle.fed_twin.specs.Seen.{Seen, Time, Page, Closed, Cookie, Login, Begin, Move, Sent, Told, told, seen}
use Rattle.fed_twin.specs.Seen.{seen_sent, view}
use Rattle.fed_jar.proofs.parties.Parties.{text_is_of_party, part_standing}
use Rattle.fed_twin.proofs.seen.Seen.{last_at, last_in-seen, last_value-seen, standing-seen, all_said-seen}
use Rattle.fed_twin.specs.Looks.{LooksAreSeen, gets_begun, get_window_change, gets_in_window}

-- ---- readings of what is seen

-- a reading that says nothing of what is seen of a kind
no_sent : {A : Type 0} (f : Seen → Option A)
    → ((call provider : ℕ) (ask : Ask) (cookies : List ℕ) → f (Sent call provider ask cookies) ≡ None)
    → (call provider : ℕ) (ask : Ask) (cookies : List ℕ) → None ≡ option_and_then f (seen_sent call provider ask cookies)
no_sent f h call provider (asks.WellKnown to) cookies = sym (h call provider (asks.WellKnown to) cookies)
no_sent f h call provider (asks.Config to) cookies = sym (h call provider (asks.Config to) cookies)
no_sent f h call provider (asks.Accounts to) cookies = sym (h call provider (asks.Accounts to) cookies)
no_sent f h call provider (asks.Metadata to client origin) cookies = refl
no_sent f h call provider (asks.Assertion ask) cookies = refl
no_sent f h call provider (asks.Disconnect to client hint origin) cookies = refl

-- what is said of gets alone is read of what is seen of gets alone
of_gets : {A B : Type 0} (f : B → Option A) (kind : CallKind) (said : Option A) (look : Option B) → said ≡ option_and_then f look
    → of_get kind said ≡ option_and_then f (of_get kind look)
of_gets f GetCall said look h = h
of_gets f DisconnectCall said look h = refl

no_get : {A B : Type 0} (f : B → Option A) (kind : CallKind) (look : Option B) → None ≡ option_and_then f look
    → None ≡ option_and_then f (of_get kind look)
no_get f GetCall look h = h
no_get f DisconnectCall look h = refl

no_test : {A : Type 0} (f : Seen → Option A) (x : Seen) → f x ≡ None → (b : Bool)
    → None ≡ option_and_then f (cond b (Some x) None)
no_test f x h true = sym h
no_test f x h false = refl

-- ---- the time

time_seen : Seen → Option ℕ
time_seen (Time time) = Some time
time_seen _ = None

time_is : (p : Providers) (e : Effect) → time_of e ≡ option_and_then time_seen (seen p e)
unfolding time_seen
time_is p (does.Time time) = refl
time_is p (does.Page page origin) = refl
time_is p (does.Closed page) = refl
time_is p (does.Cookie cookie) = no_test time_seen (Cookie cookie) refl (is_provider p (domain_of cookie))
time_is p (does.Login origin status) = no_test time_seen (Login origin status) refl (is_provider p origin.host)
time_is p (does.Begin b) = no_get time_seen (kind_asked b.options) (Some (Begin b.call b.page)) refl
time_is p (does.Move kind call stage) = no_get time_seen kind (Some (Move call stage)) refl
time_is p (does.Sent kind call provider ask cookies) =
    no_get time_seen kind (seen_sent call provider ask cookies) (no_sent time_seen (λ c q a k. refl) call provider ask cookies)
time_is p (does.Shown call dialog) = refl
time_is p (does.Dropped call provider failure) = refl
time_is p (does.Window call provider url) = refl
time_is p (does.Kept triple stays) = refl
time_is p (does.Flag origin stays) = refl
time_is p (does.Result call page finish) = refl
time_is p (does.Ignored why) = refl

pub now_same : (p : Providers) (T U : Trace) → T.header.now ≡ U.header.now → view p T.rows ≡ view p U.rows → now_at T ≡ now_at U
now_same p T U header same =
    ap (λ o. unwrap_or o T.header.now) (last_in-seen (seen p) time_of time_seen (time_is p) T.rows ∙ ap
    (last_at time_seen) same ∙ sym (last_in-seen (seen p) time_of time_seen (time_is p) U.rows))
    ∙ ap (unwrap_or (last_in time_of U.rows)) header

-- ---- pages

page_seen : ℕ → Seen → Option (Option Told)
page_seen q (Page page trusted origin) = cond (nat_eq q page) (Some (Some (record { trusted = trusted; origin = origin }))) None
page_seen q (Closed page) = cond (nat_eq q page) (Some None) None
page_seen q _ = None

page_is : (p : Providers) (q : ℕ) (e : Effect)
    → option_map (option_map (told p)) (says nat_eq q (page_change e)) ≡ option_and_then (page_seen q) (seen p e)
unfolding page_seen
page_is p q (does.Time time) = refl
page_is p q (does.Page page origin) = go (nat_eq q page)
  where
    go : (b : Bool) → option_map (option_map (told p)) (cond b (Some (Some origin)) None) ≡ cond b (Some (Some (told p origin))) None
    go true = refl
    go false = refl
page_is p q (does.Closed page) = go (nat_eq q page)
  where
    go : (b : Bool) → option_map (option_map (told p)) (cond b (Some None) None) ≡ cond b (Some None) None
    go true = refl
    go false = refl
page_is p q (does.Cookie cookie) = no_test (page_seen q) (Cookie cookie) refl (is_provider p (domain_of cookie))
page_is p q (does.Login origin status) = no_test (page_seen q) (Login origin status) refl (is_provider p origin.host)
page_is p q (does.Begin b) = no_get (page_seen q) (kind_asked b.options) (Some (Begin b.call b.page)) refl
page_is p q (does.Move kind call stage) = no_get (page_seen q) kind (Some (Move call stage)) refl
page_is p q (does.Sent kind call provider ask cookies) =
    no_get (page_seen q) kind (seen_sent call provider ask cookies) (no_sent (page_seen q) (λ c r a k. refl) call provider ask cookies)
page_is p q (does.Shown call dialog) = refl
page_is p q (does.Dropped call provider failure) = refl
page_is p q (does.Window call provider url) = refl
page_is p q (does.Kept triple stays) = refl
page_is p q (does.Flag origin stays) = refl
page_is p q (does.Result call page finish) = refl
page_is p q (does.Ignored why) = refl

pub page_same : (p : Providers) (T U : Trace) (q : ℕ) → view p T.rows ≡ view p U.rows
    → option_map (told p) (page_at T q) ≡ option_map (told p) (page_at U q)
page_same p T U q same =
    last_value-seen (seen p) nat_eq page_change q (told p) (page_seen q) (page_is p q) T.rows
    ∙ ap (λ v. unwrap_or (last_at (page_seen q) v) None) same
    ∙ sym (last_value-seen (seen p) nat_eq page_change q (told p) (page_seen q) (page_is p q) U.rows)

-- ---- pending gets

call_seen : Seen → Option (Change ℕ ℕ)
call_seen (Begin call page) = Some (call, Some page)
call_seen (Move call stages.Ended) = Some (call, None)
call_seen _ = None

call_moves : (call : ℕ) (stage : Stage) → does.unless_ended call stage ≡ call_seen (Move call stage)
unfolding call_seen
call_moves call stages.Reading = refl
call_moves call stages.Listing = refl
call_moves call stages.Mismatch = refl
call_moves call stages.Gathering = refl
call_moves call stages.Window = refl
call_moves call stages.Choosing = refl
call_moves call stages.Prompting = refl
call_moves call stages.Asserting = refl
call_moves call stages.Ended = refl

call_is : (p : Providers) (e : Effect) → get_change e ≡ option_and_then call_seen (seen p e)
unfolding call_seen
call_is p (does.Time time) = refl
call_is p (does.Page page origin) = refl
call_is p (does.Closed page) = refl
call_is p (does.Cookie cookie) = no_test call_seen (Cookie cookie) refl (is_provider p (domain_of cookie))
call_is p (does.Login origin status) = no_test call_seen (Login origin status) refl (is_provider p origin.host)
call_is p (does.Begin b) = of_gets call_seen (kind_asked b.options) (Some (b.call, Some b.page)) (Some (Begin b.call b.page)) refl
call_is p (does.Move kind call stage) =
    of_gets call_seen kind (does.unless_ended call stage) (Some (Move call stage)) (call_moves call stage)
call_is p (does.Sent kind call provider ask cookies) =
    no_get call_seen kind (seen_sent call provider ask cookies) (no_sent call_seen (λ c r a k. refl) call provider ask cookies)
call_is p (does.Shown call dialog) = refl
call_is p (does.Dropped call provider failure) = refl
call_is p (does.Window call provider url) = refl
call_is p (does.Kept triple stays) = refl
call_is p (does.Flag origin stays) = refl
call_is p (does.Result call page finish) = refl
call_is p (does.Ignored why) = refl

pub gets_same : (p : Providers) (T U : Trace) → view p T.rows ≡ view p U.rows → gets T ≡ gets U
gets_same p T U same =
    standing-seen (seen p) nat_eq get_change call_seen (call_is p) T.rows ∙ ap (λ v. entries_after nat_eq call_seen v []) same
    ∙ sym (standing-seen (seen p) nat_eq get_change call_seen (call_is p) U.rows)

-- ---- gets that began

begun_seen : Seen → Option ℕ
begun_seen (Begin call page) = Some call
begun_seen _ = None

begun_is : (p : Providers) (e : Effect) → get_begun e ≡ option_and_then begun_seen (seen p e)
unfolding begun_seen
begun_is p (does.Time time) = refl
begun_is p (does.Page page origin) = refl
begun_is p (does.Closed page) = refl
begun_is p (does.Cookie cookie) = no_test begun_seen (Cookie cookie) refl (is_provider p (domain_of cookie))
begun_is p (does.Login origin status) = no_test begun_seen (Login origin status) refl (is_provider p origin.host)
begun_is p (does.Begin b) = of_gets begun_seen (kind_asked b.options) (Some b.call) (Some (Begin b.call b.page)) refl
begun_is p (does.Move kind call stage) = no_get begun_seen kind (Some (Move call stage)) refl
begun_is p (does.Sent kind call provider ask cookies) =
    no_get begun_seen kind (seen_sent call provider ask cookies) (no_sent begun_seen (λ c r a k. refl) call provider ask cookies)
begun_is p (does.Shown call dialog) = refl
begun_is p (does.Dropped call provider failure) = refl
begun_is p (does.Window call provider url) = refl
begun_is p (does.Kept triple stays) = refl
begun_is p (does.Flag origin stays) = refl
begun_is p (does.Result call page finish) = refl
begun_is p (does.Ignored why) = refl

begun_same : (p : Providers) (T U : Trace) → view p T.rows ≡ view p U.rows → gets_begun T.rows ≡ gets_begun U.rows
begun_same p T U same =
    all_said-seen (seen p) get_begun begun_seen (begun_is p) T.rows ∙ ap (filter_map begun_seen) same
    ∙ sym (all_said-seen (seen p) get_begun begun_seen (begun_is p) U.rows)

-- ---- gets in Window

window_seen : Seen → Option (Change ℕ ⊤)
window_seen (Move call stage) = Some (key_change call (is_window stage))
window_seen _ = None

window_is : (p : Providers) (e : Effect) → get_window_change e ≡ option_and_then window_seen (seen p e)
unfolding window_seen
window_is p (does.Time time) = refl
window_is p (does.Page page origin) = refl
window_is p (does.Closed page) = refl
window_is p (does.Cookie cookie) = no_test window_seen (Cookie cookie) refl (is_provider p (domain_of cookie))
window_is p (does.Login origin status) = no_test window_seen (Login origin status) refl (is_provider p origin.host)
window_is p (does.Begin b) = no_get window_seen (kind_asked b.options) (Some (Begin b.call b.page)) refl
window_is p (does.Move kind call stage) =
    of_gets window_seen kind (Some (key_change call (is_window stage))) (Some (Move call stage)) refl
window_is p (does.Sent kind call provider ask cookies) =
    no_get window_seen kind (seen_sent call provider ask cookies) (no_sent window_seen (λ c r a k. refl) call provider ask cookies)
window_is p (does.Shown call dialog) = refl
window_is p (does.Dropped call provider failure) = refl
window_is p (does.Window call provider url) = refl
window_is p (does.Kept triple stays) = refl
window_is p (does.Flag origin stays) = refl
window_is p (does.Result call page finish) = refl
window_is p (does.Ignored why) = refl

pub gets_in_window_same : (p : Providers) (T U : Trace) → view p T.rows ≡ view p U.rows
    → gets_in_window T.rows ≡ gets_in_window U.rows
gets_in_window_same p T U same =
    ap keys_of
    (standing-seen (seen p) nat_eq get_window_change window_seen (window_is p) T.rows ∙ ap (λ v. entries_after nat_eq window_seen v []) same
    ∙ sym (standing-seen (seen p) nat_eq get_window_change window_seen (window_is p) U.rows))

-- ---- what is sent

first_seen : Seen → Option (List ℕ)
first_seen (Sent call provider ask cookies) = first_bytes ask cookies
first_seen _ = None

first_asks : (call provider : ℕ) (ask : Ask) (cookies : List ℕ)
    → first_bytes ask cookies ≡ option_and_then first_seen (seen_sent call provider ask cookies)
unfolding first_seen
first_asks call provider (asks.WellKnown to) cookies = refl
first_asks call provider (asks.Config to) cookies = refl
first_asks call provider (asks.Accounts to) cookies = refl
first_asks call provider (asks.Metadata to client origin) cookies = refl
first_asks call provider (asks.Assertion ask) cookies = refl
first_asks call provider (asks.Disconnect to client hint origin) cookies = refl

first_is : (p : Providers) (e : Effect) → first_sent e ≡ option_and_then first_seen (seen p e)
unfolding first_seen
first_is p (does.Time time) = refl
first_is p (does.Page page origin) = refl
first_is p (does.Closed page) = refl
first_is p (does.Cookie cookie) = no_test first_seen (Cookie cookie) refl (is_provider p (domain_of cookie))
first_is p (does.Login origin status) = no_test first_seen (Login origin status) refl (is_provider p origin.host)
first_is p (does.Begin b) = no_get first_seen (kind_asked b.options) (Some (Begin b.call b.page)) refl
first_is p (does.Move kind call stage) = no_get first_seen kind (Some (Move call stage)) refl
first_is p (does.Sent kind call provider ask cookies) =
    of_gets first_seen kind (first_bytes ask cookies) (seen_sent call provider ask cookies) (first_asks call provider ask cookies)
first_is p (does.Shown call dialog) = refl
first_is p (does.Dropped call provider failure) = refl
first_is p (does.Window call provider url) = refl
first_is p (does.Kept triple stays) = refl
first_is p (does.Flag origin stays) = refl
first_is p (does.Result call page finish) = refl
first_is p (does.Ignored why) = refl

pub sign_in_same : (p : Providers) (T U : Trace) → view p T.rows ≡ view p U.rows → first_requests T.rows ≡ first_requests U.rows
sign_in_same p T U same =
    all_said-seen (seen p) first_sent first_seen (first_is p) T.rows ∙ ap (filter_map first_seen) same
    ∙ sym (all_said-seen (seen p) first_sent first_seen (first_is p) U.rows)

-- ---- cookies

-- a cookie of the party of a provider stands or goes
abbrev theirs : Providers → CookieChange → Bool
theirs p change = is_provider p (domain_of change)

cookie_seen : Seen → Option CookieChange
cookie_seen (Cookie cookie) = Some cookie
cookie_seen _ = None

-- what an effect says of cookies, if they are of the party of a provider
abbrev their_cookie : Providers → Effect → Option CookieChange
their_cookie p (does.Cookie cookie) = cond (is_provider p (domain_of cookie)) (Some cookie) None
their_cookie p _ = None

cookie_is : (p : Providers) (e : Effect) → their_cookie p e ≡ option_and_then cookie_seen (seen p e)
unfolding cookie_seen
cookie_is p (does.Time time) = refl
cookie_is p (does.Page page origin) = refl
cookie_is p (does.Closed page) = refl
cookie_is p (does.Cookie cookie) = go (is_provider p (domain_of cookie))
  where
    go : (b : Bool) → cond b (Some cookie) None ≡ option_and_then cookie_seen (cond b (Some (Cookie cookie)) None)
    go true = refl
    go false = refl
cookie_is p (does.Login origin status) = no_test cookie_seen (Login origin status) refl (is_provider p origin.host)
cookie_is p (does.Begin b) = no_get cookie_seen (kind_asked b.options) (Some (Begin b.call b.page)) refl
cookie_is p (does.Move kind call stage) = no_get cookie_seen kind (Some (Move call stage)) refl
cookie_is p (does.Sent kind call provider ask cookies) =
    no_get cookie_seen kind (seen_sent call provider ask cookies) (no_sent cookie_seen (λ c r a k. refl) call provider ask cookies)
cookie_is p (does.Shown call dialog) = refl
cookie_is p (does.Dropped call provider failure) = refl
cookie_is p (does.Window call provider url) = refl
cookie_is p (does.Kept triple stays) = refl
cookie_is p (does.Flag origin stays) = refl
cookie_is p (does.Result call page finish) = refl
cookie_is p (does.Ignored why) = refl

filter_cons : (q : CookieChange → Bool) (c : CookieChange) (xs : List CookieChange) (b : Bool)
    → cond b (c ∷ xs) xs ≡ cons_option (cond b (Some c) None) xs
filter_cons q c xs true = refl
filter_cons q c xs false = refl

their_changes : (p : Providers) (es : List Effect) → filter (theirs p) (filter_map cookie_change es) ≡ filter_map (their_cookie p) es
their_changes p [] = refl
their_changes p (does.Cookie cookie ∷ es) =
    ap (λ l. cond (is_provider p (domain_of cookie)) (cookie ∷ l) l) (their_changes p es)
    ∙ filter_cons (theirs p) cookie (filter_map (their_cookie p) es) (is_provider p (domain_of cookie))
their_changes p (does.Time time ∷ es) = their_changes p es
their_changes p (does.Page page origin ∷ es) = their_changes p es
their_changes p (does.Closed page ∷ es) = their_changes p es
their_changes p (does.Login origin status ∷ es) = their_changes p es
their_changes p (does.Begin b ∷ es) = their_changes p es
their_changes p (does.Move kind call stage ∷ es) = their_changes p es
their_changes p (does.Sent kind call provider ask cookies ∷ es) = their_changes p es
their_changes p (does.Shown call dialog ∷ es) = their_changes p es
their_changes p (does.Dropped call provider failure ∷ es) = their_changes p es
their_changes p (does.Window call provider url ∷ es) = their_changes p es
their_changes p (does.Kept triple stays ∷ es) = their_changes p es
their_changes p (does.Flag origin stays ∷ es) = their_changes p es
their_changes p (does.Result call page finish ∷ es) = their_changes p es
their_changes p (does.Ignored why ∷ es) = their_changes p es

filter-append : (q : CookieChange → Bool) (xs ys : List CookieChange) → filter q (xs ++ ys) ≡ filter q xs ++ filter q ys
filter-append q [] ys = refl
filter-append q (x ∷ xs) ys = ap (λ l. cond (q x) (x ∷ l) l) (filter-append q xs ys) ∙ go (q x)
  where
    go : (b : Bool)
        → cond b (x ∷ (filter q xs ++ filter q ys)) (filter q xs ++ filter q ys)
        ≡ cond b (x ∷ filter q xs) (filter q xs) ++ filter q ys
    go true = refl
    go false = refl

all_their_changes : (p : Providers) (rows : List Row) → filter (theirs p) (all_said cookie_change rows) ≡ all_said (their_cookie p) rows
all_their_changes p [] = refl
all_their_changes p (row ∷ rows) =
    filter-append (theirs p) (all_said cookie_change rows) (filter_map cookie_change row.effects)
    ∙ ap (λ xs. xs ++ filter (theirs p) (filter_map cookie_change row.effects)) (all_their_changes p rows)
    ∙ ap (λ xs. all_said (their_cookie p) rows ++ xs) (their_changes p row.effects)

changes_same : (p : Providers) (T U : Trace) → view p T.rows ≡ view p U.rows
    → filter (theirs p) (cookie_changes T) ≡ filter (theirs p) (cookie_changes U)
changes_same p T U same =
    all_their_changes p T.rows ∙ all_said-seen (seen p) (their_cookie p) cookie_seen (cookie_is p) T.rows
    ∙ ap (filter_map cookie_seen) same
    ∙ sym (all_said-seen (seen p) (their_cookie p) cookie_seen (cookie_is p) U.rows) ∙ sym (all_their_changes p U.rows)

-- a filter of a filter, where what passes the one passes the other
filter_within : (f q : CookieChange → Bool) → ((c : CookieChange) → f c ≡ true → q c ≡ true) → (cs : List CookieChange)
    → filter f (filter q cs) ≡ filter f cs
filter_within f q h [] = refl
filter_within f q h (c ∷ cs) = pick (q c) refl (filter_within f q h cs)
  where
    fails : (b : Bool) → q c ≡ false → f c ≡ b → f c ≡ false
    fails false out e = e
    fails true out e = absurd (let r : true ≡ false = sym (h c e) ∙ out in cc)

    pick : (b : Bool) → q c ≡ b → filter f (filter q cs) ≡ filter f cs
        → filter f (cond b (c ∷ filter q cs) (filter q cs)) ≡ filter f (c ∷ cs)
    pick true e rest = ap (λ l. cond (f c) (c ∷ l) l) rest
    pick false e rest = rest ∙ sym (ap (λ b. cond b (c ∷ filter f cs) (filter f cs)) (fails (f c) e refl))

-- hosts of one party
pub same_party : (p : Providers) (a b : List ℕ) → party p.rules a ≡ party p.rules b → is_provider p a ≡ is_provider p b
unfolding is_provider
same_party p a b h = ap (λ name. list_any (bytes_eq name) p.parties) h

-- the cookies of a provider's party
pub part_same : (p : Providers) (T U : Trace) (host : List ℕ) → is_provider p host ≡ true → view p T.rows ≡ view p U.rows
    → part_of p.rules (party p.rules host) (cookies T) ≡ part_of p.rules (party p.rules host) (cookies U)
part_same p T U host provider same =
    let f = changes_party p.rules (party p.rules host) in
    let within : (c : CookieChange) → f c ≡ true → theirs p c ≡ true =
    λ c h. same_party p (domain_of c) host ((bytes_eq-Decides (party p.rules (domain_of c)) (party p.rules host)).0 h) ∙ provider in
    part_standing p.rules (party p.rules host) (cookie_changes T) (cookie_changes U)
    (sym (filter_within f (theirs p) within (cookie_changes T)) ∙ ap (filter f) (changes_same p T U same)
    ∙ filter_within f (theirs p) within (cookie_changes U))

pub text_same : (p : Providers) (T U : Trace) (url : Parts) (now : ℕ) → is_provider p (host_of url) ≡ true
    → view p T.rows ≡ view p U.rows
    → jar_text p.rules url now (cookies T) ≡ jar_text p.rules url now (cookies U)
text_same p T U url now provider same =
    text_is_of_party p.rules url now (cookies T) (cookies U) (part_same p T U (host_of url) provider same)

-- ---- login statuses

-- the origin is of the party of a provider
abbrev of_provider : Providers → Origin × LoginStatus → Bool
of_provider p login = is_provider p login.0.host

login_seen : Seen → Option (Change Origin LoginStatus)
login_seen (Login origin status) = Some (origin, Some status)
login_seen _ = None

abbrev their_login : Providers → Effect → Option (Change Origin LoginStatus)
their_login p (does.Login origin status) = cond (is_provider p origin.host) (Some (origin, Some status)) None
their_login p _ = None

login_is : (p : Providers) (e : Effect) → their_login p e ≡ option_and_then login_seen (seen p e)
unfolding login_seen
login_is p (does.Time time) = refl
login_is p (does.Page page origin) = refl
login_is p (does.Closed page) = refl
login_is p (does.Cookie cookie) = no_test login_seen (Cookie cookie) refl (is_provider p (domain_of cookie))
login_is p (does.Login origin status) = go (is_provider p origin.host)
  where
    go : (b : Bool) → cond b (Some (origin, Some status)) None ≡ option_and_then login_seen (cond b (Some (Login origin status)) None)
    go true = refl
    go false = refl
login_is p (does.Begin b) = no_get login_seen (kind_asked b.options) (Some (Begin b.call b.page)) refl
login_is p (does.Move kind call stage) = no_get login_seen kind (Some (Move call stage)) refl
login_is p (does.Sent kind call provider ask cookies) =
    no_get login_seen kind (seen_sent call provider ask cookies) (no_sent login_seen (λ c r a k. refl) call provider ask cookies)
login_is p (does.Shown call dialog) = refl
login_is p (does.Dropped call provider failure) = refl
login_is p (does.Window call provider url) = refl
login_is p (does.Kept triple stays) = refl
login_is p (does.Flag origin stays) = refl
login_is p (does.Result call page finish) = refl
login_is p (does.Ignored why) = refl

-- the statuses of the origins of providers, after one is set
set_among : (p : Providers) (o : Origin) (s : LoginStatus) (es : Logins)
    → filter (of_provider p) (insert_entry same_origin es o s)
    ≡ cond (is_provider p o.host) (insert_entry same_origin (filter (of_provider p) es) o s) (filter (of_provider p) es)
set_among p o s [] = go (is_provider p o.host)
  where
    go : (b : Bool) → cond {A = Logins} b ((o, s) ∷ []) [] ≡ cond {A = Logins} b ((o, s) ∷ []) []
    go b = refl
set_among p o s (e ∷ es) = pick (same_origin o e.0) refl (set_among p o s es)
  where
    rest : Logins
    rest = filter (of_provider p) es

    apart : (b c : Bool) → same_origin o e.0 ≡ false
        → cond b (e ∷ cond c (insert_entry same_origin rest o s) rest) (cond c (insert_entry same_origin rest o s) rest)
        ≡ cond c (insert_entry same_origin (cond b (e ∷ rest) rest) o s) (cond b (e ∷ rest) rest)
    apart true true ne = sym (ap (λ t. cond t ((e.0, s) ∷ rest) (e ∷ insert_entry same_origin rest o s)) ne)
    apart true false ne = refl
    apart false true ne = refl
    apart false false ne = refl

    there : (b : Bool) → same_origin o e.0 ≡ true
        → cond b ((e.0, s) ∷ rest) rest ≡ cond b (insert_entry same_origin (cond b (e ∷ rest) rest) o s) (cond b (e ∷ rest) rest)
    there true is = sym (ap (λ t. cond t ((e.0, s) ∷ rest) (e ∷ insert_entry same_origin rest o s)) is)
    there false is = refl

    pick : (t : Bool) → same_origin o e.0 ≡ t
        → filter (of_provider p) (insert_entry same_origin es o s)
        ≡ cond (is_provider p o.host) (insert_entry same_origin rest o s) rest
        → filter (of_provider p) (cond t ((e.0, s) ∷ es) (e ∷ insert_entry same_origin es o s))
        ≡ cond (is_provider p o.host) (insert_entry same_origin (filter (of_provider p) (e ∷ es)) o s)
        (filter (of_provider p) (e ∷ es))
    pick true is ih =
        let one : is_provider p e.0.host ≡ is_provider p o.host = ap (λ x. is_provider p x.host) (sym (same_origin_is o e.0 is)) in
        there (is_provider p e.0.host) is
        ∙ ap (λ b. cond b (insert_entry same_origin (filter (of_provider p) (e ∷ es)) o s) (filter (of_provider p) (e ∷ es))) one
    pick false is ih =
        ap (λ l. cond (is_provider p e.0.host) (e ∷ l) l) ih ∙ apart (is_provider p e.0.host) (is_provider p o.host) is

their_entries : (p : Providers) (effects : List Effect) (es : Logins)
    → filter (of_provider p) (entries_after same_origin login_change effects es)
    ≡ entries_after same_origin (their_login p) effects (filter (of_provider p) es)
their_entries p [] es = refl
their_entries p (does.Login origin status ∷ effects) es =
    their_entries p effects (insert_entry same_origin es origin status)
    ∙ ap (entries_after same_origin (their_login p) effects) (set_among p origin status es)
    ∙ go (is_provider p origin.host)
  where
    among : Logins
    among = filter (of_provider p) es

    go : (b : Bool) → entries_after same_origin (their_login p) effects (cond b (insert_entry same_origin among origin status) among)
        ≡ entries_after same_origin (their_login p) effects (changed same_origin (cond b (Some (origin, Some status)) None) among)
    go true = refl
    go false = refl
their_entries p (does.Time time ∷ effects) es = their_entries p effects es
their_entries p (does.Page page origin ∷ effects) es = their_entries p effects es
their_entries p (does.Closed page ∷ effects) es = their_entries p effects es
their_entries p (does.Cookie cookie ∷ effects) es = their_entries p effects es
their_entries p (does.Begin b ∷ effects) es = their_entries p effects es
their_entries p (does.Move kind call stage ∷ effects) es = their_entries p effects es
their_entries p (does.Sent kind call provider ask cookies ∷ effects) es = their_entries p effects es
their_entries p (does.Shown call dialog ∷ effects) es = their_entries p effects es
their_entries p (does.Dropped call provider failure ∷ effects) es = their_entries p effects es
their_entries p (does.Window call provider url ∷ effects) es = their_entries p effects es
their_entries p (does.Kept triple stays ∷ effects) es = their_entries p effects es
their_entries p (does.Flag origin stays ∷ effects) es = their_entries p effects es
their_entries p (does.Result call page finish ∷ effects) es = their_entries p effects es
their_entries p (does.Ignored why ∷ effects) es = their_entries p effects es

their_logins : (p : Providers) (rows : List Row)
    → filter (of_provider p) (standing same_origin login_change rows) ≡ standing same_origin (their_login p) rows
their_logins p [] = refl
their_logins p (row ∷ rows) =
    their_entries p row.effects (standing same_origin login_change rows)
    ∙ ap (entries_after same_origin (their_login p) row.effects) (their_logins p rows)

logins_same : (p : Providers) (T U : Trace) → view p T.rows ≡ view p U.rows
    → filter (of_provider p) (logins T) ≡ filter (of_provider p) (logins U)
logins_same p T U same =
    their_logins p T.rows ∙ standing-seen (seen p) same_origin (their_login p) login_seen (login_is p) T.rows
    ∙ ap (λ v. entries_after same_origin login_seen v []) same
    ∙ sym (standing-seen (seen p) same_origin (their_login p) login_seen (login_is p) U.rows) ∙ sym (their_logins p U.rows)

-- the status of the origin of a provider is among them
found_among : (p : Providers) (o : Origin) (es : Logins) → is_provider p o.host ≡ true
    → lookup (same_origin o) (filter (of_provider p) es) ≡ lookup (same_origin o) es
found_among p o [] known = refl
found_among p o (e ∷ es) known = pick (same_origin o e.0) refl (found_among p o es known)
  where
    rest : Logins
    rest = filter (of_provider p) es

    skip : (b : Bool) → same_origin o e.0 ≡ false → lookup (same_origin o) (cond b (e ∷ rest) rest) ≡ lookup (same_origin o) rest
    skip true ne = ap (λ t. cond t (Some e.1) (lookup (same_origin o) rest)) ne
    skip false ne = refl

    pick : (t : Bool) → same_origin o e.0 ≡ t → lookup (same_origin o) rest ≡ lookup (same_origin o) es
        → lookup (same_origin o) (filter (of_provider p) (e ∷ es)) ≡ cond t (Some e.1) (lookup (same_origin o) es)
    pick true is ih =
        let one : is_provider p e.0.host ≡ true = ap (λ x. is_provider p x.host) (sym (same_origin_is o e.0 is)) ∙ known in
        ap (λ b. lookup (same_origin o) (cond b (e ∷ rest) rest)) one ∙ ap (λ t. cond t (Some e.1) (lookup (same_origin o) rest)) is
    pick false is ih = skip (is_provider p e.0.host) is ∙ ih

pub status_same : (p : Providers) (T U : Trace) (o : Origin) → is_provider p o.host ≡ true → view p T.rows ≡ view p U.rows
    → status_of (logins T) o ≡ status_of (logins U) o
status_same p T U o known same =
    ap (λ s. unwrap_or s Unknown)
    (sym (found_among p o (logins T) known) ∙ ap (lookup (same_origin o)) (logins_same p T U same) ∙ found_among p o (logins U) known)

-- ---- all of them

pub looks_are_seen_lem : LooksAreSeen
looks_are_seen_lem p T U header same =
    record {
      now = now_same p T U header same;
      pages = λ page. page_same p T U page same;
      gets = gets_same p T U same;
      begun = begun_same p T U same;
      windows = gets_in_window_same p T U same;
      cookies = λ to now provider. text_same p T U to now provider same;
      parts = λ host provider. part_same p T U host provider same;
      statuses = λ origin provider. status_same p T U origin provider same;
      requests = sign_in_same p T U same;
    }
