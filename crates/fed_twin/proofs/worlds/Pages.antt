-- Events that name no call keep the worlds the same.
use Rattle.std.proofs.Common.{◌≡◌, ℕ, Bool, true, false, cond, List, [], ◌∷◌, ◌++◌, map, Option, Some, None, refl, sym}
use Rattle.std.proofs.Common.{ap}
use Rattle.std.proofs.Common.{ap₂, subst, ◌∙◌}
use Rattle.std.proofs.lemmas.List.Elements.{filter_map-append}
use Rattle.std.specs.Prelude.{◌==◌, filter, option_map, if◌then◌else◌}
use Rattle.std.specs.List.{AllByRecursion, filter_map, cons_option}
use Rattle.url.specs.Parts.{Parts}
use Rattle.fed_origin.specs.declared.origin.Origin.{Origin}
use Rattle.fed_origin.specs.declared.stage.Stage.TheVariants.{Ended}
use Rattle.fed_origin.specs.declared.status.LoginStatus.{LoginStatus}
use Rattle.fed_origin.specs.declared.status.Triple.{Triple}
use Rattle.fed_origin.specs.Origin.{is_trustworthy}
use Rattle.fed_origin.specs.WebUrl.{host_of, origin_of}
use Rattle.fed_suffix.specs.Registrable.{party}
use Rattle.fed_jar.specs.Changes.{CookieChange, domain_of}
use Rattle.fed_jar.specs.Cookie.{StoredCookie}
use Rattle.fed_jar.specs.Limit.{changes_from}
use Rattle.fed_jar.proofs.limit.Limit.{own_cookies_go, gone_by_own}
use Rattle.fed_call.specs.Facts.{Facts}
use Rattle.fed_script.specs.declared.event.Event.{Event}
use Rattle.fed_script.specs.declared.event.Event.TheVariants as events
use Rattle.fed_script.specs.declared.event.Have.{Have}
use Rattle.fed_script.specs.declared.event.Have.TheVariants as haves
use Rattle.fed_trace.specs.Begun.{CallKind, GetCall, DisconnectCall, of_get}
use Rattle.fed_trace.specs.Call.{OfGet}
use Rattle.fed_trace.specs.Effect.{Effect, PendingCall, Page, Closed, Cookie, Login, Flag, call_change}
use Rattle.fed_trace.specs.Known.{known_at, facts_at}
use Rattle.fed_trace.specs.Row.{IsRun, effects_of, with_event, ends_of, close_effects, cookies_from, stored_in, cookie_effects}
use Rattle.fed_trace.specs.Row.{login_effects, load_changes, have_changes, set_cookies, set_logins, page_says, standing_says}
use Rattle.fed_trace.specs.Trace.{Trace, page_at, pending, pending_of, by_kind, calls_of, now_at}
use Rattle.fed_trace.proofs.calls.Gets.{gets_among, has_get, get_is_among, among_is_get}
use Rattle.fed_trace.proofs.calls.Pending.{is_among}
use Rattle.fed_trace.proofs.effects.Silent.{said_silent}
use Rattle.fed_trace.specs.Trace as trace
use Rattle.fed_trace.proofs.events.Aside.{says_silent}
use Rattle.fed_trace.proofs.events.Own.{own_fields}
use Rattle.fed_trace.proofs.happens.Taken.{is_get}
use Rattle.fed_trace.proofs.keyed.Keyed.{distinct_standing}
use Rattle.fed_trace.proofs.runs.Gets.{known_kind, gets_are}
use Rattle.fed_twin.specs.Providers.{Providers, is_provider}
use Rattle.fed_twin.specs.Seen.{told_origin, seen, told, view}
use Rattle.fed_twin.specs.Seen as views
use Rattle.fed_twin.specs.Same.{SameCall, SameWorlds}
use Rattle.fed_twin.specs.Twin.{AreFar}
use Rattle.fed_twin.proofs.calls.Facts.{EndsThere, facts_left, facts_load, facts_close, facts_ignored}
use Rattle.fed_twin.proofs.worlds.Grow.{grow, grow_alone}
use Rattle.fed_twin.proofs.seen.Look.{now_same, page_same, part_same, gets_same, same_party}

-- a call that both leave is the same
pub call_left : (p : Providers) (T U : Trace) → SameWorlds p T U → (q : ℕ) (f f' : Option Facts) → f ≡ facts_at T q
    → f' ≡ facts_at U q → SameCall p f f'
call_left p T U h q f f' e e' = subst (λ x. SameCall p x f') (sym e) (subst (SameCall p (facts_at T q)) (sym e') (h.calls q))

-- a call that ends in both is the same
pub call_over : (p : Providers) (f f' : Option Facts) → f ≡ None → f' ≡ None → SameCall p f f'
call_over p f f' e e' = subst (λ x. SameCall p x f') (sym e) (subst (SameCall p None) (sym e') tt)

-- the worlds are traces of runs
pub record AreRuns (T U : Trace) : Type 0 where
  pub first : IsRun T.header T.rows
  pub second : IsRun U.header U.rows

-- ---- calls that end with their page

-- a get that is pending on the page in one world is so in the other
among_both : (p : Providers) (T U : Trace) → IsRun T.header T.rows → IsRun U.header U.rows → view p T.rows ≡ view p U.rows
    → (page q : ℕ) (f : Facts) → facts_at T q ≡ Some f
    → is_among q (pending_of T page) ≡ true → is_among q (pending_of U page) ≡ true
among_both p T U run run' same page q f found among =
    get_is_among q page (pending U)
    (ap (has_get q page) (gets_are U.header U.rows run' ∙ sym (gets_same p T U same) ∙ sym (gets_are T.header T.rows run))
    ∙ among_is_get q page (pending T) (distinct_standing call_change T.rows) (known_kind T q (OfGet f) (is_get (known_at T q) f found))
    among)

-- calls that end with their page in both worlds
ended_same : (p : Providers) (T U : Trace) → SameWorlds p T U → AreRuns T U → (line line' page : ℕ) (event event' : Event) (q : ℕ)
    → EndsThere T line event page q → EndsThere U line' event' page q
    → SameCall p (facts_at (with_event T line event) q) (facts_at (with_event U line' event') q)
ended_same p T U h runs line line' page event event' q ends ends' =
    go (is_among q (pending_of T page)) (is_among q (pending_of U page)) refl refl (facts_at T q) (facts_at U q) refl refl (h.calls q)
  where
    none_or : {f g : Option Facts} → f ≡ None → g ≡ None → SameCall p f g
    none_or is is' = call_over p _ _ is is'

    go : (b b' : Bool) → is_among q (pending_of T page) ≡ b → is_among q (pending_of U page) ≡ b' → (f f' : Option Facts)
        → facts_at T q ≡ f
        → facts_at U q ≡ f' → SameCall p f f'
        → SameCall p (facts_at (with_event T line event) q) (facts_at (with_event U line' event') q)
    go true true is is' f f' found found' same = none_or (ends.there is) (ends'.there is')
    go false false is is' f f' found found' same = call_left p T U h q _ _ (ends.elsewhere is) (ends'.elsewhere is')
    go true false is is' None None found found' same = none_or (ends.there is) (ends'.elsewhere is' ∙ found')
    go true false is is' None (Some f') found found' same = absurd same
    go true false is is' (Some f) None found found' same = absurd same
    go true false is is' (Some f) (Some f') found found' same =
        let no : false ≡ true = sym is' ∙ among_both p T U runs.first runs.second h.seen page q f found is in absurd (cc)
    go false true is is' None None found found' same = none_or (ends.elsewhere is ∙ found) (ends'.there is')
    go false true is is' None (Some f') found found' same = absurd same
    go false true is is' (Some f) None found found' same = absurd same
    go false true is is' (Some f) (Some f') found found' same =
        let no : false ≡ true = sym is ∙ among_both p U T runs.second runs.first (sym h.seen) page q f' found' is' in absurd (cc)

-- of the calls of a page that end, only its gets are seen
seen_ends : (p : Providers) (page : ℕ) (es : List (ℕ × PendingCall))
    → filter_map (seen p) (ends_of (calls_of page es))
    ≡ map (λ get. views.Move get.0 Ended) (filter (λ get. get.1 == page) (gets_among es))
seen_ends p page [] = refl
seen_ends p page (e ∷ es) = go (seen_ends p page es) (e.1.page == page) refl e.1.kind
  where
    go : filter_map (seen p) (ends_of (calls_of page es))
        ≡ map (λ get. views.Move get.0 Ended) (filter (λ get. get.1 == page) (gets_among es))
        → (here : Bool) → (e.1.page == page) ≡ here → (kind : CallKind)
        → filter_map (seen p) (ends_of (map by_kind (cond here
        ((e.0, record e.1 { kind = kind }) ∷ filter (λ call. call.1.page == page) es)
        (filter (λ call. call.1.page == page) es))))
        ≡ map (λ get. views.Move get.0 Ended) (filter (λ get. get.1 == page)
        (cons_option (of_get kind (Some (e.0, e.1.page))) (gets_among es)))
    go rest true at GetCall =
        ap (λ xs. views.Move e.0 Ended ∷ xs) rest
        ∙ sym (ap (λ b. map (λ get. views.Move get.0 Ended) (cond b ((e.0, e.1.page) ∷ filter (λ get. get.1 == page) (gets_among es))
        (filter (λ get. get.1 == page) (gets_among es)))) at)
    go rest true at DisconnectCall = rest
    go rest false at GetCall =
        rest ∙ sym (ap (λ b. map (λ get. views.Move get.0 Ended) (cond b ((e.0, e.1.page) ∷ filter (λ get. get.1 == page) (gets_among es))
        (filter (λ get. get.1 == page) (gets_among es)))) at)
    go rest false at DisconnectCall = rest

same_ends : (p : Providers) (T U : Trace) → SameWorlds p T U → AreRuns T U → (page : ℕ)
    → filter_map (seen p) (ends_of (pending_of T page)) ≡ filter_map (seen p) (ends_of (pending_of U page))
same_ends p T U h runs page =
    seen_ends p page (pending T)
    ∙ ap (λ gs. map (λ get. views.Move get.0 Ended) (filter (λ get. get.1 == page) gs))
    (gets_are T.header T.rows runs.first ∙ gets_same p T U h.seen ∙ sym (gets_are U.header U.rows runs.second))
    ∙ sym (seen_ends p page (pending U))

-- ---- events of no page

-- ---- cookies

-- a change of a cookie of no provider's party is not seen
far_changes : (p : Providers) (name : List ℕ) (changes : List CookieChange)
    → AllByRecursion (λ change. is_provider p (domain_of change) ≡ false) changes → filter_map (seen p) (cookie_effects changes) ≡ []
far_changes p name [] far = refl
far_changes p name (change ∷ changes) far =
    ap (λ b. cons_option (if b then Some (views.Cookie change) else None) (filter_map (seen p) (cookie_effects changes))) far.0
    ∙ far_changes p name changes far.1

all_far : (p : Providers) (host : List ℕ) (changes : List CookieChange) → is_provider p host ≡ false
    → AllByRecursion (λ change. party p.rules (domain_of change) ≡ party p.rules host) changes
    → AllByRecursion (λ change. is_provider p (domain_of change) ≡ false) changes
all_far p host [] far own = tt
all_far p host (change ∷ changes) far own =
    (same_party p (domain_of change) host own.0 ∙ far, all_far p host changes far own.1)

-- what a page of no provider's party stores is not seen
far_cookies : (p : Providers) (url : Parts) (now : ℕ) (cookies : List StoredCookie) (fields : List (List ℕ))
    → is_provider p (host_of url) ≡ false
    → filter_map (seen p) (cookie_effects (changes_from p.rules now cookies (cookies_from p.rules url now fields))) ≡ []
far_cookies p url now cookies fields far =
    far_changes p (party p.rules (host_of url)) (changes_from p.rules now cookies (cookies_from p.rules url now fields))
    (all_far p (host_of url) (changes_from p.rules now cookies (cookies_from p.rules url now fields)) far
    (own_cookies_go p.rules now (party p.rules (host_of url)) cookies (cookies_from p.rules url now fields)
    (own_fields p.rules url now fields)))

-- the same Set-Cookie values from one URL do the same that is seen
same_cookies : (p : Providers) (T U : Trace) → SameWorlds p T U → (url : Parts) (fields : List (List ℕ))
    → filter_map (seen p) (cookie_effects (stored_in T (cookies_from T.header.rules url (now_at T) fields)))
    ≡ filter_map (seen p) (cookie_effects (stored_in U (cookies_from U.header.rules url (now_at U) fields)))
same_cookies p T U h url fields =
    ap (λ r. filter_map (seen p) (cookie_effects (changes_from r (now_at T) (trace.cookies T) (cookies_from r url (now_at T) fields))))
    h.rules
    ∙ ap (λ n. filter_map (seen p) (cookie_effects (changes_from p.rules n (trace.cookies T) (cookies_from p.rules url n fields))))
    (now_same p T U h.now h.seen)
    ∙ go (is_provider p (host_of url)) refl
    ∙ ap (λ r. filter_map (seen p) (cookie_effects (changes_from r (now_at U) (trace.cookies U) (cookies_from r url (now_at U) fields))))
    (sym h.rules')
  where
    go : (theirs : Bool) → is_provider p (host_of url) ≡ theirs
        → filter_map (seen p) (cookie_effects (changes_from p.rules (now_at U) (trace.cookies T)
        (cookies_from p.rules url (now_at U) fields)))
        ≡ filter_map (seen p) (cookie_effects (changes_from p.rules (now_at U) (trace.cookies U)
        (cookies_from p.rules url (now_at U) fields)))
    go true is =
        ap (λ cs. filter_map (seen p) (cookie_effects cs))
        (gone_by_own p.rules (now_at U) (party p.rules (host_of url)) (trace.cookies T) (trace.cookies U)
        (cookies_from p.rules url (now_at U) fields) (own_fields p.rules url (now_at U) fields)
        (part_same p T U (host_of url) is h.seen))
    go false is =
        far_cookies p url (now_at U) (trace.cookies T) fields is ∙ sym (far_cookies p url (now_at U) (trace.cookies U) fields is)

pub step_have : (p : Providers) (T U : Trace) → SameWorlds p T U → (line line' : ℕ) (have : Have)
    → SameWorlds p (with_event T line (events.Have have)) (with_event U line' (events.Have have))
step_have p T U h line line' have =
    grow p T U h line line' (events.Have have) (events.Have have) (go have)
    (λ q. call_left p T U h q _ _ (facts_left T line (events.Have have) q refl (λ page. refl) refl) (facts_left U line'
    (events.Have have) q refl (λ page. refl) refl))
  where
    go : (have : Have) → filter_map (seen p) (effects_of T (events.Have have)) ≡ filter_map (seen p) (effects_of U (events.Have have))
    go (haves.Cookie url field) =
        filter_map-append (seen p) (cookie_effects (have_changes T (haves.Cookie url field))) []
        ∙ ap (λ xs. xs ++ []) (same_cookies p T U h url (field ∷ []))
        ∙ sym (filter_map-append (seen p) (cookie_effects (have_changes U (haves.Cookie url field))) [])
    go (haves.Login origin status) = refl
    go (haves.Kept triple) = refl
    go (haves.Silent origin) = refl

-- a flag of each, of which providers can tell nothing
pub step_silent : (p : Providers) (T U : Trace) → SameWorlds p T U → (line line' : ℕ) (origin origin' : Origin)
    → SameWorlds p (with_event T line (events.Have (haves.Silent origin))) (with_event U line' (events.Have (haves.Silent origin')))
step_silent p T U h line line' origin origin' =
    grow p T U h line line' (events.Have (haves.Silent origin)) (events.Have (haves.Silent origin')) refl
    (λ q. call_left p T U h q _ _ (facts_left T line (events.Have (haves.Silent origin)) q refl (λ page. refl) refl)
    (facts_left U line' (events.Have (haves.Silent origin')) q refl (λ page. refl) refl))

-- a permission in one world alone, of which they can tell nothing
pub step_kept : (p : Providers) (T U : Trace) → SameWorlds p T U → (line : ℕ) (triple : Triple)
    → SameWorlds p (with_event T line (events.Have (haves.Kept triple))) U
step_kept p T U h line triple =
    grow_alone p T U h line (events.Have (haves.Kept triple)) refl
    (λ q. subst (λ x. SameCall p x (facts_at U q))
    (sym (facts_left T line (events.Have (haves.Kept triple)) q refl (λ page. refl) refl)) (h.calls q))

pub step_at : (p : Providers) (T U : Trace) → SameWorlds p T U → (line line' time : ℕ)
    → SameWorlds p (with_event T line (events.At time)) (with_event U line' (events.At time))
step_at p T U h line line' time =
    grow p T U h line line' (events.At time) (events.At time) refl
    (λ q. call_left p T U h q _ _ (facts_left T line (events.At time) q refl (λ page. refl) refl) (facts_left U line'
    (events.At time) q refl (λ page. refl) refl))

-- ---- a page says something of its origin

-- a status that it sets
status_seen : (p : Providers) (o u : Option Origin) → option_map (told p) o ≡ option_map (told p) u → (status : LoginStatus)
    → filter_map (seen p) (page_says o (λ origin. Login origin status))
    ≡ filter_map (seen p) (page_says u (λ origin. Login origin status))
status_seen p None None e status = refl
status_seen p None (Some u) e status = absurd (cc)
status_seen p (Some o) None e status = absurd (cc)
status_seen p (Some o) (Some u) e status = go (is_trustworthy o) (is_trustworthy u) (ap (λ t. t.trusted) same)
  where
    same : told p o ≡ told p u
    same = cc

    named : told_origin p o ≡ told_origin p u
    named = ap (λ t. t.origin) same

    shown : (a b : Bool) → (if a then Some o else None) ≡ (if b then Some u else None)
        → cons_option (if a then Some (views.Login o status) else None) []
        ≡ cons_option (if b then Some (views.Login u status) else None) []
    shown true true k = let one : o ≡ u = cc in ap (λ x. views.Login x status ∷ []) one
    shown true false k = absurd (cc)
    shown false true k = absurd (cc)
    shown false false k = refl

    go : (a b : Bool) → a ≡ b
        → filter_map (seen p) (standing_says a (Login o status)) ≡ filter_map (seen p) (standing_says b (Login u status))
    go true true k = shown (is_provider p o.host) (is_provider p u.host) named
    go true false k = absurd (cc)
    go false true k = absurd (cc)
    go false false k = refl

pub step_status : (p : Providers) (T U : Trace) → SameWorlds p T U → (line line' page : ℕ) (status : LoginStatus)
    → SameWorlds p (with_event T line (events.SetStatus page status)) (with_event U line' (events.SetStatus page status))
step_status p T U h line line' page status =
    grow p T U h line line' (events.SetStatus page status) (events.SetStatus page status)
    (status_seen p (page_at T page) (page_at U page) (page_same p T U page h.seen) status)
    (λ q. call_left p T U h q _ _ (facts_left T line (events.SetStatus page status) q refl (λ page. refl) refl)
    (facts_left U line' (events.SetStatus page status) q refl (λ page. refl) refl))

-- a flag that it sets, of which providers can tell nothing
prevent_seen : (p : Providers) (o : Option Origin) → filter_map (seen p) (page_says o (λ origin. Flag origin true)) ≡ []
prevent_seen p o =
    said_silent (seen p) (page_says o (λ origin. Flag origin true))
    (says_silent (seen p) (λ origin. Flag origin true) (λ origin. refl) (λ why. refl) o)

pub step_prevent : (p : Providers) (T U : Trace) → SameWorlds p T U → (line line' page : ℕ)
    → SameWorlds p (with_event T line (events.Prevent page)) (with_event U line' (events.Prevent page))
step_prevent p T U h line line' page =
    grow p T U h line line' (events.Prevent page) (events.Prevent page)
    (prevent_seen p (page_at T page) ∙ sym (prevent_seen p (page_at U page)))
    (λ q. call_left p T U h q _ _ (facts_left T line (events.Prevent page) q refl (λ page. refl) refl)
    (facts_left U line' (events.Prevent page) q refl (λ page. refl) refl))

-- ---- pages that close

pub step_close : (p : Providers) (T U : Trace) → SameWorlds p T U → AreRuns T U → (line line' page : ℕ)
    → SameWorlds p (with_event T line (events.ClosePage page)) (with_event U line' (events.ClosePage page))
step_close p T U h runs line line' page = go (page_at T page) (page_at U page) refl refl (page_same p T U page h.seen)
  where
    go : (o u : Option Origin) → page_at T page ≡ o → page_at U page ≡ u
        → option_map (told p) (page_at T page) ≡ option_map (told p) (page_at U page)
        → SameWorlds p (with_event T line (events.ClosePage page)) (with_event U line' (events.ClosePage page))
    go None None is is' e =
        let none = ap (close_effects (pending_of T page) page) is in
        let none' = ap (close_effects (pending_of U page) page) is' in
        grow p T U h line line' (events.ClosePage page) (events.ClosePage page)
        (ap (filter_map (seen p)) none ∙ sym (ap (filter_map (seen p)) none'))
        (λ q. call_left p T U h q _ _ (facts_ignored T line (events.ClosePage page) q _ none (λ k. refl)) (facts_ignored U line'
        (events.ClosePage page) q _ none' (λ k. refl)))
    go (Some o) (Some u) is is' e =
        grow p T U h line line' (events.ClosePage page) (events.ClosePage page)
        (ap (λ x. filter_map (seen p) (close_effects (pending_of T page) page x)) is
        ∙ filter_map-append (seen p) (ends_of (pending_of T page)) (Closed page ∷ [])
        ∙ ap (λ xs. xs ++ views.Closed page ∷ []) (same_ends p T U h runs page)
        ∙ sym (filter_map-append (seen p) (ends_of (pending_of U page)) (Closed page ∷ []))
        ∙ sym (ap (λ x. filter_map (seen p) (close_effects (pending_of U page) page x)) is'))
        (λ q. ended_same p T U h runs line line' page (events.ClosePage page) (events.ClosePage page) q (facts_close T line page q o is)
        (facts_close U line' page q u is'))
    go None (Some u) is is' e =
        absurd (let no : None ≡ Some (told p u) = sym (ap (option_map (told p)) is) ∙ e ∙ ap (option_map (told p)) is' in cc)
    go (Some o) None is is' e =
        absurd (let no : Some (told p o) ≡ None = sym (ap (option_map (told p)) is) ∙ e ∙ ap (option_map (told p)) is' in cc)

-- ---- loads

load_calls : (p : Providers) (T U : Trace) → SameWorlds p T U → AreRuns T U
    → (line line' page : ℕ) (url url' : Parts) (raw raw' : Option (List ℕ)) (q : ℕ)
    → SameCall p (facts_at (with_event T line (events.Load page url raw)) q)
    (facts_at (with_event U line' (events.Load page url' raw')) q)
load_calls p T U h runs line line' page url url' raw raw' q =
    ended_same p T U h runs line line' page (events.Load page url raw) (events.Load page url' raw') q (facts_load T line page url raw q)
    (facts_load U line' page url' raw' q)

-- what is seen of a load: the ends of gets, and what comes after
load_seen : (p : Providers) (T U : Trace) → SameWorlds p T U → AreRuns T U → (page : ℕ) (rest rest' : List Effect)
    → filter_map (seen p) rest ≡ filter_map (seen p) rest'
    → filter_map (seen p) (ends_of (pending_of T page) ++ rest) ≡ filter_map (seen p) (ends_of (pending_of U page) ++ rest')
load_seen p T U h runs page rest rest' same =
    filter_map-append (seen p) (ends_of (pending_of T page)) rest
    ∙ ap₂ (λ xs ys. xs ++ ys) (same_ends p T U h runs page) same
    ∙ sym (filter_map-append (seen p) (ends_of (pending_of U page)) rest')

pub step_load : (p : Providers) (T U : Trace) → SameWorlds p T U → AreRuns T U
    → (line line' page : ℕ) (url : Parts) (raw : Option (List ℕ))
    → SameWorlds p (with_event T line (events.Load page url raw)) (with_event U line' (events.Load page url raw))
step_load p T U h runs line line' page url raw =
    grow p T U h line line' (events.Load page url raw) (events.Load page url raw)
    (load_seen p T U h runs page (after (load_changes T url raw)) (after (load_changes U url raw))
    (ap (λ xs. views.Page page (is_trustworthy (origin_of url)) (told_origin p (origin_of url)) ∷ xs)
    (filter_map-append (seen p) (cookie_effects (load_changes T url raw)) logins
    ∙ ap (λ xs. xs ++ filter_map (seen p) logins) (same_cookies p T U h url (set_cookies raw))
    ∙ sym (filter_map-append (seen p) (cookie_effects (load_changes U url raw)) logins))))
    (load_calls p T U h runs line line' page url url raw raw)
  where
    logins : List Effect
    logins = login_effects (origin_of url) (set_logins raw)

    after : List CookieChange → List Effect
    after changes = Page page (origin_of url) ∷ (cookie_effects changes ++ login_effects (origin_of url) (set_logins raw))

-- a load of no provider's party: only the page is seen, and that it is trustworthy

far_logins : (p : Providers) (origin : Origin) (statuses : List LoginStatus) → is_provider p origin.host ≡ false
    → filter_map (seen p) (login_effects origin statuses) ≡ []
far_logins p origin [] far = refl
far_logins p origin (status ∷ statuses) far =
    ap (λ b. cons_option (if b then Some (views.Login origin status) else None)
    (filter_map (seen p) (login_effects origin statuses))) far ∙ far_logins p origin statuses far

far_load : (p : Providers) (page : ℕ) (url : Parts) (now : ℕ) (cookies : List StoredCookie) (fields : List (List ℕ))
    (statuses : List LoginStatus) → is_provider p (host_of url) ≡ false
    → filter_map (seen p) (Page page (origin_of url)
    ∷ (cookie_effects (changes_from p.rules now cookies (cookies_from p.rules url now fields)) ++ login_effects (origin_of url) statuses))
    ≡ views.Page page (is_trustworthy (origin_of url)) None ∷ []
far_load p page url now cookies fields statuses far =
    let changes = changes_from p.rules now cookies (cookies_from p.rules url now fields) in
    let rest : filter_map (seen p) (cookie_effects changes ++ login_effects (origin_of url) statuses) ≡ [] =
    filter_map-append (seen p) (cookie_effects changes) (login_effects (origin_of url) statuses)
    ∙ ap (λ xs. xs ++ filter_map (seen p) (login_effects (origin_of url) statuses)) (far_cookies p url now cookies fields far)
    ∙ far_logins p (origin_of url) statuses far in
    ap (λ xs. views.Page page (is_trustworthy (origin_of url)) (told_origin p (origin_of url)) ∷ xs) rest
    ∙ ap (λ b. views.Page page (is_trustworthy (origin_of url)) (if b then Some (origin_of url) else None) ∷ []) far

pub step_far_load : (p : Providers) (T U : Trace) → SameWorlds p T U → AreRuns T U
    → (line line' page : ℕ) (url url' : Parts) (raw raw' : Option (List ℕ)) → AreFar p url url'
    → SameWorlds p (with_event T line (events.Load page url raw)) (with_event U line' (events.Load page url' raw'))
step_far_load p T U h runs line line' page url url' raw raw' far =
    grow p T U h line line' (events.Load page url raw) (events.Load page url' raw')
    (load_seen p T U h runs page (after url (load_changes T url raw) (set_logins raw))
    (after url' (load_changes U url' raw') (set_logins raw'))
    (ap (λ r. filter_map (seen p) (after url (changes_from r (now_at T) (trace.cookies T)
    (cookies_from r url (now_at T) (set_cookies raw))) (set_logins raw))) h.rules
    ∙ far_load p page url (now_at T) (trace.cookies T) (set_cookies raw) (set_logins raw) far.far
    ∙ ap (λ b. views.Page page b None ∷ []) far.trust
    ∙ sym (far_load p page url' (now_at U) (trace.cookies U) (set_cookies raw') (set_logins raw') far.far')
    ∙ ap (λ r. filter_map (seen p) (after url' (changes_from r (now_at U) (trace.cookies U)
    (cookies_from r url' (now_at U) (set_cookies raw'))) (set_logins raw'))) (sym h.rules')))
    (load_calls p T U h runs line line' page url url' raw raw')
  where
    after : Parts → List CookieChange → List LoginStatus → List Effect
    after url changes statuses = Page page (origin_of url) ∷ (cookie_effects changes ++ login_effects (origin_of url) statuses)
