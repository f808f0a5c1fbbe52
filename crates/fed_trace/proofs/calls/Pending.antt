-- The pending calls, and those of a page.
use Rattle.std.proofs.Common.{◌≡◌, ℕ, Bool, true, false, not, nat_eq, ◌==◌, ◌⊎◌, inl, inr, List, [], ◌∷◌, ◌++◌}
use Rattle.std.proofs.Common.{Some, None, map, refl, ap}
use Rattle.std.proofs.Common.{◌∙◌, arith, cond, append-nil, ◌||◌, sym, subst}
use Rattle.std.proofs.lemmas.Bool.Decides.{nat_tests}
use Rattle.std.proofs.lemmas.List.Elements.{filter_map-append}
use Rattle.std.specs.Prelude.{filter, Option}
use Rattle.std.specs.List.{list_any, filter_map, flat_map}
use Rattle.std.specs.Map.{lookup}
use Rattle.indexmap.specs.IndexMap.{insert_entry, shift_remove_entry}
use Rattle.url.specs.Parts.{Parts}
use Rattle.fed_origin.specs.declared.origin.Origin.{Origin}
use Rattle.fed_origin.specs.declared.stage.Stage.{Stage}
use Rattle.fed_origin.specs.declared.stage.Stage.TheVariants.{Ended}
use Rattle.fed_origin.specs.declared.status.LoginStatus.{LoginStatus}
use Rattle.fed_origin.specs.Origin.{is_trustworthy, same_origin}
use Rattle.fed_origin.specs.WebUrl.{origin_of}
use Rattle.fed_jar.specs.Changes.{CookieChange}
use Rattle.fed_status.specs.Login.{Logins}
use Rattle.fed_status.specs.Shared.{World}
use Rattle.fed_consent.specs.declared.table.failure.Failure.{Failure}
use Rattle.fed_consent.specs.declared.table.ask.Ask.{Ask}
use Rattle.fed_consent.specs.declared.table.dialog.Dialog.{Dialog}
use Rattle.fed_consent.specs.declared.table.finish.Finish.{Finish}
use Rattle.fed_consent.specs.declared.table.input.Input.{Input}
use Rattle.fed_consent.specs.declared.table.why.Why.{Why}
use Rattle.fed_consent.specs.Outcomes.{Outcome}
use Rattle.fed_trace.specs.Begun.{Begun, CallKind, CallOptions, kind_asked}
use Rattle.fed_trace.specs.Call.{Known, kind_of, page_of, first_row, input_row}
use Rattle.fed_trace.specs.Effect.{Effect, PendingCall, Page, Cookie, Login, Move, Sent, Dropped, Shown, Result, Ignored}
use Rattle.fed_trace.specs.Effect.{page_change, login_change, call_change, begun_by, cookie_change, Kept, Window, Flag}
use Rattle.fed_trace.specs.Keyed.{entries_after}
use Rattle.fed_trace.specs.Row.{ends_of, cookie_effects, login_effects, load_effects, standing_call, begin_effects, outcome_effects}
use Rattle.fed_trace.specs.Row.{call_effects, moves, input_effects}
use Rattle.fed_trace.specs.Trace.{by_kind, calls_of}
use Rattle.fed_trace.proofs.keyed.Keyed.{IsAbsent, AreDistinct, entries_after-append}
use Rattle.fed_trace.proofs.effects.Silent.{AllSilent, entries_silent, said_silent, silent_map, silent_append, silent_call}
use Rattle.fed_origin.specs.declared.status.Triple.{Triple}

-- ---- a call among calls

-- the call is that of this number
abbrev pub is_call : ℕ → ℕ × CallKind → Bool
is_call call c = nat_eq call c.0

abbrev pub is_other : ℕ → ℕ × CallKind → Bool
is_other call c = not (nat_eq call c.0)

-- it is among calls
abbrev pub is_among : ℕ → List (ℕ × CallKind) → Bool
is_among call calls = list_any (is_call call) calls

-- ---- the calls of a page end

-- the calls of the other pages
abbrev pub others : ℕ → List (ℕ × PendingCall) → List (ℕ × PendingCall)
others page calls = filter (λ call. not (call.1.page == page)) calls

-- ends of calls that are not the first leave it in front
skips : (e : ℕ × PendingCall) (calls es : List (ℕ × PendingCall)) → IsAbsent e.0 calls
    → entries_after nat_eq call_change (ends_of (map by_kind calls)) (e ∷ es)
    ≡ e ∷ entries_after nat_eq call_change (ends_of (map by_kind calls)) es
skips e [] es h = refl
skips e (c ∷ calls) es h =
    let ne : nat_eq c.0 e.0 ≡ false = grind (arith, nat_tests, h) in
    let rest : IsAbsent e.0 calls = grind (arith, nat_tests, h) in
    ap (λ b. entries_after nat_eq call_change (ends_of (map by_kind calls)) (cond b es (e ∷ shift_remove_entry (nat_eq c.0) es))) ne
    ∙ skips e calls (shift_remove_entry (nat_eq c.0) es) rest

absent_filter : (k : ℕ) (p : ℕ × PendingCall → Bool) (es : List (ℕ × PendingCall)) → IsAbsent k es → IsAbsent k (filter p es)
absent_filter k p [] h = refl
absent_filter k p (e ∷ es) h =
    let here : nat_eq k e.0 ≡ false = grind (arith, nat_tests, h) in
    let tail : IsAbsent k es = grind (arith, nat_tests, h) in
    go here (absent_filter k p es tail) (p e)
  where
    go : nat_eq k e.0 ≡ false → IsAbsent k (filter p es) → (b : Bool) → IsAbsent k (cond b (e ∷ filter p es) (filter p es))
    go here rest true = ap (λ t. cond t (Some e.1) (lookup (nat_eq k) (filter p es))) here ∙ rest
    go here rest false = rest

-- where the pending calls of a page end, those of the others are left
pub ended : (page : ℕ) (es : List (ℕ × PendingCall)) → AreDistinct es
    → entries_after nat_eq call_change (ends_of (calls_of page es)) es ≡ others page es
ended page [] h = refl
ended page (e ∷ es) h = go (ended page es h.1) (e.1.page == page)
  where
    go : entries_after nat_eq call_change (ends_of (calls_of page es)) es ≡ others page es → (b : Bool)
        → entries_after nat_eq call_change (ends_of (map by_kind
        (cond b (e ∷ filter (λ call. call.1.page == page) es) (filter (λ call. call.1.page == page) es)))) (e ∷ es)
        ≡ cond (not b) (e ∷ others page es) (others page es)
    go rest true =
        let same : nat_eq e.0 e.0 ≡ true = grind (arith, nat_tests) in
        ap (λ t. entries_after nat_eq call_change (ends_of (calls_of page es)) (cond t es (e ∷ shift_remove_entry (nat_eq e.0) es))) same
        ∙ rest
    go rest false =
        skips e (filter (λ call. call.1.page == page) es) es (absent_filter e.0 (λ call. call.1.page == page) es h.0)
        ∙ ap (λ xs. e ∷ xs) rest

pub calls_of-others_same : (page : ℕ) (es : List (ℕ × PendingCall)) → calls_of page (others page es) ≡ []
calls_of-others_same page [] = refl
calls_of-others_same page (e ∷ es) =
    let rest = calls_of-others_same page es in
    grind (arith, nat_tests, rest)

pub calls_of-others_other : (q page : ℕ) (es : List (ℕ × PendingCall)) → nat_eq page q ≡ false
    → calls_of q (others page es) ≡ calls_of q es
calls_of-others_other q page [] ne = refl
calls_of-others_other q page (e ∷ es) ne =
    let rest = calls_of-others_other q page es ne in
    grind (arith, nat_tests, rest, ne)

-- ---- ends of calls

ends_pages : (calls : List (ℕ × CallKind)) → AllSilent page_change (ends_of calls)
ends_pages calls = silent_map page_change (λ call. Move call.1 call.0 Ended) (λ call. refl) calls

-- what is silent on a move is silent on ends
pub ends_silent : {A : Type 0} (said : Effect → Option A) → ((kind : CallKind) (call : ℕ) → said (Move kind call Ended) ≡ None)
    → (calls : List (ℕ × CallKind)) → AllSilent said (ends_of calls)
ends_silent said h calls = silent_map said (λ call. Move call.1 call.0 Ended) (λ call. h call.1 call.0) calls

-- ---- loads

-- what follows the page's place in a load says nothing of what is no cookie and no status
pub load_rest_silent : {A : Type 0} (said : Effect → Option A) → ((cookie : CookieChange) → said (Cookie cookie) ≡ None)
    → ((origin : Origin) (status : LoginStatus) → said (Login origin status) ≡ None)
    → (cookies : List CookieChange) (origin : Origin) (statuses : List LoginStatus)
    → AllSilent said (cookie_effects cookies ++ login_effects origin statuses)
load_rest_silent said cookie login cookies origin statuses =
    silent_append said (cookie_effects cookies) (login_effects origin statuses) (silent_map said Cookie cookie cookies)
    (silent_map said (Login origin) (login origin) statuses)

pub load_pages : (calls : List (ℕ × CallKind)) (page : ℕ) (url : Parts) (cookies : List CookieChange) (statuses : List
    LoginStatus) (es : List (ℕ × Origin))
    → entries_after nat_eq page_change (load_effects calls page url cookies statuses) es ≡ insert_entry nat_eq es page (origin_of url)
load_pages calls page url cookies statuses es =
    let rest = cookie_effects cookies ++ login_effects (origin_of url) statuses in
    entries_after-append nat_eq page_change (ends_of calls) (Page page (origin_of url) ∷ rest) es
    ∙ ap (λ xs. entries_after nat_eq page_change rest (insert_entry nat_eq xs page (origin_of url)))
    (entries_silent nat_eq page_change (ends_of calls) es (ends_pages calls))
    ∙ entries_silent nat_eq page_change rest (insert_entry nat_eq es page (origin_of url))
    (load_rest_silent page_change (λ c. refl) (λ o s. refl) cookies (origin_of url) statuses)

pub load_calls : (page : ℕ) (url : Parts) (cookies : List CookieChange) (statuses : List LoginStatus) (es : List (ℕ × PendingCall))
    → AreDistinct es
    → entries_after nat_eq call_change (load_effects (calls_of page es) page url cookies statuses) es ≡ others page es
load_calls page url cookies statuses es h =
    let rest = cookie_effects cookies ++ login_effects (origin_of url) statuses in
    entries_after-append nat_eq call_change (ends_of (calls_of page es)) (Page page (origin_of url) ∷ rest) es
    ∙ entries_silent nat_eq call_change rest (entries_after nat_eq call_change (ends_of (calls_of page es)) es)
    (load_rest_silent call_change (λ c. refl) (λ o s. refl) cookies (origin_of url) statuses)
    ∙ ended page es h

-- a load is silent on what ends, pages, cookies and statuses do not say
pub load_silent : {A : Type 0} (said : Effect → Option A) → ((kind : CallKind) (call : ℕ) → said (Move kind call Ended) ≡ None)
    → ((page : ℕ) (origin : Origin) → said (Page page origin) ≡ None)
    → ((cookie : CookieChange) → said (Cookie cookie) ≡ None)
    → ((origin : Origin) (status : LoginStatus) → said (Login origin status) ≡ None)
    → (calls : List (ℕ × CallKind)) (page : ℕ) (url : Parts) (cookies : List CookieChange) (statuses : List LoginStatus)
    → AllSilent said (load_effects calls page url cookies statuses)
load_silent said move page_is cookie login calls page url cookies statuses =
    silent_append said (ends_of calls) (Page page (origin_of url)
    ∷ (cookie_effects cookies ++ login_effects (origin_of url) statuses)) (ends_silent said move calls)
    (page_is page (origin_of url), load_rest_silent said cookie login cookies (origin_of url) statuses)

-- what effects of cookies say of cookies
pub changes_are_said : (cookies : List CookieChange) → filter_map cookie_change (cookie_effects cookies) ≡ cookies
changes_are_said [] = refl
changes_are_said (c ∷ cookies) = ap (λ cs. c ∷ cs) (changes_are_said cookies)

-- cookies, and then what says nothing of them
pub changed_then : (cookies : List CookieChange) (effects : List Effect) → AllSilent cookie_change effects
    → filter_map cookie_change (cookie_effects cookies ++ effects) ≡ cookies
changed_then cookies effects h =
    filter_map-append cookie_change (cookie_effects cookies) effects
    ∙ ap (λ xs. filter_map cookie_change (cookie_effects cookies) ++ xs) (said_silent cookie_change effects h)
    ∙ append-nil (filter_map cookie_change (cookie_effects cookies)) ∙ changes_are_said cookies

pub load_changed : (calls : List (ℕ × CallKind)) (page : ℕ) (url : Parts) (cookies : List CookieChange) (statuses : List LoginStatus)
    → filter_map cookie_change (load_effects calls page url cookies statuses) ≡ cookies
load_changed calls page url cookies statuses =
    let rest = Page page (origin_of url) ∷ (cookie_effects cookies ++ login_effects (origin_of url) statuses) in
    filter_map-append cookie_change (ends_of calls) rest
    ∙ ap (λ xs. xs ++ filter_map cookie_change rest)
    (said_silent cookie_change (ends_of calls) (ends_silent cookie_change (λ n c. refl) calls))
    ∙ changed_then cookies (login_effects (origin_of url) statuses) (silent_map cookie_change (Login (origin_of url)) (λ s. refl) statuses)

-- cookies, and then statuses
pub set_after : (cookies : List CookieChange) (effects : List Effect) (logins : Logins)
    → entries_after same_origin login_change (cookie_effects cookies ++ effects) logins
    ≡ entries_after same_origin login_change effects logins
set_after cookies effects logins =
    entries_after-append same_origin login_change (cookie_effects cookies) effects logins
    ∙ ap (entries_after same_origin login_change effects)
    (entries_silent same_origin login_change (cookie_effects cookies) logins (silent_map login_change Cookie (λ c. refl) cookies))

-- ---- what a call does says of stages alone

-- the outcome of a call says nothing of what requests, dialogs, statuses, results, reasons and moves do not say
pub outcome_silent : {A : Type 0} (said : Effect → Option A)
    → ((kind : CallKind) (call provider : ℕ) (ask : Ask) (cookies : List ℕ) → said (Sent kind call provider ask cookies) ≡ None)
    → ((call : ℕ) (dialog : Dialog) → said (Shown call dialog) ≡ None)
    → ((call provider : ℕ) (failure : Failure) → said (Dropped call provider failure) ≡ None)
    → ((call provider : ℕ) (url : Parts) → said (Window call provider url) ≡ None)
    → ((origin : Origin) (status : LoginStatus) → said (Login origin status) ≡ None)
    → ((triple : Triple) (stays : Bool) → said (Kept triple stays) ≡ None)
    → ((origin : Origin) (stays : Bool) → said (Flag origin stays) ≡ None)
    → ((call page : ℕ) (finish : Finish) → said (Result call page finish) ≡ None)
    → ((why : Why) → said (Ignored why) ≡ None) → ((kind : CallKind) (call : ℕ) (stage : Stage)
    → said (Move kind call stage) ≡ None)
    → (world : World) (cookies : Ask → List ℕ) (kind : CallKind) (call page : ℕ) (outcome : Outcome)
    → AllSilent said (outcome_effects world cookies kind call page outcome)
outcome_silent said sent shown dropped window login kept flag result ignored move world cookies kind call page outcome =
    silent_append said (flat_map (call_effects world cookies kind call page) outcome.effects) (moves kind call outcome.stage)
    (silent_call said sent shown dropped window login kept flag result ignored world cookies kind call page outcome.effects)
    (go outcome.stage)
  where
    go : (stage : Option Stage) → AllSilent said (moves kind call stage)
    go None = tt
    go (Some stage) = (move kind call stage, tt)

-- effects that begin none, or this call
abbrev pub BeginsAtMost : ℕ → List Effect → Type 0
BeginsAtMost call effects = (filter_map begun_by effects ≡ []) ⊎ (filter_map begun_by effects ≡ call ∷ [])

pub outcome_begins_none : (world : World) (cookies : Ask → List ℕ) (kind : CallKind) (call page : ℕ) (outcome : Outcome)
    → AllSilent begun_by (outcome_effects world cookies kind call page outcome)
outcome_begins_none world cookies kind call page outcome =
    outcome_silent begun_by (λ n c p a k. refl) (λ c d. refl) (λ c p f. refl) (λ c p u. refl) (λ o s. refl) (λ t k. refl) (λ o k. refl)
    (λ c p f. refl)
    (λ w. refl) (λ n c s. refl) world cookies kind call page outcome

standing_begins : (world : World) (cookies : Ask → List ℕ) (trusted busy : Bool) (b : Begun)
    → BeginsAtMost b.call (standing_call world cookies trusted busy b)
standing_begins world cookies false busy b = inl refl
standing_begins world cookies true busy b =
    let outcome = first_row world busy b.origin b.options in
    let kind = kind_asked b.options in
    inr (ap (λ xs. b.call ∷ xs) (said_silent begun_by (outcome_effects world cookies kind b.call b.page outcome)
    (outcome_begins_none world cookies kind b.call b.page outcome)))

pub call_begins : (world : World) (cookies : Ask → List ℕ) (o : Option Origin) (busy : Bool) (page call : ℕ) (options : CallOptions)
    → BeginsAtMost call (begin_effects world cookies o busy page call options)
call_begins world cookies None busy page call options = inl refl
call_begins world cookies (Some origin) busy page call options =
    standing_begins world cookies (is_trustworthy origin) busy (record { call = call; page = page; origin = origin; options = options })

pub input_begins_none : (world : World) (cookies : Ask → List ℕ) (begun : Bool) (call : ℕ) (known : Option Known) (input : Input)
    → AllSilent begun_by (input_effects world cookies begun call known input)
input_begins_none world cookies false call known input = (refl, tt)
input_begins_none world cookies true call None input = (refl, tt)
input_begins_none world cookies true call (Some known) input =
    outcome_begins_none world cookies (kind_of known) call (page_of known) (input_row world known input)

-- ---- a call that never began is not pending

-- parts of a list that lacks c lack it
pub any_append : (c : ℕ) (xs ys : List ℕ) → list_any (nat_eq c) (xs ++ ys) ≡ false
    → (list_any (nat_eq c) xs ≡ false) × (list_any (nat_eq c) ys ≡ false)
any_append c [] ys h = (refl, h)
any_append c (x ∷ xs) ys h =
    let here : nat_eq c x ≡ false = grind (arith, h) in
    let more : list_any (nat_eq c) (xs ++ ys) ≡ false = grind (arith, h) in
    let rest = any_append c xs ys more in
    (rw (here, rest.0) refl, rest.1)

-- ---- a call begins

-- its page has it at the end of its calls
pub calls_of-insert_same : (call : ℕ) (v : PendingCall) (es : List (ℕ × PendingCall)) → IsAbsent call es
    → calls_of v.page (insert_entry nat_eq es call v) ≡ calls_of v.page es ++ (call, v.kind) ∷ []
calls_of-insert_same call v [] h =
    let own : (v.page == v.page) ≡ true = grind (arith, nat_tests) in
    ap (λ b. map by_kind (cond b ((call, v) ∷ []) [])) own
calls_of-insert_same call v (e ∷ es) h =
    let there : nat_eq call e.0 ≡ false = grind (arith, nat_tests, h) in
    let tail : IsAbsent call es = grind (arith, nat_tests, h) in
    let rest = calls_of-insert_same call v es tail in
    ap (λ b. calls_of v.page (cond b ((e.0, v) ∷ es) (e ∷ insert_entry nat_eq es call v))) there ∙ go rest (e.1.page == v.page)
  where
    go : calls_of v.page (insert_entry nat_eq es call v) ≡ calls_of v.page es ++ (call, v.kind) ∷ [] → (b : Bool)
        → map by_kind (cond b (e ∷ filter (λ call. call.1.page == v.page) (insert_entry nat_eq es call v))
        (filter (λ call. call.1.page == v.page) (insert_entry nat_eq es call v)))
        ≡ map by_kind (cond b (e ∷ filter (λ call. call.1.page == v.page) es) (filter (λ call. call.1.page == v.page) es))
        ++ (call, v.kind) ∷ []
    go rest true = ap (λ xs. (e.0, e.1.kind) ∷ xs) rest
    go rest false = rest

-- the other pages have what they had
pub calls_of-insert_other : (q call : ℕ) (v : PendingCall) (es : List (ℕ × PendingCall)) → nat_eq v.page q ≡ false
    → IsAbsent call es
    → calls_of q (insert_entry nat_eq es call v) ≡ calls_of q es
calls_of-insert_other q call v [] ne h =
    let other : (v.page == q) ≡ false = grind (arith, nat_tests, ne) in
    ap (λ b. map by_kind (cond b ((call, v) ∷ []) [])) other
calls_of-insert_other q call v (e ∷ es) ne h =
    let there : nat_eq call e.0 ≡ false = grind (arith, nat_tests, h) in
    let tail : IsAbsent call es = grind (arith, nat_tests, h) in
    let rest = calls_of-insert_other q call v es ne tail in
    ap (λ b. calls_of q (cond b ((e.0, v) ∷ es) (e ∷ insert_entry nat_eq es call v))) there ∙ go rest (e.1.page == q)
  where
    go : calls_of q (insert_entry nat_eq es call v) ≡ calls_of q es → (b : Bool)
        → map by_kind (cond b (e ∷ filter (λ call. call.1.page == q) (insert_entry nat_eq es call v))
        (filter (λ call. call.1.page == q) (insert_entry nat_eq es call v)))
        ≡ map by_kind (cond b (e ∷ filter (λ call. call.1.page == q) es) (filter (λ call. call.1.page == q) es))
    go rest true = ap (λ xs. (e.0, e.1.kind) ∷ xs) rest
    go rest false = rest

-- ---- one call of a page ends

-- the calls of the other pages, where one ends
pub calls_of-remove_other : (q : ℕ) (v : PendingCall) (call : ℕ) (es : List (ℕ × PendingCall)) → nat_eq v.page q ≡ false
    → lookup (nat_eq call) es ≡ Some v → calls_of q (shift_remove_entry (nat_eq call) es) ≡ calls_of q es
calls_of-remove_other q v call [] ne h = refl
calls_of-remove_other q v call (e ∷ es) ne h = go (calls_of-remove_other q v call es ne) (nat_eq call e.0) h
  where
    go : (lookup (nat_eq call) es ≡ Some v → calls_of q (shift_remove_entry (nat_eq call) es) ≡ calls_of q es) → (b : Bool)
        → cond b (Some e.1) (lookup (nat_eq call) es) ≡ Some v
        → calls_of q (cond b es (e ∷ shift_remove_entry (nat_eq call) es)) ≡ calls_of q (e ∷ es)
    go rest true h =
        let page_is : e.1 ≡ v = cc in
        let not_here : (e.1.page == q) ≡ false =
        ap (λ p. p.page == q) page_is ∙ (let t : (v.page == q) ≡ false = grind (arith, nat_tests, ne) in t) in
        sym (ap (λ b. map by_kind (cond b (e ∷ filter (λ call. call.1.page == q) es) (filter (λ call. call.1.page == q) es))) not_here)
    go rest false h = under (e.1.page == q) (rest h)
      where
        under : (b : Bool) → calls_of q (shift_remove_entry (nat_eq call) es) ≡ calls_of q es
            → map by_kind (cond b (e ∷ filter (λ call. call.1.page == q) (shift_remove_entry (nat_eq call) es))
            (filter (λ call. call.1.page == q) (shift_remove_entry (nat_eq call) es)))
            ≡ map by_kind (cond b (e ∷ filter (λ call. call.1.page == q) es) (filter (λ call. call.1.page == q) es))
        under true rest = ap (λ xs. (e.0, e.1.kind) ∷ xs) rest
        under false rest = rest

-- a call that is looked up with its page is among the calls of the page
pub is_listed : (v : PendingCall) (call : ℕ) (es : List (ℕ × PendingCall)) → lookup (nat_eq call) es ≡ Some v
    → list_any (is_call call) (calls_of v.page es) ≡ true
is_listed v call [] h = absurd (cc)
is_listed v call (e ∷ es) h = go (is_listed v call es) (nat_eq call e.0) refl h
  where
    go : (lookup (nat_eq call) es ≡ Some v → list_any (is_call call) (calls_of v.page es) ≡ true) → (b : Bool)
        → nat_eq call e.0 ≡ b
        → cond b (Some e.1) (lookup (nat_eq call) es) ≡ Some v
        → list_any (is_call call) (map by_kind (cond (e.1.page == v.page) (e ∷ filter (λ call. call.1.page == v.page) es)
        (filter (λ call. call.1.page == v.page) es))) ≡ true
    go rest true is h =
        let page_is : e.1 ≡ v = cc in
        let here : (e.1.page == v.page) ≡ true =
        ap (λ p. p.page == v.page) page_is ∙ (let t : (v.page == v.page) ≡ true = grind (arith, nat_tests) in t) in
        ap (λ b. list_any (is_call call) (map by_kind
        (cond b (e ∷ filter (λ call. call.1.page == v.page) es) (filter (λ call. call.1.page == v.page) es)))) here
        ∙ ap (λ b. b || list_any (is_call call) (calls_of v.page es)) is
    go rest false is h = under (e.1.page == v.page) (rest h)
      where
        under : (b : Bool) → list_any (is_call call) (calls_of v.page es) ≡ true
            → list_any (is_call call) (map by_kind (cond b (e ∷ filter (λ call. call.1.page == v.page) es)
            (filter (λ call. call.1.page == v.page) es))) ≡ true
        under true found = ap (λ b. b || list_any (is_call call) (calls_of v.page es)) is ∙ found
        under false found = found

-- a call that is absent is not among the calls of a page
filter_absent : (page call : ℕ) (es : List (ℕ × PendingCall)) → IsAbsent call es
    → filter (is_other call) (calls_of page es) ≡ calls_of page es
filter_absent page call [] h = refl
filter_absent page call (e ∷ es) h =
    let here : nat_eq call e.0 ≡ false = grind (arith, nat_tests, h) in
    let tail : IsAbsent call es = grind (arith, nat_tests, h) in
    go (e.1.page == page) here (filter_absent page call es tail)
  where
    go : (b : Bool) → nat_eq call e.0 ≡ false → filter (is_other call) (calls_of page es) ≡ calls_of page es
        → filter (is_other call) (map by_kind (cond b (e ∷ filter (λ call. call.1.page == page) es)
        (filter (λ call. call.1.page == page) es)))
        ≡ map by_kind (cond b (e ∷ filter (λ call. call.1.page == page) es) (filter (λ call. call.1.page == page) es))
    go true here rest =
        ap (λ b. cond (not b) ((e.0, e.1.kind) ∷ filter (is_other call) (calls_of page es))
        (filter (is_other call) (calls_of page es))) here ∙ ap (λ xs. (e.0, e.1.kind) ∷ xs) rest
    go false here rest = rest

-- the calls of its own page, where one ends: those but this one
pub calls_of-remove_same : (page call : ℕ) (es : List (ℕ × PendingCall)) → AreDistinct es
    → calls_of page (shift_remove_entry (nat_eq call) es) ≡ filter (is_other call) (calls_of page es)
calls_of-remove_same page call [] distinct = refl
calls_of-remove_same page call (e ∷ es) distinct =
    go (calls_of-remove_same page call es distinct.1) (nat_eq call e.0) refl (e.1.page == page) refl
  where
    gone : nat_eq call e.0 ≡ true → filter (is_other call) (calls_of page es) ≡ calls_of page es
    gone is =
        let key : e.0 ≡ call = grind (arith, nat_tests, is) in
        filter_absent page call es (subst (λ k. IsAbsent k es) key distinct.0)

    go : calls_of page (shift_remove_entry (nat_eq call) es) ≡ filter (is_other call) (calls_of page es) → (b : Bool)
        → nat_eq call e.0 ≡ b
        → (here : Bool) → (e.1.page == page) ≡ here
        → calls_of page (cond b es (e ∷ shift_remove_entry (nat_eq call) es))
        ≡ filter (is_other call) (map by_kind (cond here (e ∷ filter (λ call. call.1.page == page) es)
        (filter (λ call. call.1.page == page) es)))
    go rest true is true at =
        sym (ap (λ b. cond (not b) ((e.0, e.1.kind)
        ∷ filter (is_other call) (calls_of page es)) (filter (is_other call) (calls_of page es))) is ∙ gone is)
    go rest true is false at = sym (gone is)
    go rest false is true at =
        ap (λ b. map by_kind (cond b (e ∷ filter (λ call. call.1.page == page) (shift_remove_entry (nat_eq call)
        es)) (filter (λ call. call.1.page == page) (shift_remove_entry (nat_eq call) es)))) at
        ∙ ap (λ xs. (e.0, e.1.kind) ∷ xs) rest
        ∙ sym (ap (λ b. cond (not b) ((e.0, e.1.kind)
        ∷ filter (is_other call) (calls_of page es)) (filter (is_other call) (calls_of page es))) is)
    go rest false is false at =
        ap (λ b. map by_kind (cond b (e ∷ filter (λ call. call.1.page == page) (shift_remove_entry (nat_eq call)
        es)) (filter (λ call. call.1.page == page) (shift_remove_entry (nat_eq call) es)))) at ∙ rest
