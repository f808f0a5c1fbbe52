-- The statuses that a load sets, and pages that have a pending get.
use Rattle.std.proofs.Common.{◌≡◌, ℕ, Bool, true, false, ◌==◌, ◌||◌, List, [], ◌∷◌, ◌++◌, Some, None, map, refl, sym, ap, ◌∙◌, cond}
use Rattle.std.specs.Prelude.{filter, Option, is_some}
use Rattle.std.specs.Option.{option_to_list}
use Rattle.std.specs.List.{cons_option}
use Rattle.url.specs.Parts.{Parts}
use Rattle.fed_origin.specs.declared.origin.Origin.{Origin}
use Rattle.fed_origin.specs.declared.status.LoginStatus.{LoginStatus}
use Rattle.fed_origin.specs.Origin.{same_origin}
use Rattle.fed_origin.specs.WebUrl.{origin_of}
use Rattle.fed_jar.specs.Changes.{CookieChange}
use Rattle.fed_status.specs.Login.{Logins, with_status}
use Rattle.fed_trace.specs.Effect.{PendingCall, Page, login_change}
use Rattle.fed_trace.specs.Keyed.{entries_after}
use Rattle.fed_trace.specs.Row.{ends_of, cookie_effects, login_effects, load_effects, is_busy}
use Rattle.fed_session.specs.StepParts.{with_statuses}
use Rattle.fed_trace.specs.Begun.{CallKind, GetCall, DisconnectCall, of_get}
use Rattle.fed_trace.specs.Trace.{by_kind, calls_of}
use Rattle.fed_session.specs.Session.{gets_in}
use Rattle.fed_trace.proofs.keyed.Keyed.{entries_after-append}
use Rattle.fed_trace.proofs.effects.Silent.{entries_silent}
use Rattle.fed_trace.proofs.calls.Gets.{gets_among}
use Rattle.fed_trace.proofs.calls.Pending.{set_after, ends_silent}

-- ---- statuses

-- the statuses that effects of statuses set
pub statuses_are_set : (origin : Origin) (statuses : List LoginStatus) (logins : Logins)
    → entries_after same_origin login_change (login_effects origin statuses) logins ≡ with_statuses origin statuses logins
statuses_are_set origin [] logins = refl
statuses_are_set origin (status ∷ statuses) logins = statuses_are_set origin statuses (with_status logins origin status)

pub load_sets : (calls : List (ℕ × CallKind)) (page : ℕ) (url : Parts) (cookies : List CookieChange) (statuses : List
    LoginStatus) (logins : Logins)
    → entries_after same_origin login_change (load_effects calls page url cookies statuses) logins
    ≡ with_statuses (origin_of url) statuses logins
load_sets calls page url cookies statuses logins =
    let rest = cookie_effects cookies ++ login_effects (origin_of url) statuses in
    entries_after-append same_origin login_change (ends_of calls) (Page page (origin_of url) ∷ rest) logins
    ∙ ap (λ xs. entries_after same_origin login_change rest xs)
    (entries_silent same_origin login_change (ends_of calls) logins (ends_silent login_change (λ n c. refl) calls))
    ∙ set_after cookies (login_effects (origin_of url) statuses) logins
    ∙ statuses_are_set (origin_of url) statuses logins

-- ---- a page has a pending get

-- a list has a first item
abbrev is_some_first : List ℕ → Bool
is_some_first [] = false
is_some_first (x ∷ xs) = true

any_by_first : (page : ℕ) (es : List (ℕ × PendingCall)) → is_busy page (gets_among es) ≡ is_some_first (gets_in (calls_of page es))
any_by_first page [] = refl
any_by_first page (e ∷ es) = by e.1.kind (any_by_first page es) ∙ ap (λ xs. is_some_first (gets_in xs)) (mapped (e.1.page == page))
  where
    mapped : (b : Bool) → cond b (by_kind e ∷ calls_of page es) (calls_of page es)
        ≡ map by_kind (cond b (e ∷ filter (λ call. call.1.page == page) es) (filter (λ call. call.1.page == page) es))
    mapped true = refl
    mapped false = refl

    by : (kind : CallKind) → is_busy page (gets_among es) ≡ is_some_first (gets_in (calls_of page es))
        → is_busy page (cons_option (of_get kind (Some (e.0, e.1.page))) (gets_among es))
        ≡ is_some_first (gets_in (cond (e.1.page == page) ((e.0, kind) ∷ calls_of page es) (calls_of page es)))
    by GetCall rest = here (e.1.page == page)
      where
        here : (b : Bool) → b || is_busy page (gets_among es)
            ≡ is_some_first (gets_in (cond b ((e.0, GetCall) ∷ calls_of page es) (calls_of page es)))
        here true = refl
        here false = rest
    by DisconnectCall rest = here (e.1.page == page)
      where
        here : (b : Bool) → is_busy page (gets_among es)
            ≡ is_some_first (gets_in (cond b ((e.0, DisconnectCall) ∷ calls_of page es) (calls_of page es)))
        here true = rest
        here false = rest

first_of_option : (o : Option ℕ) → is_some_first (option_to_list o) ≡ is_some o
first_of_option None = refl
first_of_option (Some x) = refl

-- a page is busy where it keeps a get
pub is_busy-kept : (page : ℕ) (es : List (ℕ × PendingCall)) (get : Option ℕ) → option_to_list get ≡ gets_in (calls_of page es)
    → is_some get ≡ is_busy page (gets_among es)
is_busy-kept page es get h = sym (first_of_option get) ∙ ap is_some_first h ∙ sym (any_by_first page es)
