-- No call begins twice.
use Rattle.std.proofs.Common.{◌≡◌, ℕ, Bool, true, false, nat_eq, ◌||◌, ◌⊎◌, inl, inr, List, [], ◌∷◌, ◌++◌, Some}
use Rattle.std.proofs.Common.{None, refl, sym, ap, subst}
use Rattle.std.proofs.Common.{◌∙◌, arith, append-nil}
use Rattle.std.proofs.lemmas.Bool.Decides.{nat_tests}
use Rattle.std.specs.Prelude.{Option, ⊤}
use Rattle.std.specs.List.{list_any, filter_map}
use Rattle.fed_origin.specs.declared.origin.Origin.{Origin}
use Rattle.fed_origin.specs.Origin.{is_trustworthy}
use Rattle.fed_jar.specs.Changes.{CookieChange}
use Rattle.fed_script.specs.declared.event.Event.{Event}
use Rattle.fed_script.specs.declared.event.Event.TheVariants.{At, Load, ClosePage, Get, Abort, Reply, Prevent, SetStatus, Disconnect}
use Rattle.fed_script.specs.declared.event.Have.{Have}
use Rattle.fed_script.specs.declared.event.Header.{Header}
use Rattle.fed_consent.specs.declared.table.input.Input.TheVariants as inputs
use Rattle.fed_script.specs.declared.event.Event.TheVariants as events
use Rattle.fed_script.specs.declared.event.Have.TheVariants as haves
use Rattle.fed_disconnect.specs.Facts.{disconnect_options}
use Rattle.fed_trace.specs.Begun.{CallKind, ToGet, ToDisconnect}
use Rattle.fed_trace.specs.Effect.{Effect, Closed, Cookie, Login, Flag, begun_by}
use Rattle.fed_trace.specs.Known.{world_at, is_begun, known_at}
use Rattle.fed_trace.specs.Row.{effects_of, cookies_with, load_changes, have_changes, have_states, set_logins, cookie_effects}
use Rattle.fed_trace.specs.Row.{ends_of, close_effects, standing_says, page_says, is_busy, IsNew, IsRun}
use Rattle.fed_trace.specs.Trace.{Row, Trace, begun, pending_of, page_at, gets}
use Rattle.fed_trace.specs.Windows.{windows_of}
use Rattle.fed_trace.proofs.calls.Resumed.{idpclose_silent}
use Rattle.fed_trace.proofs.calls.Pending.{BeginsAtMost, ends_silent, load_silent, call_begins, input_begins_none}
use Rattle.fed_trace.proofs.effects.Silent.{AllSilent, said_silent, silent_map, silent_append}

-- no number stands twice
abbrev pub AreApart : List ℕ → Type 0
AreApart [] = ⊤
AreApart (x ∷ xs) = (list_any (nat_eq x) xs ≡ false) × AreApart xs

not_in_push : (x c : ℕ) (xs : List ℕ) → nat_eq x c ≡ false → list_any (nat_eq x) xs ≡ false → list_any (nat_eq x) (xs ++ c ∷ []) ≡ false
not_in_push x c [] ne h = grind (arith, ne)
not_in_push x c (y ∷ xs) ne h =
    let here : nat_eq x y ≡ false = grind (arith, h) in
    let tail : list_any (nat_eq x) xs ≡ false = grind (arith, h) in
    ap (λ b. b || list_any (nat_eq x) (xs ++ c ∷ [])) here ∙ not_in_push x c xs ne tail

apart_push : (c : ℕ) (xs : List ℕ) → list_any (nat_eq c) xs ≡ false → AreApart xs → AreApart (xs ++ c ∷ [])
apart_push c [] h apart = (refl, tt)
apart_push c (x ∷ xs) h apart =
    let ne : nat_eq x c ≡ false = grind (arith, nat_tests, h) in
    let tail : list_any (nat_eq c) xs ≡ false = grind (arith, h) in
    (not_in_push x c xs ne apart.0, apart_push c xs tail apart.1)

apart_by : (c : ℕ) (xs begins : List ℕ) → list_any (nat_eq c) xs ≡ false → (begins ≡ []) ⊎ (begins ≡ c ∷ [])
    → AreApart xs
    → AreApart (xs ++ begins)
apart_by c xs begins new (inl none) apart = subst (λ ys. AreApart (xs ++ ys)) (sym none) (subst AreApart (sym (append-nil xs)) apart)
apart_by c xs begins new (inr one) apart = subst (λ ys. AreApart (xs ++ ys)) (sym one) (apart_push c xs new apart)

none_begun : (xs begins : List ℕ) → begins ≡ [] → AreApart xs → AreApart (xs ++ begins)
none_begun xs begins none apart = subst (λ ys. AreApart (xs ++ ys)) (sym none) (subst AreApart (sym (append-nil xs)) apart)

states_begin_none : (have : Have) → AllSilent begun_by (have_states have)
states_begin_none (haves.Cookie url field) = tt
states_begin_none (haves.Login origin status) = (refl, tt)
states_begin_none (haves.Kept triple) = (refl, tt)
states_begin_none (haves.Silent origin) = (refl, tt)

have_begins_none : (cookies : List CookieChange) (have : Have) → AllSilent begun_by (cookie_effects cookies ++ have_states have)
have_begins_none cookies have =
    silent_append begun_by (cookie_effects cookies) (have_states have) (silent_map begun_by Cookie (λ c. refl) cookies)
    (states_begin_none have)

close_begins_none : (calls : List (ℕ × CallKind)) (page : ℕ) (o : Option Origin) → AllSilent begun_by (close_effects calls page o)
close_begins_none calls page None = (refl, tt)
close_begins_none calls page (Some origin) =
    silent_append begun_by (ends_of calls) (Closed page ∷ []) (ends_silent begun_by (λ n c. refl) calls) (refl, tt)

says_begin_none : (o : Option Origin) (said : Origin → Effect) → ((origin : Origin) → begun_by (said origin) ≡ None)
    → AllSilent begun_by (page_says o said)
says_begin_none None said none = (refl, tt)
says_begin_none (Some origin) said none = go (is_trustworthy origin)
  where
    go : (trusted : Bool) → AllSilent begun_by (standing_says trusted (said origin))
    go true = (none origin, tt)
    go false = (refl, tt)

-- the call of a get or of a disconnect
abbrev pub new_call : Event → Option ℕ
new_call (Get page call options) = Some call
new_call (Disconnect page call config client hint) = Some call
new_call _ = None

-- an event begins no call, or the one that it brings
pub event_begins : (T : Trace) (event : Event)
    → (AllSilent begun_by (effects_of T event)) ⊎ ((call : ℕ) × (new_call event ≡ Some call)
    × BeginsAtMost call (effects_of T event))
event_begins T (events.Have have) = inl (have_begins_none (have_changes T have) have)
event_begins T (At time) = inl (refl, tt)
event_begins T (Load page url raw) =
    inl (load_silent begun_by (λ n c. refl) (λ p o. refl) (λ c. refl) (λ o s. refl) (pending_of T page) page url
    (load_changes T url raw) (set_logins raw))
event_begins T (ClosePage page) = inl (close_begins_none (pending_of T page) page (page_at T page))
event_begins T (Prevent page) = inl (says_begin_none (page_at T page) (λ origin. Flag origin true) (λ o. refl))
event_begins T (SetStatus page status) = inl (says_begin_none (page_at T page) (λ origin. Login origin status) (λ o. refl))
event_begins T (Disconnect page call config client hint) =
    inr (
      call,
      refl,
      call_begins (world_at T) (cookies_with T) (page_at T page) (is_busy page (gets T)) page call
          (ToDisconnect (disconnect_options config client hint)),
    )
event_begins T (Get page call options) =
    inr (call, refl, call_begins (world_at T) (cookies_with T) (page_at T page) (is_busy page (gets T)) page call (ToGet options))
event_begins T (Abort call) = inl (input_begins_none (world_at T) (cookies_with T) (is_begun T call) call (known_at T call) inputs.Abort)
event_begins T (events.Choose call provider account) =
    inl (input_begins_none (world_at T) (cookies_with T) (is_begun T call) call (known_at T call) (inputs.Choose provider account))
event_begins T (events.GoOn call) =
    inl (input_begins_none (world_at T) (cookies_with T) (is_begun T call) call (known_at T call) inputs.GoOn)
event_begins T (events.Cancel call) =
    inl (input_begins_none (world_at T) (cookies_with T) (is_begun T call) call (known_at T call) inputs.Cancel)
event_begins T (events.SignIn call) =
    inl (input_begins_none (world_at T) (cookies_with T) (is_begun T call) call (known_at T call) inputs.SignIn)
event_begins T (events.ShutWindow call) =
    inl (input_begins_none (world_at T) (cookies_with T) (is_begun T call) call (known_at T call) inputs.Shut)
event_begins T (events.IdpClose page) =
    inl (idpclose_silent begun_by (record { ignored = λ w. refl; sent = λ n c p t k. refl; move = λ n c. refl }) (world_at T)
    (cookies_with T) (known_at T) (windows_of T) (page_at T page))
event_begins T (Reply call provider kind raw) =
    inl (input_begins_none (world_at T) (cookies_with T) (is_begun T call) call (known_at T call) (inputs.Reply provider kind raw))

-- an event that brings no call begins none
pub begins_none : (T : Trace) (event : Event) → new_call event ≡ None → filter_map begun_by (effects_of T event) ≡ []
begins_none T event none = go (event_begins T event)
  where
    go : (AllSilent begun_by (effects_of T event))
        ⊎ ((call : ℕ) × (new_call event ≡ Some call) × BeginsAtMost call (effects_of T event))
        → filter_map begun_by (effects_of T event) ≡ []
    go (inl silent) = said_silent begun_by (effects_of T event) silent
    go (inr found) = let is = found.1 in absurd (cc)

apart_after : (T : Trace) (event : Event) → IsNew T.rows event → AreApart (begun T.rows)
    → AreApart (begun T.rows ++ filter_map begun_by (effects_of T event))
apart_after T event new apart = go event (event_begins T event) new
  where
    go : (e : Event) → (AllSilent begun_by (effects_of T event))
        ⊎ ((call : ℕ) × (new_call e ≡ Some call) × BeginsAtMost call (effects_of T event)) → IsNew T.rows e
        → AreApart (begun T.rows ++ filter_map begun_by (effects_of T event))
    go e (inl silent) new = none_begun (begun T.rows) _ (said_silent begun_by (effects_of T event) silent) apart
    go (Get page c options) (inr found) new =
        let same : c ≡ found.0 = let is = found.1 in cc in
        apart_by found.0 (begun T.rows) _ (subst (λ k. list_any (nat_eq k) (begun T.rows) ≡ false) same new.0) found.2 apart
    go (Disconnect page c config client hint) (inr found) new =
        let same : c ≡ found.0 = let is = found.1 in cc in
        apart_by found.0 (begun T.rows) _ (subst (λ k. list_any (nat_eq k) (begun T.rows) ≡ false) same new) found.2 apart
    go e (inr found) new = absurd (cc)

pub apart_begun : (header : Header) (rows : List Row) → IsRun header rows → AreApart (begun rows)
apart_begun header [] run = tt
apart_begun header (row ∷ rows) run =
    subst (λ effects. AreApart (begun rows ++ filter_map begun_by effects)) (sym run.0)
    (apart_after (record { header = header; rows = rows }) row.event run.1 (apart_begun header rows run.2))
