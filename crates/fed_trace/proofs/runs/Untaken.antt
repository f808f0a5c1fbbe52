-- What is unused began in no row.
use Rattle.std.proofs.Common.{◌≡◌, ℕ, false, ◌⊎◌, inl, inr, nat_eq, List, [], ◌∷◌, ◌++◌, refl, ap, ◌∙◌, append-nil}
use Rattle.std.proofs.lemmas.List.Folds.{list_any-append}
use Rattle.std.specs.List.{list_any, filter_map}
use Rattle.fed_script.specs.declared.event.Event.{Event}
use Rattle.fed_script.specs.declared.event.Event.TheVariants as events
use Rattle.fed_script.specs.declared.event.Event.TheVariants.{Get, Disconnect}
use Rattle.fed_script.specs.Used.{UsedState, used_after}
use Rattle.fed_disconnect.specs.Facts.{disconnect_options}
use Rattle.fed_trace.specs.Begun.{ToGet, ToDisconnect}
use Rattle.fed_trace.specs.Effect.{begun_by}
use Rattle.fed_trace.specs.Known.{world_at}
use Rattle.fed_trace.specs.Row.{with_event, effects_of, cookies_with, is_busy}
use Rattle.fed_trace.specs.Trace.{Trace, begun, page_at, gets}
use Rattle.fed_trace.proofs.calls.Begins.{begins_none}
use Rattle.fed_trace.proofs.calls.Pending.{call_begins, any_append}

-- what is unused began in no row
abbrev pub IsUntaken : List ℕ → List ℕ → Type 0
IsUntaken calls taken = (call : ℕ) → list_any (nat_eq call) calls ≡ false → list_any (nat_eq call) taken ≡ false

untaken_push : (calls taken begins : List ℕ) (c : ℕ) → IsUntaken calls taken → (begins ≡ []) ⊎ (begins ≡ c ∷ [])
    → IsUntaken (calls ++ c ∷ []) (taken ++ begins)
untaken_push calls taken begins c h (inl none) call unused =
    ap (λ xs. list_any (nat_eq call) (taken ++ xs)) none ∙ ap (list_any (nat_eq call)) (append-nil taken)
    ∙ h call (any_append call calls (c ∷ []) unused).0
untaken_push calls taken begins c h (inr one) call unused =
    let parts = any_append call calls (c ∷ []) unused in
    ap (λ xs. list_any (nat_eq call) (taken ++ xs)) one ∙ list_any-append (nat_eq call) taken (c ∷ []) ∙ rw (h call parts.0, parts.1) refl

-- an event begins no call
untaken_same : (calls taken begins : List ℕ) → begins ≡ [] → IsUntaken calls taken → IsUntaken calls (taken ++ begins)
untaken_same calls taken begins none h call unused =
    ap (λ xs. list_any (nat_eq call) (taken ++ xs)) none ∙ ap (list_any (nat_eq call)) (append-nil taken) ∙ h call unused

pub untaken_after : (T : Trace) (line : ℕ) (event : Event) (used : UsedState) → IsUntaken used.calls (begun T.rows)
    → IsUntaken (used_after event used).calls (begun (with_event T line event).rows)
untaken_after T line (Get page c options) used h =
    untaken_push used.calls (begun T.rows) (filter_map begun_by (effects_of T (Get page c options))) c h
    (call_begins (world_at T) (cookies_with T) (page_at T page) (is_busy page (gets T)) page c (ToGet options))
untaken_after T line (Disconnect page c config client hint) used h =
    untaken_push used.calls (begun T.rows) (filter_map begun_by (effects_of T (Disconnect page c config client hint))) c h
    (call_begins (world_at T) (cookies_with T) (page_at T page) (is_busy page (gets T)) page c
    (ToDisconnect (disconnect_options config client hint)))
untaken_after T line (events.Prevent page) used h = untaken_same used.calls (begun T.rows) _ (begins_none T (events.Prevent page) refl) h
untaken_after T line (events.Have have) used h = untaken_same used.calls (begun T.rows) _ (begins_none T (events.Have have) refl) h
untaken_after T line (events.At time) used h = untaken_same used.calls (begun T.rows) _ (begins_none T (events.At time) refl) h
untaken_after T line (events.Load page url raw) used h =
    untaken_same used.calls (begun T.rows) _ (begins_none T (events.Load page url raw) refl) h
untaken_after T line (events.ClosePage page) used h =
    untaken_same used.calls (begun T.rows) _ (begins_none T (events.ClosePage page) refl) h
untaken_after T line (events.Abort call) used h = untaken_same used.calls (begun T.rows) _ (begins_none T (events.Abort call) refl) h
untaken_after T line (events.Reply call provider kind raw) used h =
    untaken_same used.calls (begun T.rows) _ (begins_none T (events.Reply call provider kind raw) refl) h
untaken_after T line (events.Choose call provider account) used h =
    untaken_same used.calls (begun T.rows) _ (begins_none T (events.Choose call provider account) refl) h
untaken_after T line (events.GoOn call) used h = untaken_same used.calls (begun T.rows) _ (begins_none T (events.GoOn call) refl) h
untaken_after T line (events.Cancel call) used h = untaken_same used.calls (begun T.rows) _ (begins_none T (events.Cancel call) refl) h
untaken_after T line (events.SignIn call) used h = untaken_same used.calls (begun T.rows) _ (begins_none T (events.SignIn call) refl) h
untaken_after T line (events.ShutWindow call) used h =
    untaken_same used.calls (begun T.rows) _ (begins_none T (events.ShutWindow call) refl) h
untaken_after T line (events.IdpClose page) used h = untaken_same used.calls (begun T.rows) _ (begins_none T (events.IdpClose page) refl) h
untaken_after T line (events.SetStatus page status) used h =
    untaken_same used.calls (begun T.rows) _ (begins_none T (events.SetStatus page status) refl) h
