-- What moves of calls leave of the calls in Window, and of the origins that were waited for.
use Rattle.std.proofs.Common.{◌≡◌, ℕ, Bool, true, false, nat_eq, ◌||◌, ◌⊎◌, inl, inr, cond, List, [], ◌∷◌, ◌++◌, Option, Some, None}
use Rattle.std.proofs.Common.{refl, sym, ap, subst, ◌∙◌, arith}
use Rattle.std.proofs.lemmas.Bool.Decides.{nat_tests}
use Rattle.std.proofs.lemmas.List.Folds.{list_any-append}
use Rattle.std.specs.Prelude.{⊤}
use Rattle.std.specs.List.{list_any, flat_map, AllByRecursion}
use Rattle.std.specs.Map.{keys_of}
use Rattle.indexmap.proofs.SetLemmas.{keys_insert_entry}
use Rattle.indexmap.specs.IndexMap.{insert_entry, shift_remove_entry}
use Rattle.indexmap.specs.IndexSet.{insert_key}
use Rattle.fed_origin.specs.declared.origin.Origin.{Origin}
use Rattle.fed_origin.specs.declared.stage.Stage.{Stage}
use Rattle.fed_origin.specs.Origin.{same_origin}
use Rattle.fed_status.specs.Shared.{World}
use Rattle.fed_consent.specs.declared.table.ask.Ask.{Ask}
use Rattle.fed_consent.specs.Outcomes.{Outcome}
use Rattle.fed_table.specs.Lists.{has, all_without, with_last}
use Rattle.fed_trace.specs.Begun.{CallKind}
use Rattle.fed_trace.specs.Effect.{Effect, Time, Page, Closed, Cookie, Login, Begin, Move, Sent, Dropped, Shown, Window, Kept, Flag, Result, Ignored}
use Rattle.fed_trace.specs.Effect.{key_change, is_window, stage_change, window_change}
use Rattle.fed_trace.specs.Keyed.{changed, entries_after}
use Rattle.fed_trace.specs.Row.{call_effects, moves, outcome_effects}
use Rattle.fed_trace.specs.Trace.{Row, standing}
use Rattle.fed_trace.specs.Windows.{provider_of, waited_from, waited_change}
use Rattle.fed_trace.proofs.effects.Silent.{AllSilent, entries_silent, silent_call}
use Rattle.fed_trace.proofs.keyed.Keyed.{AreDistinct, distinct_after_remove, entries_after-append}
use Rattle.fed_session.proofs.waits.Lists.{Providers, lists_of, AreOnce, AreReached, lists_without, lists_last, lists_unwaited}
use Rattle.fed_session.proofs.waits.Lists.{once_inserted, there_inserted, own_inserted, keys_removed, among_removed}

-- ---- what is so of the calls in Window and of the origins that were waited for

pub record AreWaits (provider : Providers) (calls : List ℕ) (origins : List Origin) : Type 0 where
  pub reached : AreReached provider calls origins
  pub once : AreOnce origins

among_inserted : (q call : ℕ) (calls : List ℕ) → has q (insert_key nat_eq calls call) ≡ true → (has q calls ≡ true) ⊎ (q ≡ call)
among_inserted q call calls h = go (has call calls) h
  where
    last : (there own : Bool) → has q calls ≡ there → nat_eq q call ≡ own → there || (own || false) ≡ true
        → (has q calls ≡ true) ⊎ (q ≡ call)
    last true own is at found = inl is
    last false true is at found = let key : q ≡ call = grind (arith, nat_tests, at) in inr key
    last false false is at found = absurd (cc)

    go : (b : Bool) → has q (cond b calls (calls ++ call ∷ [])) ≡ true → (has q calls ≡ true) ⊎ (q ≡ call)
    go true found = inl found
    go false found = last (has q calls) (nat_eq q call) refl refl (sym (list_any-append (nat_eq q) calls (call ∷ [])) ∙ found)

opens : (provider : Providers) (call : ℕ) (calls : List (ℕ × ⊤)) (origins : List (Origin × ⊤)) (found : Option Origin)
    → provider call ≡ found → AreWaits provider (keys_of calls) (keys_of origins)
    → AreWaits provider (keys_of (insert_entry nat_eq calls call tt)) (keys_of (changed same_origin (waited_from true found) origins))
opens provider call calls origins None is h = record {
  reached = λ q o there at. by q o (among_inserted q call (keys_of calls)
      (sym (ap (has q) (keys_insert_entry nat_eq calls call tt)) ∙ there)) at;
  once = h.once;
}
  where
    by : (q : ℕ) (o : Origin) → (has q (keys_of calls) ≡ true) ⊎ (q ≡ call) → provider q ≡ Some o
        → list_any (same_origin o) (keys_of origins) ≡ true
    by q o (inl there) at = h.reached q o there at
    by q o (inr key) at = let none : None ≡ Some o = sym is ∙ ap provider (sym key) ∙ at in absurd (cc)
opens provider call calls origins (Some origin) is h = record {
  reached = λ q o there at. ap (list_any (same_origin o)) (keys_insert_entry same_origin origins origin tt)
      ∙ by q o (among_inserted q call (keys_of calls) (sym (ap (has q) (keys_insert_entry nat_eq calls call tt)) ∙ there)) at;
  once = subst AreOnce (sym (keys_insert_entry same_origin origins origin tt)) (once_inserted origin (keys_of origins) h.once);
}
  where
    by : (q : ℕ) (o : Origin) → (has q (keys_of calls) ≡ true) ⊎ (q ≡ call) → provider q ≡ Some o
        → list_any (same_origin o) (insert_key same_origin (keys_of origins) origin) ≡ true
    by q o (inl there) at = there_inserted o origin (keys_of origins) (h.reached q o there at)
    by q o (inr key) at =
        let both : Some origin ≡ Some o = sym is ∙ ap provider (sym key) ∙ at in
        let own : origin ≡ o = cc in
        subst (λ k. list_any (same_origin k) (insert_key same_origin (keys_of origins) origin) ≡ true) own
        (own_inserted origin (keys_of origins))

moves_window : (provider : Providers) (call : ℕ) (b : Bool) (calls : List (ℕ × ⊤)) (origins : List (Origin × ⊤))
    → AreWaits provider (keys_of calls) (keys_of origins)
    → AreWaits provider (keys_of (changed nat_eq (Some (key_change call b)) calls))
    (keys_of (changed same_origin (waited_from b (provider call)) origins))
moves_window provider call true calls origins h = opens provider call calls origins (provider call) refl h
moves_window provider call false calls origins h =
    record { reached = λ q o there at. h.reached q o (among_removed q call calls there) at; once = h.once }

-- ---- effects

-- the lists after an effect that opens no window
abbrev pub lists_by : Effect → List (Origin × List ℕ) → List (Origin × List ℕ)
lists_by (Move kind call stage) lists = all_without call lists
lists_by _ lists = lists

abbrev pub lists_after : List Effect → List (Origin × List ℕ) → List (Origin × List ℕ)
lists_after [] lists = lists
lists_after (e ∷ effects) lists = lists_after effects (lists_by e lists)

-- the effect opens a window
abbrev pub is_opening : Effect → Bool
is_opening (Move kind call stage) = is_window stage
is_opening _ = false

abbrev pub OpensNone : List Effect → Type 0
OpensNone effects = AllByRecursion (λ e. is_opening e ≡ false) effects

-- the effect moves no call
pub record IsStill (e : Effect) : Type 0 where
  pub window : window_change e ≡ None
  pub waited : (rows : List Row) → waited_change rows e ≡ None
  pub lists : (lists : List (Origin × List ℕ)) → lists_by e lists ≡ lists
  pub closed : is_opening e ≡ false

-- an effect is a move, or moves no call
pub by_move : {P : Effect → Type 0} → ((kind : CallKind) (call : ℕ) (stage : Stage) → P (Move kind call stage))
    → ((e : Effect) → IsStill e → P e) → (e : Effect) → P e
by_move moved still (Move kind call stage) = moved kind call stage
by_move moved still (Time time) = still (Time time) (record { window = refl; waited = λ rows. refl; lists = λ ls. refl; closed = refl })
by_move moved still (Page page origin) =
    still (Page page origin) (record { window = refl; waited = λ rows. refl; lists = λ ls. refl; closed = refl })
by_move moved still (Closed page) =
    still (Closed page) (record { window = refl; waited = λ rows. refl; lists = λ ls. refl; closed = refl })
by_move moved still (Cookie cookie) =
    still (Cookie cookie) (record { window = refl; waited = λ rows. refl; lists = λ ls. refl; closed = refl })
by_move moved still (Login origin status) =
    still (Login origin status) (record { window = refl; waited = λ rows. refl; lists = λ ls. refl; closed = refl })
by_move moved still (Begin begun) =
    still (Begin begun) (record { window = refl; waited = λ rows. refl; lists = λ ls. refl; closed = refl })
by_move moved still (Dropped call provider failure) =
    still (Dropped call provider failure) (record { window = refl; waited = λ rows. refl; lists = λ ls. refl; closed = refl })
by_move moved still (Sent kind call provider ask cookies) =
    still (Sent kind call provider ask cookies)
    (record { window = refl; waited = λ rows. refl; lists = λ ls. refl; closed = refl })
by_move moved still (Shown call dialog) =
    still (Shown call dialog) (record { window = refl; waited = λ rows. refl; lists = λ ls. refl; closed = refl })
by_move moved still (Window call provider url) =
    still (Window call provider url) (record { window = refl; waited = λ rows. refl; lists = λ ls. refl; closed = refl })
by_move moved still (Kept triple stays) =
    still (Kept triple stays) (record { window = refl; waited = λ rows. refl; lists = λ ls. refl; closed = refl })
by_move moved still (Flag origin stays) =
    still (Flag origin stays) (record { window = refl; waited = λ rows. refl; lists = λ ls. refl; closed = refl })
by_move moved still (Result call page finish) =
    still (Result call page finish) (record { window = refl; waited = λ rows. refl; lists = λ ls. refl; closed = refl })
by_move moved still (Ignored why) =
    still (Ignored why) (record { window = refl; waited = λ rows. refl; lists = λ ls. refl; closed = refl })

-- what says nothing of stages moves no call
pub still_of : (e : Effect) → stage_change e ≡ None → IsStill e
still_of e = by_move {P = λ e. stage_change e ≡ None → IsStill e} (λ kind call stage none. absurd (cc)) (λ e still none. still) e

-- what it says of origins that were waited for hangs on the providers of calls alone
pub same_waited : (rows rows' : List Row) → ((call : ℕ) → provider_of rows' call ≡ provider_of rows call) → (e : Effect)
    → waited_change rows' e ≡ waited_change rows e
same_waited rows rows' same e =
    by_move {P = λ e. waited_change rows' e ≡ waited_change rows e} (λ kind call stage. ap (waited_from (is_window stage)) (same call))
    (λ e still. still.waited rows' ∙ sym (still.waited rows)) e

-- ---- what is so stays so

one_more : (rows : List Row) (e : Effect) (calls : List (ℕ × ⊤)) (origins : List (Origin × ⊤))
    → AreWaits (provider_of rows) (keys_of calls) (keys_of origins)
    → AreWaits (provider_of rows) (keys_of (changed nat_eq (window_change e) calls))
    (keys_of (changed same_origin (waited_change rows e) origins))
one_more rows e calls origins h =
    by_move {P = λ e. AreWaits (provider_of rows) (keys_of (changed nat_eq (window_change e) calls))
    (keys_of (changed same_origin (waited_change rows e) origins))}
    (λ kind call stage. moves_window (provider_of rows) call (is_window stage) calls origins h)
    (λ e still. subst (λ w. AreWaits (provider_of rows) (keys_of (changed nat_eq w calls))
    (keys_of (changed same_origin (waited_change rows e) origins))) (sym still.window)
    (subst (λ o. AreWaits (provider_of rows) (keys_of calls) (keys_of (changed same_origin o origins))) (sym (still.waited rows)) h)) e

all_more : (rows : List Row) (effects : List Effect) (calls : List (ℕ × ⊤)) (origins : List (Origin × ⊤))
    → AreWaits (provider_of rows) (keys_of calls) (keys_of origins)
    → AreWaits (provider_of rows) (keys_of (entries_after nat_eq window_change effects calls))
    (keys_of (entries_after same_origin (waited_change rows) effects origins))
all_more rows [] calls origins h = h
all_more rows (e ∷ effects) calls origins h =
    all_more rows effects (changed nat_eq (window_change e) calls) (changed same_origin (waited_change rows e) origins)
    (one_more rows e calls origins h)

pub are_waits : (rows before : List Row)
    → AreWaits (provider_of rows) (keys_of (standing nat_eq window_change before))
    (keys_of (standing same_origin (waited_change rows) before))
are_waits rows [] = record { reached = λ q o there at. absurd (cc); once = tt }
are_waits rows (row ∷ before) =
    all_more rows row.effects (standing nat_eq window_change before) (standing same_origin (waited_change rows) before)
    (are_waits rows before)

-- ---- one move

-- the lists after a window opens, by whether it was open, and by the call's provider
abbrev pub list_opens : Bool → Option Origin → ℕ → List (Origin × List ℕ) → List (Origin × List ℕ)
list_opens was None call lists = lists
list_opens true (Some origin) call lists = lists
list_opens false (Some origin) call lists = with_last same_origin origin call lists

-- the lists after a move, by whether the window is open from now on
abbrev pub lists_next : Bool → Option Origin → Bool → ℕ → List (Origin × List ℕ) → List (Origin × List ℕ)
lists_next was provider false call lists = all_without call lists
lists_next was provider true call lists = list_opens was provider call lists

pub lists_moved : (provider : Providers) (call : ℕ) (b : Bool) (calls : List (ℕ × ⊤)) (origins : List (Origin × ⊤))
    → AreDistinct calls → AreWaits provider (keys_of calls) (keys_of origins)
    → lists_of provider (keys_of (changed nat_eq (Some (key_change call b)) calls))
    (keys_of (changed same_origin (waited_from b (provider call)) origins))
    ≡ lists_next (has call (keys_of calls)) (provider call) b call (lists_of provider (keys_of calls) (keys_of origins))
lists_moved provider call false calls origins distinct h =
    ap (λ xs. lists_of provider xs (keys_of origins)) (keys_removed call calls distinct)
    ∙ lists_without provider call (keys_of calls) (keys_of origins)
lists_moved provider call true calls origins distinct h =
    ap (λ xs. lists_of provider xs (keys_of (changed same_origin (waited_from true (provider call)) origins)))
    (keys_insert_entry nat_eq calls call tt)
    ∙ go (has call (keys_of calls)) refl (provider call) refl
  where
    go : (was : Bool) → has call (keys_of calls) ≡ was → (found : Option Origin) → provider call ≡ found
        → lists_of provider (cond was (keys_of calls) (keys_of calls ++ call ∷ []))
        (keys_of (changed same_origin (waited_from true found) origins))
        ≡ list_opens was found call (lists_of provider (keys_of calls) (keys_of origins))
    go true there None is = refl
    go false apart None is = lists_unwaited provider call (keys_of calls) (keys_of origins) is
    go true there (Some origin) is =
        ap (lists_of provider (keys_of calls))
        (keys_insert_entry same_origin origins origin tt
        ∙ ap (λ b. cond b (keys_of origins) (keys_of origins ++ origin ∷ [])) (h.reached call origin there is))
    go false apart (Some origin) is =
        ap (lists_of provider (keys_of calls ++ call ∷ [])) (keys_insert_entry same_origin origins origin tt)
        ∙ lists_last provider call (keys_of calls) origin (keys_of origins) is h.once h.reached

-- ---- moves by which no window opens

pub lists_closed : (rows : List Row) (effects : List Effect) → OpensNone effects → (calls : List (ℕ × ⊤)) (origins : List (Origin × ⊤))
    → AreDistinct calls
    → lists_of (provider_of rows) (keys_of (entries_after nat_eq window_change effects calls))
    (keys_of (entries_after same_origin (waited_change rows) effects origins))
    ≡ lists_after effects (lists_of (provider_of rows) (keys_of calls) (keys_of origins))
lists_closed rows [] none calls origins distinct = refl
lists_closed rows (e ∷ effects) none calls origins distinct =
    by_move {P = λ e. is_opening e ≡ false
    → lists_of (provider_of rows) (keys_of (entries_after nat_eq window_change effects (changed nat_eq (window_change e) calls)))
    (keys_of (entries_after same_origin (waited_change rows) effects (changed same_origin (waited_change rows e) origins)))
    ≡ lists_after effects (lists_by e (lists_of (provider_of rows) (keys_of calls) (keys_of origins)))}
    (λ kind call stage closed.
    ap (λ b. lists_of (provider_of rows)
    (keys_of (entries_after nat_eq window_change effects (changed nat_eq (Some (key_change call b)) calls)))
    (keys_of (entries_after same_origin (waited_change rows) effects
    (changed same_origin (waited_from b (provider_of rows call)) origins)))) closed
    ∙ lists_closed rows effects none.1 (shift_remove_entry (nat_eq call) calls) origins (distinct_after_remove call calls distinct)
    ∙ ap (lists_after effects) (ap (λ xs. lists_of (provider_of rows) xs (keys_of origins)) (keys_removed call calls distinct)
    ∙ lists_without (provider_of rows) call (keys_of calls) (keys_of origins)))
    (λ e still closed.
    ap (λ w. lists_of (provider_of rows) (keys_of (entries_after nat_eq window_change effects (changed nat_eq w calls)))
    (keys_of (entries_after same_origin (waited_change rows) effects (changed same_origin (waited_change rows e) origins)))) still.window
    ∙ ap (λ o. lists_of (provider_of rows) (keys_of (entries_after nat_eq window_change effects calls))
    (keys_of (entries_after same_origin (waited_change rows) effects (changed same_origin o origins)))) (still.waited rows)
    ∙ lists_closed rows effects none.1 calls origins distinct
    ∙ ap (lists_after effects) (sym (still.lists (lists_of (provider_of rows) (keys_of calls) (keys_of origins))))) e none.0

-- ---- effects that move no call

pub opens_silent : (effects : List Effect) → AllSilent stage_change effects → OpensNone effects
opens_silent [] silent = tt
opens_silent (e ∷ effects) silent = let still = still_of e silent.0 in (still.closed, opens_silent effects silent.1)

pub opens_append : (xs ys : List Effect) → OpensNone xs → OpensNone ys → OpensNone (xs ++ ys)
opens_append [] ys h k = k
opens_append (x ∷ xs) ys h k = (h.0, opens_append xs ys h.1 k)

pub lists_silent : (effects : List Effect) → AllSilent stage_change effects → (lists : List (Origin × List ℕ))
    → lists_after effects lists ≡ lists
lists_silent [] silent lists = refl
lists_silent (e ∷ effects) silent lists =
    let still = still_of e silent.0 in
    ap (lists_after effects) (still.lists lists) ∙ lists_silent effects silent.1 lists

pub lists_after-append : (xs ys : List Effect) (lists : List (Origin × List ℕ))
    → lists_after (xs ++ ys) lists ≡ lists_after ys (lists_after xs lists)
lists_after-append [] ys lists = refl
lists_after-append (x ∷ xs) ys lists = lists_after-append xs ys (lists_by x lists)

-- ---- an outcome of a call

does_silent : (world : World) (cookies : Ask → List ℕ) (kind : CallKind) (call page : ℕ) (outcome : Outcome)
    → AllSilent stage_change (flat_map (call_effects world cookies kind call page) outcome.effects)
does_silent world cookies kind call page outcome =
    silent_call stage_change (λ n c p a k. refl) (λ c d. refl) (λ c p f. refl) (λ c p u. refl) (λ o s. refl) (λ t k. refl) (λ o k. refl) (λ c p f. refl)
    (λ w. refl) world cookies kind call page outcome.effects

-- of origins that were waited for it says what its move says
pub outcome_waited : (rows : List Row) (world : World) (cookies : Ask → List ℕ) (kind : CallKind) (call page : ℕ) (outcome : Outcome)
    (origins : List (Origin × ⊤))
    → entries_after same_origin (waited_change rows) (outcome_effects world cookies kind call page outcome) origins
    ≡ entries_after same_origin (waited_change rows) (moves kind call outcome.stage) origins
outcome_waited rows world cookies kind call page outcome origins =
    let does = flat_map (call_effects world cookies kind call page) outcome.effects in
    entries_after-append same_origin (waited_change rows) does (moves kind call outcome.stage) origins
    ∙ ap (entries_after same_origin (waited_change rows) (moves kind call outcome.stage))
    (entries_silent same_origin (waited_change rows) does origins
    (silent_call (waited_change rows) (λ n c p a k. refl) (λ c d. refl) (λ c p f. refl) (λ c p u. refl) (λ o s. refl) (λ t k. refl) (λ o k. refl)
    (λ c p f. refl) (λ w. refl) world cookies kind call page outcome.effects))

-- and so of the lists
pub outcome_lists : (world : World) (cookies : Ask → List ℕ) (kind : CallKind) (call page : ℕ) (outcome : Outcome)
    (lists : List (Origin × List ℕ))
    → lists_after (outcome_effects world cookies kind call page outcome) lists ≡ lists_after (moves kind call outcome.stage) lists
outcome_lists world cookies kind call page outcome lists =
    let does = flat_map (call_effects world cookies kind call page) outcome.effects in
    lists_after-append does (moves kind call outcome.stage) lists
    ∙ ap (lists_after (moves kind call outcome.stage)) (lists_silent does (does_silent world cookies kind call page outcome) lists)

pub outcome_closed : (world : World) (cookies : Ask → List ℕ) (kind : CallKind) (call page : ℕ) (outcome : Outcome)
    → OpensNone (moves kind call outcome.stage) → OpensNone (outcome_effects world cookies kind call page outcome)
outcome_closed world cookies kind call page outcome closed =
    opens_append (flat_map (call_effects world cookies kind call page) outcome.effects) (moves kind call outcome.stage)
    (opens_silent _ (does_silent world cookies kind call page outcome)) closed
