-- The calls that wait for each origin, after each event.
use Rattle.std.proofs.Common.{◌≡◌, ℕ, Bool, true, false, nat_eq, ◌||◌, cond, List, [], ◌∷◌, ◌++◌, Option, Some, None, refl, sym, ap, ◌∙◌}
use Rattle.std.proofs.Common.{arith}
use Rattle.std.proofs.lemmas.Bool.Decides.{nat_tests}
use Rattle.std.specs.Prelude.{filter, is_some, option_and_then, ⊤}
use Rattle.std.specs.Map.{keys_of}
use Rattle.fed_origin.specs.declared.origin.Origin.{Origin}
use Rattle.fed_origin.specs.declared.stage.Stage.{Stage}
use Rattle.fed_origin.specs.declared.stage.Stage.TheVariants as stages
use Rattle.fed_origin.specs.Origin.{same_origin}
use Rattle.fed_script.specs.declared.event.Event.{Event}
use Rattle.fed_consent.specs.Outcomes.{Outcome}
use Rattle.fed_table.specs.Lists.{has, all_without, all_without_calls}
use Rattle.fed_table.specs.Table.{waiting_for}
use Rattle.fed_trace.specs.Begun.{CallKind}
use Rattle.fed_trace.specs.Call.{Known, OfGet, OfDisconnect, stage_of}
use Rattle.fed_trace.specs.Effect.{Effect, is_window, stage_change, window_change, last_of, begins}
use Rattle.fed_trace.specs.Keyed.{Change, entries_after}
use Rattle.fed_trace.specs.Known.{known_in}
use Rattle.fed_trace.specs.Row.{effects_of, with_event, cookies_with, ends_of, moves, outcome_effects}
use Rattle.fed_trace.specs.Trace.{Row, Trace, standing, stage_at}
use Rattle.fed_trace.specs.Windows.{open_windows, origins_waited, provider_asked, provider_of, is_origin, waited_change, windows_of}
use Rattle.fed_trace.proofs.calls.Windows.{open_at, provider_same, window_value}
use Rattle.fed_trace.proofs.effects.Outcome.{outcome_windows}
use Rattle.fed_trace.proofs.effects.Silent.{AllSilent}
use Rattle.fed_trace.proofs.keyed.Keyed.{distinct_standing, lookup-standing}
use Rattle.fed_trace.proofs.known.Asked.{asked, provider_known}
use Rattle.fed_trace.proofs.known.Facts.{staged}
use Rattle.std.proofs.lemmas.Map.Made.{is_some-lookup}
use Rattle.fed_trace.specs.Known.{world_at}
use Rattle.fed_session.specs.Session.{numbers_in, windows}
use Rattle.fed_session.specs.StepParts.{awaits}
use Rattle.fed_session.specs.Tabs.{waits_next}
use Rattle.fed_session.proofs.waits.Lists.{Providers, lists_of, lists_apart, lists_unwaiting, all_without-first, all_without-none}
use Rattle.fed_session.proofs.waits.Lists as lists
use Rattle.fed_session.proofs.waits.Moves.{AreWaits, are_waits, OpensNone, lists_after, lists_closed, lists_silent, opens_silent}
use Rattle.fed_session.proofs.waits.Moves.{outcome_waited, lists_next, lists_moved, same_waited}
use Rattle.fed_session.proofs.waits.Unmoved.{IsUnmoved, same_standing, unmoved_stage}

-- ---- what is so of a trace

pub waits_of : (T : Trace) → AreWaits (provider_of T.rows) (open_windows T) (origins_waited T)
waits_of T = are_waits T.rows T.rows

-- the calls that wait for an origin are those of its list
pub waiting_at : (T : Trace) (origin : Origin) → waiting_for (windows T) origin ≡ windows_of T origin
waiting_at T origin =
    let h = waits_of T in lists.waiting_is (provider_of T.rows) (open_windows T) origin (origins_waited T) h.reached

-- the window of a call is open where it is in Window
pub is_open : (T : Trace) (call : ℕ) → has call (open_windows T) ≡ is_some (open_at (stage_at T call))
is_open T call =
    sym (is_some-lookup (nat_eq call) (standing nat_eq window_change T.rows))
    ∙ ap is_some (lookup-standing window_change call T.rows ∙ window_value call T.rows)

-- ---- an event by which no call begins

pub windows_turn : (T : Trace) (line : ℕ) (event : Event) → ((q : ℕ) → last_of (begins q) (effects_of T event) ≡ None)
    → windows (with_event T line event)
    ≡ lists_of (provider_of T.rows) (keys_of (entries_after nat_eq window_change (effects_of T event)
    (standing nat_eq window_change T.rows)))
    (keys_of (entries_after same_origin (waited_change T.rows) (effects_of T event) (standing same_origin (waited_change T.rows) T.rows)))
windows_turn T line event none =
    ap (λ (change : Effect → Option (Change Origin ⊤)). lists_of (provider_of after) calls
    (keys_of (entries_after same_origin change (effects_of T event) (standing same_origin change T.rows))))
    (λ i e. same_waited T.rows after same e i)
    ∙ ap (λ (provider : Providers). lists_of provider calls
    (keys_of (entries_after same_origin (waited_change T.rows) (effects_of T event) (standing same_origin (waited_change T.rows) T.rows))))
    (λ i q. same q i)
  where
    after : List Row
    after = (with_event T line event).rows

    calls : List ℕ
    calls = keys_of (entries_after nat_eq window_change (effects_of T event) (standing nat_eq window_change T.rows))

    same : (q : ℕ) → provider_of after q ≡ provider_of T.rows q
    same q = provider_same T line event q (none q)

-- and no window opens
pub windows_close : (T : Trace) (line : ℕ) (event : Event) → ((q : ℕ) → last_of (begins q) (effects_of T event) ≡ None)
    → OpensNone (effects_of T event)
    → windows (with_event T line event) ≡ lists_after (effects_of T event) (windows T)
windows_close T line event none closed =
    windows_turn T line event none
    ∙ lists_closed T.rows (effects_of T event) closed (standing nat_eq window_change T.rows)
    (standing same_origin (waited_change T.rows) T.rows)
    (distinct_standing window_change T.rows)

-- and no call moves
pub windows_still : (T : Trace) (line : ℕ) (event : Event) → ((q : ℕ) → last_of (begins q) (effects_of T event) ≡ None)
    → AllSilent stage_change (effects_of T event) → windows (with_event T line event) ≡ windows T
windows_still T line event none silent =
    windows_close T line event none (opens_silent (effects_of T event) silent) ∙ lists_silent (effects_of T event) silent (windows T)

-- ---- calls end with their page

opens_ended : (calls : List (ℕ × CallKind)) (rest : List Effect) → OpensNone rest → OpensNone (ends_of calls ++ rest)
opens_ended [] rest closed = closed
opens_ended (c ∷ calls) rest closed = (refl, opens_ended calls rest closed)

lists_ended : (calls : List (ℕ × CallKind)) (rest : List Effect) → AllSilent stage_change rest → (ls : List (Origin × List ℕ))
    → lists_after (ends_of calls ++ rest) ls ≡ all_without_calls (numbers_in calls) ls
lists_ended [] rest silent ls = lists_silent rest silent ls ∙ sym (all_without-none ls)
lists_ended (c ∷ calls) rest silent ls =
    lists_ended calls rest silent (all_without c.0 ls) ∙ sym (all_without-first c.0 (numbers_in calls) ls)

pub windows_end : (T : Trace) (line : ℕ) (event : Event) (calls : List (ℕ × CallKind)) (rest : List Effect)
    → ((q : ℕ) → last_of (begins q) (effects_of T event) ≡ None) → effects_of T event ≡ ends_of calls ++ rest → AllSilent stage_change rest
    → windows (with_event T line event) ≡ all_without_calls (numbers_in calls) (windows T)
windows_end T line event calls rest none is silent =
    windows_turn T line event none
    ∙ ap (λ es. lists_of (provider_of T.rows) (keys_of (entries_after nat_eq window_change es (standing nat_eq window_change T.rows)))
    (keys_of (entries_after same_origin (waited_change T.rows) es (standing same_origin (waited_change T.rows) T.rows)))) is
    ∙ lists_closed T.rows (ends_of calls ++ rest) (opens_ended calls rest (opens_silent rest silent)) (standing nat_eq window_change T.rows)
    (standing same_origin (waited_change T.rows) T.rows) (distinct_standing window_change T.rows)
    ∙ lists_ended calls rest silent (windows T)

-- ---- an input of a call

-- the lists after a call comes to a stage, or stays
abbrev pub lists_staged : Bool → Option Origin → Option Stage → ℕ → List (Origin × List ℕ) → List (Origin × List ℕ)
lists_staged was provider None call ls = ls
lists_staged was provider (Some stage) call ls = lists_next was provider (is_window stage) call ls

pub windows_input : (T : Trace) (line : ℕ) (event : Event) (kind : CallKind) (call page : ℕ) (outcome : Outcome)
    → ((q : ℕ) → last_of (begins q) (effects_of T event) ≡ None)
    → effects_of T event ≡ outcome_effects (world_at T) (cookies_with T) kind call page outcome
    → windows (with_event T line event)
    ≡ lists_staged (has call (open_windows T)) (provider_of T.rows call) outcome.stage call (windows T)
windows_input T line event kind call page outcome none is =
    windows_turn T line event none
    ∙ ap (λ es. lists_of (provider_of T.rows) (keys_of (entries_after nat_eq window_change es opened))
    (keys_of (entries_after same_origin (waited_change T.rows) es reached))) is
    ∙ ap (λ xs. lists_of (provider_of T.rows) (keys_of xs)
    (keys_of (entries_after same_origin (waited_change T.rows) (outcome_effects (world_at T) (cookies_with T) kind call page outcome)
    reached)))
    (outcome_windows (world_at T) (cookies_with T) kind call page outcome opened)
    ∙ ap (λ xs. lists_of (provider_of T.rows) (keys_of (entries_after nat_eq window_change (moves kind call outcome.stage) opened))
    (keys_of xs)) (outcome_waited T.rows (world_at T) (cookies_with T) kind call page outcome reached)
    ∙ go outcome.stage
  where
    opened : List (ℕ × ⊤)
    opened = standing nat_eq window_change T.rows

    reached : List (Origin × ⊤)
    reached = standing same_origin (waited_change T.rows) T.rows

    go : (stage : Option Stage)
        → lists_of (provider_of T.rows) (keys_of (entries_after nat_eq window_change (moves kind call stage) opened))
        (keys_of (entries_after same_origin (waited_change T.rows) (moves kind call stage) reached))
        ≡ lists_staged (has call (open_windows T)) (provider_of T.rows call) stage call (windows T)
    go None = refl
    go (Some stage) =
        lists_moved (provider_of T.rows) call (is_window stage) opened reached (distinct_standing window_change T.rows) (waits_of T)

-- ---- what the session keeps of a call that waits

-- the origin that a call at this stage waits for
pub awaits_at : (stage : Stage) (known : Known) → awaits (staged stage known) ≡ cond (is_window stage) (provider_asked (asked known)) None
awaits_at stages.Window (OfGet facts) = refl
awaits_at stages.Reading (OfGet facts) = refl
awaits_at stages.Listing (OfGet facts) = refl
awaits_at stages.Gathering (OfGet facts) = refl
awaits_at stages.Mismatch (OfGet facts) = refl
awaits_at stages.Choosing (OfGet facts) = refl
awaits_at stages.Prompting (OfGet facts) = refl
awaits_at stages.Asserting (OfGet facts) = refl
awaits_at stages.Ended (OfGet facts) = refl
awaits_at stage (OfDisconnect facts) = go (is_window stage)
  where
    go : (b : Bool) → ◌≡◌ {A = Option Origin} None (cond b None None)
    go true = refl
    go false = refl

-- a call that is known asked this provider
pub asked_provider : (T : Trace) (call : ℕ) (known before : Known) → known_in T.header T.rows call ≡ Some before
    → known ≡ staged (stage_of known) before → provider_of T.rows call ≡ provider_asked (asked known)
asked_provider T call known before found is =
    sym (provider_known T.header T.rows call) ∙ ap (option_and_then (λ k. provider_asked (asked k))) found
    ∙ same before ∙ sym (ap (λ k. provider_asked (asked k)) is)
  where
    same : (k : Known) → provider_asked (asked k) ≡ provider_asked (asked (staged (stage_of known) k))
    same (OfGet facts) = refl
    same (OfDisconnect facts) = refl

-- what the table does at a move is what becomes of the lists
pub waits_moved : (T : Trace) (call : ℕ) (provider : Option Origin) (was opens : Bool) → provider_of T.rows call ≡ provider
    → has call (open_windows T) ≡ was
    → waits_next (is_some (cond was provider None)) call (cond opens provider None) (windows T)
    ≡ lists_next was provider opens call (windows T)
waits_moved T call None true true at is = refl
waits_moved T call None false true at is = refl
waits_moved T call None true false at is = sym (lists_unwaiting (provider_of T.rows) call (open_windows T) (origins_waited T) at)
waits_moved T call None false false at is = sym (lists_unwaiting (provider_of T.rows) call (open_windows T) (origins_waited T) at)
waits_moved T call (Some origin) true true at is = refl
waits_moved T call (Some origin) true false at is = refl
waits_moved T call (Some origin) false true at is = refl
waits_moved T call (Some origin) false false at is = sym (lists_apart (provider_of T.rows) call (open_windows T) (origins_waited T) is)

-- a call that stays at its stage stays where it waits
pub waits_same : (call : ℕ) (origin : Option Origin) (ls : List (Origin × List ℕ)) → waits_next (is_some origin) call origin ls ≡ ls
waits_same call None ls = refl
waits_same call (Some origin) ls = refl

-- ---- a call begins

-- what hangs on the providers of these calls alone
pub lists_agree : (provider provider' : Providers) (calls : List ℕ) (origins : List Origin)
    → ((call : ℕ) → has call calls ≡ true → provider' call ≡ provider call)
    → lists_of provider' calls origins ≡ lists_of provider calls origins
lists_agree provider provider' calls [] same = refl
lists_agree provider provider' calls (o ∷ origins) same =
    let here = each calls same in
    let rest = lists_agree provider provider' calls origins same in
    λ i. (o, here i) ∷ rest i
  where
    each : (xs : List ℕ) → ((call : ℕ) → has call xs ≡ true → provider' call ≡ provider call)
        → filter (λ c. is_origin o (provider' c)) xs ≡ filter (λ c. is_origin o (provider c)) xs
    each [] same = refl
    each (x ∷ xs) same =
        let own : nat_eq x x ≡ true = grind (arith, nat_tests) in
        let first : provider' x ≡ provider x = same x (ap (λ b. b || has x xs) own) in
        let rest = each xs (λ c there. same c (more c (nat_eq c x) there)) in
        ap (λ p. cond (is_origin o p) (x ∷ filter (λ c. is_origin o (provider' c)) xs) (filter (λ c. is_origin o (provider' c)) xs)) first
        ∙ ap (λ ys. cond (is_origin o (provider x)) (x ∷ ys) ys) rest
      where
        more : (c : ℕ) (b : Bool) → has c xs ≡ true → b || has c xs ≡ true
        more c true there = refl
        more c false there = there

-- a call that never moved begins, and comes to a stage at which no window is open
pub windows_begin : (T : Trace) (line : ℕ) (event : Event) (call : ℕ)
    → ((q : ℕ) → nat_eq call q ≡ false → last_of (begins q) (effects_of T event) ≡ None) → IsUnmoved call T.rows
    → OpensNone (effects_of T event) → lists_after (effects_of T event) (windows T) ≡ all_without call (windows T)
    → windows (with_event T line event) ≡ windows T
windows_begin T line event call none unmoved closed goes =
    lists_closed after (effects_of T event) closed (standing nat_eq window_change T.rows)
    (standing same_origin (waited_change after) T.rows)
    (distinct_standing window_change T.rows)
    ∙ ap (λ os. lists_after (effects_of T event) (lists_of (provider_of after) (open_windows T) (keys_of os)))
    (same_standing call T.rows after same T.rows unmoved)
    ∙ ap (lists_after (effects_of T event))
    (lists_agree (provider_of T.rows) (provider_of after) (open_windows T) (origins_waited T) (λ q there. same q (other q there)))
    ∙ goes ∙ lists_apart (provider_of T.rows) call (open_windows T) (origins_waited T) closed_call
  where
    after : List Row
    after = (with_event T line event).rows

    same : (q : ℕ) → nat_eq call q ≡ false → provider_of after q ≡ provider_of T.rows q
    same q ne = provider_same T line event q (none q ne)

    closed_call : has call (open_windows T) ≡ false
    closed_call = is_open T call ∙ ap (λ stage. is_some (open_at stage)) (unmoved_stage call T.rows unmoved)

    other : (q : ℕ) → has q (open_windows T) ≡ true → nat_eq call q ≡ false
    other q there = go (nat_eq call q) refl
      where
        go : (b : Bool) → nat_eq call q ≡ b → b ≡ false
        go true is =
            let key : call ≡ q = grind (arith, nat_tests, is) in
            let mine : has call (open_windows T) ≡ true = ap (λ k. has k (open_windows T)) key ∙ there in
            let none = closed_call in
            absurd (cc)
        go false is = refl
