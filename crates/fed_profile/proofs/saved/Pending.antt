-- Where no call is pending, none waits, and what never began never moved.
use Rattle.std.proofs.Common.{◌≡◌, ℕ, Bool, true, false, nat_eq, ◌||◌, cond, List, [], ◌∷◌, filter, map, Option, Some, None, refl}
use Rattle.std.proofs.Common.{sym, ap, subst, ◌∙◌}
use Rattle.std.proofs.Common.{arith}
use Rattle.std.proofs.lemmas.Bool.Decides.{nat_tests}
use Rattle.std.specs.Prelude.{unwrap_or, is_some, option_map, ⊤}
use Rattle.std.specs.Option.{option_or}
use Rattle.std.specs.Map.{lookup, keys_of}
use Rattle.std.specs.List.{filter_map, list_any}
use Rattle.fed_origin.specs.declared.stage.Stage.{Stage}
use Rattle.fed_origin.specs.declared.stage.Stage.TheVariants as stages
use Rattle.fed_script.specs.declared.event.Header.{Header}
use Rattle.fed_status.specs.Shared.{World}
use Rattle.fed_consent.specs.declared.table.ask.Ask.{Ask}
use Rattle.fed_consent.specs.declared.table.input.Input.{Input}
use Rattle.fed_consent.specs.Outcomes.{Outcome}
use Rattle.fed_trace.specs.Begun.{Begun, CallKind, kind_asked}
use Rattle.fed_trace.specs.Call.{Known, OfGet, OfDisconnect, kind_of, page_of, stage_of, first_row, input_row}
use Rattle.fed_trace.specs.Effect.{Effect, PendingCall, begun_by, begins, last_of, call_change, stage_change, window_change, pending_from}
use Rattle.fed_trace.specs.Effect.{Time, Page, Closed, Cookie, Login, Begin, Move, Sent, Dropped, Shown, Window, Kept, Flag, Result}
use Rattle.fed_trace.specs.Effect.{Ignored}
use Rattle.fed_trace.specs.Keyed.{last_said}
use Rattle.fed_trace.specs.Known.{world_at, known_in, known_by, known_at}
use Rattle.fed_trace.specs.Row.{effects_of, cookies_with, outcome_effects, moves, input_effects, IsRun}
use Rattle.fed_trace.specs.Trace.{Row, Trace, by_kind, calls_of, begun, pending, stage_at, last_value, standing}
use Rattle.fed_trace.specs.Windows.{open_windows}
use Rattle.fed_trace.proofs.calls.Pending.{is_among, any_append}
use Rattle.fed_trace.proofs.calls.Windows.{in_window}
use Rattle.fed_trace.proofs.effects.Outcome.{moves_call}
use Rattle.fed_trace.proofs.happens.Ends.{Happens, Left, Ends, Started, Took, Resumed}
use Rattle.fed_trace.proofs.happens.Happens.{happens}
use Rattle.fed_trace.proofs.happens.Says.{own, outcome_pending}
use Rattle.fed_trace.proofs.keyed.Keyed.{IsAbsent, lookup-standing}
use Rattle.fed_trace.proofs.known.Known.{found_by}
use Rattle.fed_trace.proofs.known.Stages.{Goes}
use Rattle.fed_trace.proofs.runs.Gets.{unbegun_absent, unbegun_unknown}

-- ---- a call that never began never moved

abbrev IsUnmoved : ℕ → List Row → Type 0
IsUnmoved call [] = ⊤
IsUnmoved call (row ∷ rows) = (last_said nat_eq stage_change call row.effects ≡ None) × IsUnmoved call rows

absent_among : (call page : ℕ) (es : List (ℕ × PendingCall)) → IsAbsent call es → is_among call (calls_of page es) ≡ false
absent_among call page [] h = refl
absent_among call page (e ∷ es) h =
    let here : nat_eq call e.0 ≡ false = grind (arith, nat_tests, h) in
    let tail : IsAbsent call es = grind (arith, nat_tests, h) in
    go here (absent_among call page es tail) (nat_eq e.1.page page)
  where
    go : nat_eq call e.0 ≡ false → is_among call (calls_of page es) ≡ false → (b : Bool)
        → is_among call (map by_kind (cond b (e ∷ filter (λ c. nat_eq c.1.page page) es) (filter (λ c. nat_eq c.1.page page) es))) ≡ false
    go here rest true = ap (λ t. t || is_among call (calls_of page es)) here ∙ rest
    go here rest false = rest

never_moved : (header : Header) (rows : List Row) (call : ℕ) → IsRun header rows → list_any (nat_eq call) (begun rows) ≡ false
    → IsUnmoved call rows
never_moved header [] call run new = tt
never_moved header (row ∷ rows) call run new = (
  ap (last_said nat_eq stage_change call) run.0 ∙ unmoved (happens T row.event call),
  never_moved header rows call run.2 parts.0,
)
  where
    T : Trace
    T = record { header = header; rows = rows }

    parts : (list_any (nat_eq call) (begun rows) ≡ false) × (list_any (nat_eq call) (filter_map begun_by row.effects) ≡ false)
    parts = any_append call (begun rows) (filter_map begun_by row.effects) new

    unknown : (stage : Option Stage) → known_by stage None ≡ None
    unknown None = refl
    unknown (Some stage) = refl

    first : (b : Begun) (effects : List Effect) → nat_eq call b.call ≡ true
        → list_any (nat_eq call) (filter_map begun_by (Begin b ∷ effects)) ≡ true
    first b effects own = ap (λ t. t || list_any (nat_eq call) (filter_map begun_by effects)) own

    unmoved : Happens T row.event call → last_said nat_eq stage_change call (effects_of T row.event) ≡ None
    unmoved (Left l) = l.quiet.stage
    unmoved (Ends e) =
        let absent : IsAbsent call (pending T) = lookup-standing call_change call rows ∙ unbegun_absent rows call parts.0 in
        let apart = absent_among call e.page (pending T) absent in
        let there = e.there in
        absurd (cc)
    unmoved (Started s) =
        let is_call = s.is_call in
        let own : nat_eq call s.begun.call ≡ true = grind (arith, nat_tests, is_call) in
        let there : list_any (nat_eq call) (filter_map begun_by row.effects) ≡ true =
        ap (λ xs. list_any (nat_eq call) (filter_map begun_by xs)) (run.0 ∙ s.effects)
        ∙ first s.begun (outcome_effects (world_at T) (cookies_with T) (kind_asked s.begun.options) s.begun.call s.begun.page
        (first_row (world_at T) s.busy s.begun.origin s.begun.options)) own in
        let none = parts.1 in
        absurd (cc)
    unmoved (Took t) = let begun_it = t.begun in let none = parts.0 in absurd (cc)
    unmoved (Resumed r) =
        let none : known_at T call ≡ None =
        ap (known_by (stage_at T call)) (unbegun_unknown header rows call parts.0) ∙ unknown (stage_at T call) in
        let found = r.found in
        absurd (cc)

unmoved_last : (call : ℕ) (rows : List Row) → IsUnmoved call rows → last_value nat_eq stage_change call rows ≡ None
unmoved_last call [] h = refl
unmoved_last call (row ∷ rows) h =
    ap (λ o. unwrap_or o (last_value nat_eq stage_change call rows)) h.0 ∙ unmoved_last call rows h.1

pub unbegun_stage : (header : Header) (rows : List Row) (call : ℕ) → IsRun header rows → list_any (nat_eq call) (begun rows) ≡ false
    → last_value nat_eq stage_change call rows ≡ None
unbegun_stage header rows call run new = unmoved_last call rows (never_moved header rows call run new)

-- ---- nor does it begin

others_begin : {A : Type 0} (o : Option A) → o ≡ None → option_or o None ≡ None
others_begin o none = ap (λ x. option_or x None) none

pub unbegun_last : (call : ℕ) (effects : List Effect) → list_any (nat_eq call) (filter_map begun_by effects) ≡ false
    → last_of (begins call) effects ≡ None
unbegun_last call [] h = refl
unbegun_last call (Begin b ∷ effects) h =
    let here : nat_eq call b.call ≡ false = grind (arith, h) in
    let more : list_any (nat_eq call) (filter_map begun_by effects) ≡ false = grind (arith, h) in
    ap (λ o. option_or o (cond (nat_eq call b.call) (Some b) None)) (unbegun_last call effects more)
    ∙ ap (λ t. cond t (Some b) None) here
unbegun_last call (Time time ∷ effects) h = others_begin _ (unbegun_last call effects h)
unbegun_last call (Page page origin ∷ effects) h = others_begin _ (unbegun_last call effects h)
unbegun_last call (Closed page ∷ effects) h = others_begin _ (unbegun_last call effects h)
unbegun_last call (Cookie cookie ∷ effects) h = others_begin _ (unbegun_last call effects h)
unbegun_last call (Login origin status ∷ effects) h = others_begin _ (unbegun_last call effects h)
unbegun_last call (Move kind c stage ∷ effects) h = others_begin _ (unbegun_last call effects h)
unbegun_last call (Sent kind c provider ask cookies ∷ effects) h = others_begin _ (unbegun_last call effects h)
unbegun_last call (Dropped c provider failure ∷ effects) h = others_begin _ (unbegun_last call effects h)
unbegun_last call (Shown c dialog ∷ effects) h = others_begin _ (unbegun_last call effects h)
unbegun_last call (Window c provider url ∷ effects) h = others_begin _ (unbegun_last call effects h)
unbegun_last call (Kept triple stays ∷ effects) h = others_begin _ (unbegun_last call effects h)
unbegun_last call (Flag origin stays ∷ effects) h = others_begin _ (unbegun_last call effects h)
unbegun_last call (Result c page finish ∷ effects) h = others_begin _ (unbegun_last call effects h)
unbegun_last call (Ignored why ∷ effects) h = others_begin _ (unbegun_last call effects h)

-- ---- a call that goes on is pending

abbrev is_over : Stage → Bool
is_over stages.Ended = true
is_over stages.Reading = false
is_over stages.Gathering = false
is_over stages.Listing = false
is_over stages.Mismatch = false
is_over stages.Window = false
is_over stages.Choosing = false
is_over stages.Prompting = false
is_over stages.Asserting = false

goes_on : (k : Known) (st : Stage) → Goes st → is_over st ≡ false
goes_on k stages.Reading g = refl
goes_on k stages.Gathering g = refl
goes_on k stages.Listing g = refl
goes_on k stages.Mismatch g = refl
goes_on k stages.Window g = refl
goes_on k stages.Choosing g = refl
goes_on k stages.Prompting g = refl
goes_on k stages.Asserting g = refl
goes_on (OfGet f) stages.Ended g = absurd (let no = g.kept (OfGet f) in cc)
goes_on (OfDisconnect f) stages.Ended g = absurd (let no = g.kept (OfDisconnect f) in cc)

-- what is said of pending calls by a move to a stage
moved_on : (kind : CallKind) (q call : ℕ) (st : Stage) → is_over st ≡ false
    → last_said nat_eq call_change q (moves kind call (Some st)) ≡ None
moved_on kind q call stages.Reading h = refl
moved_on kind q call stages.Gathering h = refl
moved_on kind q call stages.Listing h = refl
moved_on kind q call stages.Mismatch h = refl
moved_on kind q call stages.Window h = refl
moved_on kind q call stages.Choosing h = refl
moved_on kind q call stages.Prompting h = refl
moved_on kind q call stages.Asserting h = refl
moved_on kind q call stages.Ended h = absurd (let no : true ≡ false = h in cc)

-- it is pending
abbrev Stands : ℕ → List Row → Type 0
Stands q rows = is_some (last_value nat_eq call_change q rows) ≡ true

abbrev GoesOn : ℕ → List Row → Type 0
GoesOn q rows = (st : Stage) → last_value nat_eq stage_change q rows ≡ Some st → is_over st ≡ false → Stands q rows

-- what a call does that goes on afterwards says nothing of pending calls
outcome_leaves : (w : World) (ck : Ask → List ℕ) (kind : CallKind) (q page : ℕ) (o : Outcome) (staged : Option Stage) (st : Stage)
    → unwrap_or (last_said nat_eq stage_change q (outcome_effects w ck kind q page o)) staged ≡ Some st → is_over st ≡ false
    → last_said nat_eq call_change q (outcome_effects w ck kind q page o) ≡ None
outcome_leaves w ck kind q page o staged st at going =
    outcome_pending w ck kind q page q o ∙ by o.stage (sym (ap (λ s. unwrap_or s staged) (moves_call w ck kind q page o q (own q))) ∙ at)
  where
    by : (m : Option Stage) → unwrap_or (option_map Some m) staged ≡ Some st → last_said nat_eq call_change q (moves kind q m) ≡ None
    by None at = refl
    by (Some s) at = let is : s ≡ st = cc in moved_on kind q q s (ap is_over is ∙ going)

-- a call that begins and goes on is pending
begun_stands : (w : World) (ck : Ask → List ℕ) (q : ℕ) (b : Begun) (o : Outcome) (before : Option PendingCall) (staged : Option Stage)
    (st : Stage) → b.call ≡ q
    → unwrap_or (last_said nat_eq stage_change q (Begin b ∷ outcome_effects w ck (kind_asked b.options) b.call b.page o)) staged ≡ Some st
    → is_over st ≡ false
    → is_some (unwrap_or (last_said nat_eq call_change q (Begin b ∷ outcome_effects w ck (kind_asked b.options) b.call b.page o)) before)
    ≡ true
begun_stands w ck q b o before staged st is at going =
    ap (λ s. is_some (unwrap_or (option_or s (cond (nat_eq q b.call) (Some (Some (pending_from b))) None)) before))
    (outcome_pending w ck (kind_asked b.options) b.call b.page q o
    ∙ by o.stage (sym (ap (λ s. unwrap_or (option_or s None) staged)
    (moves_call w ck (kind_asked b.options) b.call b.page o q same)) ∙ at))
    ∙ ap (λ t. is_some (unwrap_or (cond t (Some (Some (pending_from b))) None) before)) same
  where
    same : nat_eq q b.call ≡ true
    same = ap (nat_eq q) is ∙ own q

    by : (m : Option Stage) → unwrap_or (option_or (option_map Some m) None) staged ≡ Some st
        → last_said nat_eq call_change q (moves (kind_asked b.options) b.call m) ≡ None
    by None at = refl
    by (Some s) at = let one : s ≡ st = cc in moved_on (kind_asked b.options) q b.call s (ap is_over one ∙ going)

-- it is so after effects
abbrev PendingAfter : ℕ → List Row → List Effect → Type 0
PendingAfter q rows es = is_some (unwrap_or (last_said nat_eq call_change q es) (last_value nat_eq call_change q rows)) ≡ true

abbrev StageAfter : ℕ → List Row → Stage → List Effect → Type 0
StageAfter q rows st es = unwrap_or (last_said nat_eq stage_change q es) (last_value nat_eq stage_change q rows) ≡ Some st

goes_pending : (header : Header) (rows : List Row) → IsRun header rows → (q : ℕ) → GoesOn q rows
goes_pending header [] run q st at going = absurd (let no : None ≡ Some st = at in cc)
goes_pending header (row ∷ rows) run q st at going =
    subst (λ es. is_some (unwrap_or (last_said nat_eq call_change q es) (last_value nat_eq call_change q rows)) ≡ true) (sym run.0)
    (go (goes_pending header rows run.2 q) (happens T row.event q)
    (sym (ap (λ es. unwrap_or (last_said nat_eq stage_change q es) (last_value nat_eq stage_change q rows)) run.0) ∙ at))
  where
    T : Trace
    T = record { header = header; rows = rows }

    -- nothing is said of it
    left : GoesOn q rows → (es : List Effect) → last_said nat_eq call_change q es ≡ None → last_said nat_eq stage_change q es ≡ None
        → StageAfter q rows st es → PendingAfter q rows es
    left rec es calls stage at =
        ap (λ o. is_some (unwrap_or o (last_value nat_eq call_change q rows))) calls
        ∙ rec st (sym (ap (λ o. unwrap_or o (last_value nat_eq stage_change q rows)) stage) ∙ at) going

    -- it was known, and nothing is said of pending calls
    known : GoesOn q rows → (es : List Effect) → (k : Known) → known_at T q ≡ Some k → last_said nat_eq call_change q es ≡ None
        → PendingAfter q rows es
    known rec es k found calls =
        let f = found_by k (stage_at T q) (known_in header rows q) found in
        ap (λ o. is_some (unwrap_or o (last_value nat_eq call_change q rows))) calls
        ∙ rec (stage_of k) f.stage_is (goes_on k (stage_of k) f.going)

    taken : GoesOn q rows → (i : Input) → (k : Option Known) → known_at T q ≡ k
        → StageAfter q rows st (input_effects (world_at T) (cookies_with T) true q k i)
        → PendingAfter q rows (input_effects (world_at T) (cookies_with T) true q k i)
    taken rec i None none at = left rec (input_effects (world_at T) (cookies_with T) true q None i) refl refl at
    taken rec i (Some k) found at =
        known rec (input_effects (world_at T) (cookies_with T) true q (Some k) i) k found
        (outcome_leaves (world_at T) (cookies_with T) (kind_of k) q (page_of k) (input_row (world_at T) k i)
        (last_value nat_eq stage_change q rows) st at going)

    go : GoesOn q rows → Happens T row.event q → StageAfter q rows st (effects_of T row.event)
        → PendingAfter q rows (effects_of T row.event)
    go rec (Left l) at = left rec (effects_of T row.event) l.quiet.pending l.quiet.stage at
    go rec (Ends e) at =
        let over : Some stages.Ended ≡ Some st =
        sym (ap (λ o. unwrap_or o (last_value nat_eq stage_change q rows)) e.stage) ∙ at in
        let is : stages.Ended ≡ st = cc in
        absurd (let no : true ≡ false = ap is_over is ∙ going in cc)
    go rec (Resumed r) at = known rec (effects_of T row.event) (OfGet r.facts) r.found r.pending
    go rec (Started s) at =
        subst (PendingAfter q rows) (sym s.effects)
        (begun_stands (world_at T) (cookies_with T) q s.begun (first_row (world_at T) s.busy s.begun.origin s.begun.options)
        (last_value nat_eq call_change q rows) (last_value nat_eq stage_change q rows) st s.is_call
        (subst (StageAfter q rows st) s.effects at) going)
    go rec (Took t) at =
        subst (PendingAfter q rows) (sym t.effects) (taken rec t.input (known_at T q) refl (subst (StageAfter q rows st) t.effects at))

-- where no call is pending none is in Window
pub none_wait : (T : Trace) → IsRun T.header T.rows → pending T ≡ [] → standing nat_eq window_change T.rows ≡ []
none_wait T run none = go (standing nat_eq window_change T.rows) refl
  where
    go : (ws : List (ℕ × ⊤)) → standing nat_eq window_change T.rows ≡ ws → standing nat_eq window_change T.rows ≡ []
    go [] is = is
    go (w ∷ ws) is =
        let among : list_any (nat_eq w.0) (open_windows T) ≡ true =
        ap (λ es. list_any (nat_eq w.0) (keys_of es)) is ∙ ap (λ b. b || list_any (nat_eq w.0) (keys_of ws)) (own w.0) in
        let stands = goes_pending T.header T.rows run w.0 stages.Window (in_window T w.0 among) refl in
        let no : false ≡ true =
        ap (λ es. is_some (lookup (nat_eq w.0) es)) (sym none) ∙ ap is_some (lookup-standing call_change w.0 T.rows) ∙ stands in
        absurd (cc)
