-- A run of a script stops where it is quiet no longer.
use Rattle.std.proofs.Common.{◌≡◌, ◌≢◌, ℕ, zero, suc, ◌+◌, ◌-◌, ◌*◌, ◌^◌, ◌<◌, ◌≤◌, Bool, true}
use Rattle.std.proofs.Common.{false, cond, ◌||◌, nat_eq, List, [], ◌∷◌}
use Rattle.std.proofs.Common.{length, map, Option, Some, None, refl, sym, ap, ap₂, subst, ◌∙◌, arith, lit≤, zero-le}
use Rattle.std.proofs.Common.{length-append, get_or}
use Rattle.std.proofs.Common.{drop, add-one, drop-cons}
use Rattle.std.proofs.lemmas.Bool.{eq-eqb, ne_eqb, eqb-true, eqb-false, false≢true}
use Rattle.std.proofs.lemmas.List.{length-map, drop_all}
use Rattle.std.proofs.lemmas.List.Sums.{length-filter, count_by-le-length}
use Rattle.std.specs.Prelude.{filter, if◌then◌else◌}
use Rattle.std.specs.List.{list_any, filter_map, cons_option}
use Rattle.fed_consent.specs.declared.table.ask.Ask.{Ask}
use Rattle.fed_consent.specs.declared.table.ask.Ask.TheVariants as asks
use Rattle.fed_consent.specs.Ask.{kind_of}
use Rattle.fed_request.specs.Request.{request_bytes}
use Rattle.fed_script.specs.declared.event.Event.{Event}
use Rattle.fed_script.specs.declared.event.Event.TheVariants as events
use Rattle.fed_script.specs.declared.event.Numbered.{Numbered}
use Rattle.fed_script.specs.Script.{Script, IsRead, AreRead}
use Rattle.fed_script.specs.Used.{UsedState, unused, used_after, IsUnused, HasProviders, HasKnownStatus}
use Rattle.fed_trace.specs.declared.out.Out.{Out}
use Rattle.fed_trace.specs.declared.out.Out.TheVariants.{Request}
use Rattle.fed_trace.specs.Effect.{Effect, Sent}
use Rattle.fed_trace.specs.OfScript.{start, with_events}
use Rattle.fed_trace.specs.Records.{records_of, records}
use Rattle.fed_trace.specs.Row.{effects_of, row_of, with_event}
use Rattle.fed_session.specs.Session.{State, Stands, IsFresh}
use Rattle.fed_trace.specs.Trace.{Trace, begun}
use Rattle.fed_trace.specs.Windows.{open_windows}
use Rattle.fed_trace.proofs.runs.Untaken.{IsUntaken, untaken_after}
use Rattle.fed_twin.specs.Compare.{IsQuietLength, QuietRun, is_naming_kind, is_naming_record, is_first_kind, is_first_record, get_count}
use Rattle.fed_twin.specs.Compare.{quiet_count, quiet_requests}
use Rattle.fed_twin.specs.Script.{is_kept, kept_events, up_to, is_disconnect, first_bytes, first_sent, first_requests, is_naming, names}
use Rattle.fed_twin.specs.Script.{is_loud, AreQuiet, Quiet, sign_in}
use Rattle.fed_twin.specs.Twin.{Twin}
use Rattle.fed_twin.proofs.compared.Requests.{few_requests, few_windows}
use Rattle.fed_twin.proofs.compared.Sends.{first_any, sends_gets, sends_none}
use Rattle.fed_twin.proofs.twins.Self.{quiet_before}
use Rattle.fed_twin.proofs.worlds.Worlds.{two_worlds_lem}

-- ---- the records of a row tell whom it asks

naming_ask : (ask : Ask) → is_naming_kind (kind_of ask) ≡ is_naming ask
naming_ask (asks.WellKnown to) = refl
naming_ask (asks.Config to) = refl
naming_ask (asks.Accounts to) = refl
naming_ask (asks.Metadata to client origin) = refl
naming_ask (asks.Assertion ask) = refl
naming_ask (asks.Disconnect to client hint origin) = refl

naming_records : (line : ℕ) (effects : List Effect) → list_any is_naming_record (records_of line effects) ≡ list_any names effects
unfolding is_naming_record
naming_records line [] = refl
naming_records line (Sent kind call provider ask cookies ∷ effects) =
    ap₂ (λ x y. x || y) (naming_ask ask) (naming_records line effects)
naming_records line (effect ∷ effects) = naming_records line effects

first_ask : (ask : Ask) (cookies : List ℕ) (out : Out) (outs : List Out) (xs : List (List ℕ)) → length outs ≡ length xs
    → length (cond (is_first_kind (kind_of ask)) (out ∷ outs) outs) ≡ length (cons_option (first_bytes ask cookies) xs)
first_ask (asks.WellKnown to) cookies out outs xs is = ap suc is
first_ask (asks.Config to) cookies out outs xs is = ap suc is
first_ask (asks.Accounts to) cookies out outs xs is = ap suc is
first_ask (asks.Metadata to client origin) cookies out outs xs is = is
first_ask (asks.Assertion ask) cookies out outs xs is = is
first_ask (asks.Disconnect to client hint origin) cookies out outs xs is = is

first_records : (line : ℕ) (effects : List Effect)
    → length (filter is_first_record (records_of line effects)) ≡ length (filter_map first_any effects)
unfolding is_first_record
first_records line [] = refl
first_records line (Sent kind call provider ask cookies ∷ effects) =
    first_ask ask cookies (Request line call provider (kind_of ask) (request_bytes ask cookies))
    (filter is_first_record (records_of line effects)) (filter_map first_any effects) (first_records line effects)
first_records line (effect ∷ effects) = first_records line effects

gets_counted : (T : Trace) (line : ℕ) (event : Event)
    → get_count event (records (row_of T line event)) ≡ length (filter_map first_sent (effects_of T event))
gets_counted T line event = go (is_disconnect event) refl
  where
    go : (b : Bool) → is_disconnect event ≡ b
        → cond b 0 (length (filter is_first_record (records (row_of T line event))))
        ≡ length (filter_map first_sent (effects_of T event))
    go true is = ap length (sym (sends_none T event is))
    go false is = first_records line (effects_of T event) ∙ ap length (sym (sends_gets T event is))

pub count_of_row : (T : Trace) (line : ℕ) (event : Event)
    → quiet_count event (records (row_of T line event)) ≡ quiet_requests (row_of T line event)
count_of_row T line event =
    ap₂ (λ b n. cond b None (Some n)) (naming_records line (effects_of T event)) (gets_counted T line event)

-- ---- a run, and where it stops

-- the trace with an event more
abbrev after : Trace → Numbered → Trace
after T n = with_event T n.line n.event

-- how many sign-in requests were sent
abbrev requests_of : Trace → ℕ
requests_of T = length (first_requests T.rows)

-- the kept events and the sign-in requests of a run, by those so far
pub run : Trace → List Numbered → ℕ → ℕ → ℕ → ℕ × ℕ
run T [] most kept sent = (kept, sent)
run T (n ∷ ns) most kept sent =
    if nat_eq kept most then (kept, sent)
    else (if is_loud (row_of T n.line n.event) then (kept, sent)
    else (if is_kept n.event then run (after T n) ns most (kept + 1) (requests_of (after T n))
    else run (after T n) ns most kept sent))

-- the requests up to the last of so many further kept events
sent_after : Trace → List Numbered → ℕ → ℕ → ℕ
sent_after T ns sent zero = sent
sent_after T ns sent (suc k) = requests_of (with_events T (up_to (suc k) ns))

-- the run goes on from here by so many kept events, and no further
record Further (T : Trace) (ns : List Numbered) (most kept sent : ℕ) (found : ℕ × ℕ) : Type 0 where
  more : ℕ
  count : found.0 ≡ kept + more
  few : kept + more ≤ most
  within : more ≤ length (kept_events ns)
  quiet : AreQuiet (with_events T (up_to more ns)).rows
  greatest : (k : ℕ) → kept + k ≤ most → k ≤ length (kept_events ns) → AreQuiet (with_events T (up_to k ns)).rows → k ≤ more
  requests : found.1 ≡ sent_after T ns sent more

-- what is quiet after some events was quiet before them
quiet_start : (T : Trace) (ns : List Numbered) → AreQuiet (with_events T ns).rows → AreQuiet T.rows
quiet_start T [] h = h
quiet_start T (n ∷ ns) h = (quiet_start (after T n) ns h).1

-- no kept event can follow
stops : (T : Trace) (ns : List Numbered) (most kept sent : ℕ) → kept ≤ most → AreQuiet T.rows
    → ((k : ℕ) → kept + suc k ≤ most → suc k ≤ length (kept_events ns) → AreQuiet
    (with_events T (up_to (suc k) ns)).rows → ⊥)
    → Further T ns most kept sent (kept, sent)
unfolding sent_after
stops T ns most kept sent few quiet over =
    record {
      more = 0;
      count = omega arith;
      few = omega (arith, few);
      within = zero-le;
      quiet = quiet;
      greatest = at_most;
      requests = refl;
    }
  where
    at_most : (k : ℕ) → kept + k ≤ most → k ≤ length (kept_events ns) → AreQuiet (with_events T (up_to k ns)).rows → k ≤ 0
    at_most zero fits here so = lit≤ tt
    at_most (suc k) fits here so = absurd (over k fits here so)

module _ (T : Trace) (n : Numbered) (ns : List Numbered) where
  -- an event that is kept is the first of those that follow
  up_to-kept : is_kept n.event ≡ true → (k : ℕ) → with_events T (up_to (suc k) (n ∷ ns)) ≡ with_events (after T n) (up_to k ns)
  up_to-kept is k = ap (λ b. with_events (after T n) (up_to (cond b k (suc k)) ns)) is

  up_to-skipped : is_kept n.event ≡ false → (k : ℕ)
      → with_events T (up_to (suc k) (n ∷ ns)) ≡ with_events (after T n) (up_to (suc k) ns)
  up_to-skipped is k = ap (λ b. with_events (after T n) (up_to (cond b k (suc k)) ns)) is

  kept_events-kept : is_kept n.event ≡ true → length (kept_events (n ∷ ns)) ≡ suc (length (kept_events ns))
  kept_events-kept is = ap (λ b. length (cond b (n.event ∷ kept_events ns) (kept_events ns))) is

  kept_events-skipped : is_kept n.event ≡ false → length (kept_events (n ∷ ns)) ≡ length (kept_events ns)
  kept_events-skipped is = ap (λ b. length (cond b (n.event ∷ kept_events ns) (kept_events ns))) is

-- the requests up to a kept event, and then up to later ones
sent_after-all : (T : Trace) (ns : List Numbered) (k : ℕ)
    → sent_after T ns (requests_of T) k ≡ requests_of (with_events T (up_to k ns))
unfolding sent_after
sent_after-all T ns zero = refl
sent_after-all T ns (suc k) = refl

-- over an event that is kept
over_kept : (T : Trace) (n : Numbered) (ns : List Numbered) (most kept sent : ℕ) (found : ℕ × ℕ) → is_kept n.event ≡ true
    → Further (after T n) ns most (kept + 1) (requests_of (after T n)) found → Further T (n ∷ ns) most kept sent found
unfolding sent_after
over_kept T n ns most kept sent found is h =
    let many = kept_events-kept T n ns is in
    record {
      more = suc h.more;
      count = omega (arith, h.count);
      few = omega (arith, h.few);
      within = omega (arith, many, h.within);
      quiet = subst (λ U. AreQuiet U.rows) (sym (up_to-kept T n ns is h.more)) h.quiet;
      greatest = at_most many;
      requests = h.requests ∙ sent_after-all (after T n) ns h.more ∙ ap (λ U. requests_of U) (sym (up_to-kept T n ns is h.more));
    }
  where
    at_most : length (kept_events (n ∷ ns)) ≡ suc (length (kept_events ns))
        → (k : ℕ) → kept + k ≤ most → k ≤ length (kept_events (n ∷ ns))
        → AreQuiet (with_events T (up_to k (n ∷ ns))).rows → k ≤ suc h.more
    at_most many zero fits here so = zero-le
    at_most many (suc k) fits here so =
        let below = h.greatest k (omega (arith, fits)) (omega (arith, many, here))
        (subst (λ U. AreQuiet U.rows) (up_to-kept T n ns is k) so) in
        omega (arith, below)

-- over an event that is not
over_skipped : (T : Trace) (n : Numbered) (ns : List Numbered) (most kept sent : ℕ) (found : ℕ × ℕ) → is_kept n.event ≡ false
    → AreQuiet T.rows
    → Further (after T n) ns most kept sent found → Further T (n ∷ ns) most kept sent found
unfolding sent_after
over_skipped T n ns most kept sent found is before h =
    let many = kept_events-skipped T n ns is in
    record {
      more = h.more;
      count = h.count;
      few = h.few;
      within = omega (arith, many, h.within);
      quiet = quiet_by h.more h.quiet;
      greatest = at_most many;
      requests = h.requests ∙ sent_by h.more;
    }
  where
    quiet_by : (k : ℕ) → AreQuiet (with_events (after T n) (up_to k ns)).rows → AreQuiet (with_events T (up_to k (n ∷ ns))).rows
    quiet_by zero so = before
    quiet_by (suc k) so = subst (λ U. AreQuiet U.rows) (sym (up_to-skipped T n ns is k)) so

    sent_by : (k : ℕ) → sent_after (after T n) ns sent k ≡ sent_after T (n ∷ ns) sent k
    sent_by zero = refl
    sent_by (suc k) = ap (λ U. requests_of U) (sym (up_to-skipped T n ns is k))

    at_most : length (kept_events (n ∷ ns)) ≡ length (kept_events ns)
        → (k : ℕ) → kept + k ≤ most → k ≤ length (kept_events (n ∷ ns))
        → AreQuiet (with_events T (up_to k (n ∷ ns))).rows → k ≤ h.more
    at_most many zero fits here so = zero-le
    at_most many (suc k) fits here so =
        h.greatest (suc k) fits (omega (arith, many, here)) (subst (λ U. AreQuiet U.rows) (up_to-skipped T n ns is k) so)

further : (ns : List Numbered) (T : Trace) (most kept sent : ℕ) → kept ≤ most → AreQuiet T.rows
    → Further T ns most kept sent (run T ns most kept sent)
unfolding run
further [] T most kept sent few quiet = stops T [] most kept sent few quiet (λ k fits here so. absurd (omega (arith, here)))
further (n ∷ ns) T most kept sent few quiet =
    go (nat_eq kept most) refl (is_loud (row_of T n.line n.event)) refl (is_kept n.event) refl
    (further ns (after T n) most (kept + 1) (requests_of (after T n)))
    (further ns (after T n) most kept sent)
  where
    go : (full : Bool) → nat_eq kept most ≡ full → (loud : Bool) → is_loud (row_of T n.line n.event) ≡ loud → (is_one : Bool)
        → is_kept n.event ≡ is_one
        → (kept + 1 ≤ most → AreQuiet (after T n).rows
        → Further (after T n) ns most (kept + 1) (requests_of (after T n)) (run (after T n) ns most (kept + 1) (requests_of (after T n))))
        → (kept ≤ most → AreQuiet (after T n).rows → Further (after T n) ns most kept sent (run (after T n) ns most kept sent))
        → Further T (n ∷ ns) most kept sent
        (cond full (kept, sent)
        (cond loud (kept, sent)
        (cond is_one (run (after T n) ns most (kept + 1) (requests_of (after T n))) (run (after T n) ns most kept sent))))
    go true is loud sound is_one one taken passed =
        let full : kept ≡ most = eqb-true kept most is in
        stops T (n ∷ ns) most kept sent few quiet (λ k fits here so. absurd (omega (arith, full, fits)))
    go false is true sound is_one one taken passed =
        stops T (n ∷ ns) most kept sent few quiet
        (λ k fits here so. absurd (false≢true
        (sym (quiet_start (after T n) (up_to (cond (is_kept n.event) k (suc k)) ns) so).0 ∙ sound)))
    go false is false sound true one taken passed =
        let apart : kept ≢ most = eqb-false kept most is in
        over_kept T n ns most kept sent _ one (taken (omega (arith, apart, few)) (sound, quiet))
    go false is false sound false one taken passed = over_skipped T n ns most kept sent _ one quiet (passed few (sound, quiet))

-- the run from the beginning
pub run_is_quiet : (s : Script) (most : ℕ) → IsRead s → QuietRun s most (run (start s.header) s.events most 0 0)
unfolding sent_after
run_is_quiet s most read =
    let h = further s.events (start s.header) most 0 0 zero-le tt in
    let is : h.more ≡ (run (start s.header) s.events most 0 0).0 = omega (arith, h.count) in
    let few = h.few in
    record {
      read = read;
      few = omega (arith, is, few);
      within = subst (λ k. k ≤ length (kept_events s.events)) is h.within;
      quiet = subst (Quiet s) is h.quiet;
      greatest = λ k fits here so. subst (λ m. k ≤ m) is (h.greatest k (omega (arith, fits)) here so);
      sent = h.requests ∙ from_start h.more ∙ ap (λ k. length (sign_in s k)) is;
    }
  where
    from_start : (k : ℕ) → sent_after (start s.header) s.events 0 k ≡ length (sign_in s k)
    from_start zero = refl
    from_start (suc k) = refl

-- over an event
module _ (T : Trace) (n : Numbered) (ns : List Numbered) (most kept sent : ℕ) where
  run-quiet : kept ≢ most → is_loud (row_of T n.line n.event) ≡ false
      → run T (n ∷ ns) most kept sent
      ≡ cond (is_kept n.event) (run (after T n) ns most (kept + 1) (requests_of (after T n))) (run (after T n) ns most kept sent)
  unfolding run
  run-quiet apart quiet =
      let here : ℕ × ℕ = (kept, sent) in
      let one = run (after T n) ns most (kept + 1) (requests_of (after T n)) in
      let other = run (after T n) ns most kept sent in
      ap₂ (λ b l. cond b here (cond l here (cond (is_kept n.event) one other))) (ne_eqb kept most apart) quiet

  run-loud : kept ≢ most → is_loud (row_of T n.line n.event) ≡ true → run T (n ∷ ns) most kept sent ≡ (kept, sent)
  unfolding run
  run-loud apart loud =
      let here : ℕ × ℕ = (kept, sent) in
      let one = run (after T n) ns most (kept + 1) (requests_of (after T n)) in
      let other = run (after T n) ns most kept sent in
      ap₂ (λ b l. cond b here (cond l here (cond (is_kept n.event) one other))) (ne_eqb kept most apart) loud

-- after all kept events
run-full : (T : Trace) (ns : List Numbered) (most kept sent : ℕ) → kept ≡ most → run T ns most kept sent ≡ (kept, sent)
unfolding run
run-full T [] most kept sent full = refl
run-full T (n ∷ ns) most kept sent full =
    let here : ℕ × ℕ = (kept, sent) in
    let one = run (after T n) ns most (kept + 1) (requests_of (after T n)) in
    let other = run (after T n) ns most kept sent in
    ap (λ b. cond b here (cond (is_loud (row_of T n.line n.event)) here (cond (is_kept n.event) one other))) (eq-eqb kept most full)

-- ---- a session on its way

-- The session took some events of a script, is to go on with the rest, and ends as the whole run does.
pub record GoesOn (s : Script) (most : ℕ) (session : State) (rest : List Numbered) (kept sent total : ℕ) : Type 0 where
  pub whole : IsRead s
  pub trace : Trace
  pub used : UsedState
  pub stands : Stands session trace
  pub count : used.events ≡ length trace.rows
  pub untaken : IsUntaken used.calls (begun trace.rows)
  pub read : AreRead used rest
  pub few : kept ≤ most
  pub all : total ≡ requests_of trace
  pub bound : total ≤ 1000020 * length trace.rows
  pub waiting : length (open_windows trace) ≤ length trace.rows
  pub same : run trace rest most kept sent ≡ run (start s.header) s.events most 0 0

pub begins : (s : Script) (most : ℕ) (session : State) → Stands session (start s.header) → IsRead s
    → GoesOn s most session s.events 0 0 0
begins s most session stands read =
    record {
      whole = read;
      trace = start s.header;
      used = unused s.header.now;
      stands = stands;
      count = refl;
      untaken = λ call h. refl;
      read = read;
      few = zero-le;
      all = refl;
      bound = zero-le;
      waiting = zero-le;
      same = refl;
    }

-- the next event is the first of those that are left
pub at_next : {s : Script} {most kept sent total : ℕ} {session : State} (items events : List Numbered) (i : ℕ) (n : Numbered)
    → items ≡ events → i < length items → n ≡ get_or items i n
    → GoesOn s most session (drop i events) kept sent total → GoesOn s most session (n ∷ drop (i + 1) events) kept sent total
at_next {s = s} {most = most} {kept = kept} {sent = sent} {total = total} {session = session} items events i n is here item h =
    let below : i < length events = subst (λ xs. i < length xs) is here in
    let left : drop i events ≡ n ∷ drop (i + 1) events =
    drop-cons events i n below ∙ ap₂ (λ x k. x ∷ drop k events) (sym (item ∙ ap (λ xs. get_or xs i n) is)) (sym (add-one i)) in
    subst (λ ns. GoesOn s most session ns kept sent total) left h

-- none is left
pub at_end : {s : Script} {most kept sent total : ℕ} {session : State} (items events : List Numbered) (i : ℕ) → items ≡ events
    → length items ≤ i
    → GoesOn s most session (drop i events) kept sent total → GoesOn s most session [] kept sent total
at_end {s = s} {most = most} {kept = kept} {sent = sent} {total = total} {session = session} items events i is over h =
    let beyond : length events ≤ i = subst (λ xs. length xs ≤ i) is over in
    subst (λ ns. GoesOn s most session ns kept sent total) (drop_all i events beyond) h

-- no earlier event took the call of a get or of a disconnect
pub fresh : (session : State) (T : Trace) (used : UsedState) (event : Event) → Stands session T → IsUntaken used.calls (begun T.rows)
    → IsUnused used event → IsFresh session event
fresh session T used (events.Get page call options) stands untaken unused =
    ap (list_any (nat_eq call)) stands.taken ∙ untaken call unused
fresh session T used (events.Disconnect page call config client hint) stands untaken unused =
    ap (list_any (nat_eq call)) stands.taken ∙ untaken call unused
fresh session T used (events.Have have) stands untaken unused = tt
fresh session T used (events.At time) stands untaken unused = tt
fresh session T used (events.Load page url raw) stands untaken unused = tt
fresh session T used (events.ClosePage page) stands untaken unused = tt
fresh session T used (events.Abort call) stands untaken unused = tt
fresh session T used (events.GoOn call) stands untaken unused = tt
fresh session T used (events.Cancel call) stands untaken unused = tt
fresh session T used (events.SignIn call) stands untaken unused = tt
fresh session T used (events.ShutWindow call) stands untaken unused = tt
fresh session T used (events.IdpClose page) stands untaken unused = tt
fresh session T used (events.Reply call place kind raw) stands untaken unused = tt
fresh session T used (events.Choose call place id) stands untaken unused = tt
fresh session T used (events.Prevent page) stands untaken unused = tt
fresh session T used (events.SetStatus page status) stands untaken unused = tt

-- a step may be taken at the event
pub record MayStep (session : State) (event : Event) : Type 0 where
  pub few : session.steps < 1000000
  pub fresh : IsFresh session event
  pub provider : HasProviders event
  pub status : HasKnownStatus event

pub may_step : {s : Script} {most kept sent total : ℕ} {session : State} {n : Numbered} {ns : List Numbered}
    → GoesOn s most session (n ∷ ns) kept sent total → MayStep session n.event
may_step {session = session} {n = n} h =
    let may = h.read.0 in
    let steps = h.stands.steps in
    let few = may.few in
    let count = h.count in
    record {
      few = omega (arith, steps, few, count);
      fresh = fresh session h.trace h.used n.event h.stands h.untaken may.once;
      provider = may.provider;
      status = may.status;
    }

-- what a step does at an event, by what is found in its records
abbrev pub Takes : State → State → Numbered → Option ℕ → Type 0
Takes session session' n found =
    (T : Trace) → Stands session T
    → (found ≡ quiet_requests (row_of T n.line n.event)) × Stands session' (with_event T n.line n.event)

unless_some : (loud : Bool) (n m : ℕ) → Some n ≡ cond loud None (Some m) → (loud ≡ false) × (n ≡ m)
unless_some true n m h = absurd (cc)
unless_some false n m h = (refl, cc)

unless_none : (loud : Bool) (m : ℕ) → None ≡ cond loud None (Some m) → loud ≡ true
unless_none true m h = refl
unless_none false m h = absurd (cc)

-- the requests that are found are those of the row, which is quiet
row_found : {session session' : State} {n : Numbered} (T : Trace) {found : Option ℕ} (requests : ℕ) → Stands session T
    → Takes session session' n found → found ≡ Some requests
    → (is_loud (row_of T n.line n.event) ≡ false) × (requests ≡ length (filter_map first_sent (row_of T n.line n.event).effects))
row_found {n = n} T requests stands takes is = unless_some (is_loud (row_of T n.line n.event)) requests _ (sym is ∙ (takes T stands).0)

-- they fit
pub fits_more : {s : Script} {most kept sent total : ℕ} {session session' : State} {n : Numbered} {ns : List Numbered}
    {found : Option ℕ}
    (requests : ℕ)
    → Takes session session' n found → found ≡ Some requests → GoesOn s most session (n ∷ ns) kept sent total
    → total + requests < 2 ^ 64
fits_more {n = n} requests takes is h =
    let row = row_found {n = n} h.trace requests h.stands takes is in
    omega (arith, h.bound, row.1, few_requests h.trace n.event h.read.0.provider, h.waiting, h.count, h.read.0.few)

-- over a quiet event, by whether it is kept
goes_on : {s : Script} {most kept sent total : ℕ} {session session' : State} {n : Numbered} {ns : List Numbered} {found : Option ℕ}
    (requests : ℕ)
    → Takes session session' n found → found ≡ Some requests → kept ≢ most → GoesOn s most session (n ∷ ns) kept sent total
    → (more : Bool) → is_kept n.event ≡ more
    → GoesOn s most session' ns (cond more (kept + 1) kept) (cond more (total + requests) sent) (total + requests)
goes_on {s = s} {most = most} {kept = kept} {sent = sent} {total = total} {session' = session'} {n = n} {ns =
    ns} requests takes is apart h more kind =
    let row = row_found {n = n} h.trace requests h.stands takes is in
    let count = h.count in
    let all : total + requests ≡ requests_of (after h.trace n) =
    omega (
      arith,
      h.all,
      row.1,
      length-append (first_requests h.trace.rows)
          (filter_map first_sent (row_of h.trace n.line n.event).effects),
    ) in
    record {
      whole = h.whole;
      trace = after h.trace n;
      used = used_after n.event h.used;
      stands = (takes h.trace h.stands).1;
      count = omega (arith, count);
      untaken = untaken_after h.trace n.line n.event h.used h.untaken;
      read = h.read.1;
      few = few_by more;
      all = all;
      bound = omega (arith, h.bound, row.1, few_requests h.trace n.event h.read.0.provider, h.waiting, count, h.read.0.few);
      waiting = let le = few_windows h.trace n.line n.event in omega (arith, le, h.waiting);
      same = by more kind all ∙ sym (run-quiet h.trace n ns most kept sent apart row.0) ∙ h.same;
    }
  where
    few_by : (more : Bool) → cond more (kept + 1) kept ≤ most
    few_by true = let few = h.few in omega (arith, few, apart)
    few_by false = h.few

    by : (more : Bool) → is_kept n.event ≡ more → total + requests ≡ requests_of (after h.trace n)
        → run (after h.trace n) ns most (cond more (kept + 1) kept) (cond more (total + requests) sent)
        ≡ cond (is_kept n.event) (run (after h.trace n) ns most (kept + 1) (requests_of (after h.trace n)))
        (run (after h.trace n) ns most kept sent)
    by true kind all =
        ap (run (after h.trace n) ns most (kept + 1)) all
        ∙ sym (ap (λ b. cond b (run (after h.trace n) ns most (kept + 1) (requests_of (after h.trace n)))
        (run (after h.trace n) ns most kept sent)) kind)
    by false kind all =
        sym (ap (λ b. cond b (run (after h.trace n) ns most (kept + 1) (requests_of (after h.trace n)))
        (run (after h.trace n) ns most kept sent)) kind)

pub goes_on_kept : {s : Script} {most kept sent total : ℕ} {session session' : State} {n : Numbered} {ns : List Numbered}
    {found : Option ℕ}
    (requests : ℕ)
    → Takes session session' n found → found ≡ Some requests → kept ≢ most → GoesOn s most session (n ∷ ns) kept sent total
    → is_kept n.event ≡ true → GoesOn s most session' ns (kept + 1) (total + requests) (total + requests)
goes_on_kept requests takes is apart h kind = goes_on requests takes is apart h true kind

pub goes_on_skipped : {s : Script} {most kept sent total : ℕ} {session session' : State} {n : Numbered} {ns : List Numbered}
    {found : Option ℕ} (requests : ℕ)
    → Takes session session' n found → found ≡ Some requests → kept ≢ most → GoesOn s most session (n ∷ ns) kept sent total
    → is_kept n.event ≡ false → GoesOn s most session' ns kept sent (total + requests)
goes_on_skipped requests takes is apart h kind = goes_on requests takes is apart h false kind

-- ---- where it ends

pub ends_full : {s : Script} {most kept sent total : ℕ} {session : State} {rest : List Numbered}
    → GoesOn s most session rest kept sent total → kept ≡ most → QuietRun s most (kept, sent)
ends_full {s = s} {most = most} {kept = kept} {sent = sent} {rest = rest} h full =
    subst (QuietRun s most) (sym h.same ∙ run-full h.trace rest most kept sent full) (run_is_quiet s most h.whole)

pub ends_loud : {s : Script} {most kept sent total : ℕ} {session session' : State} {n : Numbered} {ns : List Numbered}
    {found : Option ℕ}
    → Takes session session' n found → found ≡ None → kept ≢ most
    → GoesOn s most session (n ∷ ns) kept sent total → QuietRun s most (kept, sent)
ends_loud {s = s} {most = most} {kept = kept} {sent = sent} {n = n} {ns = ns} takes none apart h =
    let loud = unless_none (is_loud (row_of h.trace n.line n.event)) _ (sym none ∙ (takes h.trace h.stands).0) in
    subst (QuietRun s most) (sym h.same ∙ run-loud h.trace n ns most kept sent apart loud) (run_is_quiet s most h.whole)

pub ends_here : {s : Script} {most kept sent total : ℕ} {session : State} → GoesOn s most session [] kept sent total
    → QuietRun s most (kept, sent)
unfolding run
ends_here {s = s} {most = most} h = subst (QuietRun s most) (sym h.same) (run_is_quiet s most h.whole)

-- ---- two scripts

-- what is quiet up to a kept event was quiet up to earlier ones
quiet_down : (s : Script) (j d k : ℕ) → k ≡ j + d → Quiet s k → Quiet s j
quiet_down s j zero k is h = let same : k ≡ j = omega (arith, is) in subst (Quiet s) same h
quiet_down s j (suc d) k is h =
    let same : k ≡ suc (j + d) = omega (arith, is) in
    quiet_down s j d (j + d) refl (quiet_before s (j + d) (subst (Quiet s) same h))

quiet_below : (s : Script) (j k : ℕ) → j ≤ k → Quiet s k → Quiet s j
quiet_below s j k below h = quiet_down s j (k - j) k (omega arith) h

-- no more events are kept than there are
kept-le : (ns : List Numbered) → length (kept_events ns) ≤ length ns
kept-le ns =
    let events = map (λ n. n.event) ns in
    omega (arith, length-filter is_kept events, count_by-le-length is_kept events, length-map ns (λ n. n.event))

pub both_quiet : (a b : Script) (all : ℕ) (first second : ℕ × ℕ) → Twin a b → all ≡ length b.events → QuietRun b all second
    → QuietRun a second.0 first → IsQuietLength a b first.0
both_quiet a b all first second twin is q p =
    let many = kept-le b.events in
    let count = twin.count in
    record {
      within = p.within;
      first = p.quiet;
      second = quiet_below b first.0 second.0 p.few q.quiet;
      greatest =
          λ j here so so'. p.greatest j (q.greatest j (omega (arith, is, many, count, here)) (omega (arith, count, here)) so') here so;
    }

pub both_alike : (a b : Script) (all : ℕ) (first second : ℕ × ℕ) → Twin a b → QuietRun b all second
    → QuietRun a second.0 first → sign_in a first.0 ≡ sign_in b first.0
both_alike a b all first second twin q p =
    two_worlds_lem a b p.read q.read twin first.0 p.quiet (quiet_below b first.0 second.0 p.few q.quiet)
