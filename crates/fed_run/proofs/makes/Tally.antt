-- What is counted of records more, and of a script that goes on.
use Rattle.std.proofs.Common.{◌≡◌, ℕ, ◌+◌, ◌*◌, ◌^◌, ◌<◌, ◌≤◌, Bool, List, [], ◌∷◌, ◌++◌, length, Some, refl, sym, ap, ap₂, arith}
use Rattle.std.proofs.Common.{◌∙◌, subst, drop, drop-cons, add-one, get_or, zero-le}
use Rattle.std.specs.List.{filter, fold}
use Rattle.std.proofs.lemmas.List.{length-append}
use Rattle.std.proofs.lemmas.List.Elements.{filter-append}
use Rattle.std.proofs.lemmas.List.Sums.{fold-append}
use Rattle.std.proofs.lemmas.Grind.{flat_map-append}
use Rattle.fed_script.specs.declared.event.Numbered.{Numbered}
use Rattle.fed_script.specs.Script.{Script, IsRead, AreRead}
use Rattle.fed_script.specs.Used.{UsedState, used_after, unused}
use Rattle.fed_session.specs.Session.{State, Stands}
use Rattle.fed_trace.specs.declared.out.Out.{Out}
use Rattle.fed_trace.specs.OfScript.{start, with_events, trace_of}
use Rattle.fed_trace.specs.Records.{records, records_in}
use Rattle.fed_trace.specs.Row.{row_of, with_event}
use Rattle.fed_trace.specs.Trace.{Trace}
use Rattle.fed_trace.specs.Windows.{open_windows}
use Rattle.fed_twin.proofs.compared.Requests.{few_windows}
use Rattle.fed_print.specs.Lines.{record_line, text_of}
use Rattle.fed_run.specs.declared.summary.Tally.{Tally}
use Rattle.fed_run.specs.Make.{is_request, is_dialog, is_ignored, is_token, mix_byte, tally_of, HasRoom}
use Rattle.fed_run.specs.Told.{StandsAt}
use Rattle.fed_run.proofs.makes.Few.{few_records, length-filter}
use Rattle.fed_run.proofs.streams.Sessions.{MayTake, may_take, event_taken, begins}

-- ---- records more

counted : (is : Out → Bool) (before further : List Out)
    → length (filter is (before ++ further)) ≡ length (filter is before) + length (filter is further)
counted is before further = ap length (filter-append is before further) ∙ length-append (filter is before) (filter is further)

mixed : (before further : List Out)
    → fold mix_byte 0 (text_of (before ++ further)) ≡ fold mix_byte (fold mix_byte 0 (text_of before)) (text_of further)
mixed before further =
    ap (fold mix_byte 0) (flat_map-append record_line before further)
    ∙ fold-append mix_byte 0 (text_of before) (text_of further)

-- the counts of records with further ones
abbrev pub tally_with : Tally → List Out → Tally
tally_with tally further =
    record {
      requests = tally.requests + length (filter is_request further);
      dialogs = tally.dialogs + length (filter is_dialog further);
      ignored = tally.ignored + length (filter is_ignored further);
      tokens = tally.tokens + length (filter is_token further);
      mix = fold mix_byte tally.mix (text_of further);
    }

pub tally_more : (before further : List Out) → tally_with (tally_of before) further ≡ tally_of (before ++ further)
tally_more before further =
    sym (rw (
      counted is_request before further,
      counted is_dialog before further,
      counted is_ignored before further,
      counted is_token before further,
      mixed before further,
    ) refl)

-- ---- a script that goes on

-- The session is at a trace, whose records were counted; with the events that are left it is the whole one, and each of them may follow.
pub record Counts (session : State) (so_far : Tally) (left : List Numbered) (whole : Trace) : Type 0 where
  pub used : UsedState
  pub trace : Trace
  pub at : StandsAt used session trace
  pub read : AreRead used left
  pub same : with_events trace left ≡ whole
  pub tally : so_far ≡ tally_of (records_in trace.rows)
  pub bound : length (records_in trace.rows) ≤ 1000020 * length trace.rows
  pub waiting : length (open_windows trace) ≤ length trace.rows

-- before the first event
pub counts_start : (script : Script) {session : State} {tally : Tally} → Stands session (start script.header) → IsRead script
    → tally ≡ tally_of [] → Counts session tally script.events (trace_of script)
counts_start script {session = session} stands read none =
    record {
      used = unused script.header.now;
      trace = start script.header;
      at = begins session script.header stands;
      read = read;
      same = refl;
      tally = none;
      bound = zero-le;
      waiting = zero-le;
    }

pub may_step : {session : State} {tally : Tally} {whole : Trace} (next : Numbered) (left : List Numbered)
    → Counts session tally (next ∷ left) whole → MayTake session next.event
may_step {session = session} next left counts =
    may_take (Some counts.used) session (Some counts.trace) next.line next.event counts.at counts.read.0

-- how many records it has
few_more : {session : State} {tally : Tally} {whole : Trace} (next : Numbered) (left : List Numbered)
    → (counts : Counts session tally (next ∷ left) whole)
    → (length (records (row_of counts.trace next.line next.event)) ≤ 1000020) × (length counts.trace.rows < 1000000)
few_more next left counts =
    let few = few_records counts.trace next.line next.event counts.read.0.provider in
    let count = counts.at.count in
    (omega (arith, few, counts.waiting, count, counts.read.0.few), omega (arith, count, counts.read.0.few))

-- each count has room for them
pub room_for : {session : State} {tally : Tally} {whole : Trace} (next : Numbered) (left : List Numbered)
    → Counts session tally (next ∷ left) whole
    → (T : Trace) × Stands session T × (tally ≡ tally_of (records_in T.rows)) × HasRoom tally (records (row_of T next.line next.event))
room_for next left counts =
    let T = counts.trace in (
      T,
      counts.at.stands,
      counts.tally,
      subst (λ tally. HasRoom tally (records (row_of T next.line next.event))) (sym counts.tally)
          (record { requests = by is_request; dialogs = by is_dialog; ignored = by is_ignored; tokens = by is_token }),
    )
  where
    by : (is : Out → Bool) → length (filter is (records_in counts.trace.rows))
        + length (filter is (records (row_of counts.trace next.line next.event))) < 2 ^ 64
    by is =
        let few = few_more next left counts in
        let before = length-filter is (records_in counts.trace.rows) in
        let further = length-filter is (records (row_of counts.trace next.line next.event)) in
        omega (arith, few.0, few.1, counts.bound, before, further)

-- an event more
pub counts_next : {session session' : State} {tally tally' : Tally} {whole : Trace} (next : Numbered) (left : List Numbered)
    → Counts session tally (next ∷ left) whole
    → ((T : Trace) → Stands session T → tally ≡ tally_of (records_in T.rows)
    → Stands session' (with_event T next.line next.event)
    × (tally' ≡ tally_of (records_in (with_event T next.line next.event).rows)))
    → Counts session' tally' left whole
counts_next {session = session} {session' = session'} next left counts taken =
    let T = counts.trace in
    let step = taken T counts.at.stands counts.tally in
    let few = few_more next left counts in
    let size = length-append (records_in T.rows) (records (row_of T next.line next.event)) in
    let windows = few_windows T next.line next.event in
    record {
      used = used_after next.event counts.used;
      trace = with_event T next.line next.event;
      at = event_taken counts.used session session' T next.line next.event counts.at step.0;
      read = counts.read.1;
      same = counts.same;
      tally = step.1;
      bound = omega (arith, counts.bound, few.0, size);
      waiting = omega (arith, counts.waiting, windows);
    }

-- the next event is the first of those that are left
pub counts_at : {session : State} {so_far : Tally} {whole : Trace} (events : List Numbered) (i : ℕ) (next : Numbered)
    → i < length events → next ≡ get_or events i next
    → Counts session so_far (drop i events) whole → Counts session so_far (next ∷ drop (i + 1) events) whole
counts_at {session = session} {so_far = so_far} {whole = whole} events i next here item h =
    let left : drop i events ≡ next ∷ drop (i + 1) events =
    drop-cons events i next here ∙ ap₂ (λ x k. x ∷ drop k events) (sym item) (sym (add-one i)) in
    subst (λ ns. Counts session so_far ns whole) left h

-- after the last event
pub counts_end : {session : State} {tally : Tally} {whole : Trace} → Counts session tally [] whole
    → tally ≡ tally_of (records_in whole.rows)
counts_end counts = counts.tally ∙ ap (λ T. tally_of (records_in T.rows)) counts.same
