-- The transcripts of two halves that are twins.
use Rattle.std.proofs.Common.{◌≡◌, ◌∙◌, ℕ, zero, suc, Bool, true, false, List, [], ◌∷◌, ◌++◌, Some, None, Result}
use Rattle.std.proofs.Common.{Ok, Err, refl, sym, ap}
use Rattle.std.proofs.Common.{ap₂, append_assoc, append-nil}
use Rattle.std.proofs.lemmas.Grind.{flat_map-append}
use Rattle.std.proofs.lemmas.List.Elements.{filter_map-append}
use Rattle.std.specs.List.{list_any, filter_map, cons_option, before_first, after_first}
use Rattle.std.specs.Prelude.{if◌then◌else◌, length}
use Rattle.fed_consent.specs.declared.table.ask.Ask.{Ask}
use Rattle.fed_consent.specs.declared.table.ask.Ask.TheVariants as asks
use Rattle.fed_consent.specs.Ask.{kind_of}
use Rattle.fed_request.specs.Request.{request_bytes}
use Rattle.fed_script.specs.declared.event.Numbered.{Numbered}
use Rattle.fed_script.specs.declared.pair.Pair.{Pair}
use Rattle.fed_script.specs.Pair.{Halves, is_divider, pair_of, pair_by, pair_after}
use Rattle.fed_script.specs.Script.{Script, Stop, lines_of, script_of, script_of_lines}
use Rattle.fed_script.proofs.scripts.Read.{readable}
use Rattle.fed_trace.specs.Effect.{Effect}
use Rattle.fed_trace.specs.Effect as does
use Rattle.fed_trace.specs.OfScript.{start, with_events, trace_of}
use Rattle.fed_trace.specs.Records.{records, records_in, record_of}
use Rattle.fed_script.specs.declared.event.Header.{Header}
use Rattle.fed_trace.specs.Row.{IsRun, effects_of, row_of, with_event}
use Rattle.fed_trace.specs.Trace.{Row, Trace}
use Rattle.fed_print.specs.Lines.{line_of, record_line, text_of}
use Rattle.fed_twin.specs.Script.{is_kept, is_disconnect, up_to, trace_to, first_bytes, first_sent, first_requests}
use Rattle.fed_twin.proofs.compared.Sends.{first_any, sends_gets, sends_none}
use Rattle.fed_twin.proofs.worlds.Worlds.{run_to, two_worlds_lem}
use Rattle.fed_run.specs.Alike.{sign_in_bytes, sign_in_request, sign_in_requests, records_to, get_records, get_records_in, Begins, AreHalves}
use Rattle.fed_run.specs.Alike.{HalvesRunAlike}
use Rattle.fed_run.specs.Run.{rows_text, script_text}
use Rattle.fed_run.specs.Text.{end_members}

-- ---- texts of rows

-- the text of rows is that of their records
text_of_rows : (rows : List Row) → rows_text rows ≡ text_of (records_in rows)
text_of_rows [] = refl
text_of_rows (row ∷ rows) =
    ap (λ t. t ++ text_of (records row)) (text_of_rows rows) ∙ sym (flat_map-append record_line (records_in rows) (records row))

-- the text of rows begins with that of the earlier ones
text_of_earlier : (later rows : List Row) → (rest : List ℕ) × (rows_text (later ++ rows) ≡ rows_text rows ++ rest)
text_of_earlier [] rows = ([], sym (append-nil (rows_text rows)))
text_of_earlier (row ∷ later) rows =
    let more = text_of_earlier later rows in (
      more.0 ++ text_of (records row),
      ap (λ t. t ++ text_of (records row)) more.1 ∙ append_assoc (rows_text rows) more.0
          (text_of (records row)),
    )

-- ---- a script goes on

-- further events leave the rows
rows_stay : (ns : List Numbered) (T : Trace) → (later : List Row) × ((with_events T ns).rows ≡ later ++ T.rows)
rows_stay [] T = ([], refl)
rows_stay (n ∷ ns) T =
    let more = rows_stay ns (with_event T n.line n.event) in
    let row = row_of T n.line n.event in
    (more.0 ++ row ∷ [], more.1 ∙ sym (append_assoc more.0 (row ∷ []) T.rows))

-- all events of a script leave the rows up to a kept one
rows_go_on : (k : ℕ) (ns : List Numbered) (T : Trace)
    → (later : List Row) × ((with_events T ns).rows ≡ later ++ (with_events T (up_to k ns)).rows)
rows_go_on zero ns T = rows_stay ns T
rows_go_on (suc k) [] T = ([], refl)
rows_go_on (suc k) (n ∷ ns) T =
    by (is_kept n.event) (rows_go_on k ns (with_event T n.line n.event)) (rows_go_on (suc k) ns (with_event T n.line n.event))
  where
    by : (b : Bool)
        → ((later : List Row) ×
        ((with_events (with_event T n.line n.event) ns).rows ≡ later ++
        (with_events (with_event T n.line n.event) (up_to k ns)).rows))
        → ((later : List Row) ×
        ((with_events (with_event T n.line n.event) ns).rows ≡ later ++
        (with_events (with_event T n.line n.event) (up_to (suc k) ns)).rows))
        → (later : List Row)
        × ((with_events (with_event T n.line n.event) ns).rows ≡ later ++
        (with_events (with_event T n.line n.event) (up_to (if b then k else suc k) ns)).rows)
    by true kept other = kept
    by false kept other = other

-- the transcript of a script begins with the records up to a kept event
begins : (s : Script) (k : ℕ) → Begins (script_text (Ok s)) (records_to s k)
unfolding script_text
begins s k =
    let on = rows_go_on k s.events (start s.header) in
    let early = (trace_to s k).rows in
    let text = text_of_earlier on.0 early in
    let end = line_of (end_members (length (trace_of s).rows)) in
    record {
      rest = text.0 ++ end;
      is = ap (λ rows. rows_text rows ++ end) on.1
          ∙ ap (λ t. t ++ end) text.1
          ∙ append_assoc (rows_text early) text.0 end
          ∙ ap (λ t. t ++ (text.0 ++ end)) (text_of_rows early);
    }

-- ---- the halves

-- where both results are scripts, these are the pair
both_are : (before : ℕ) (first second : Result Script Stop) (pair : Pair) → pair_after before first second ≡ Ok pair
    → (first ≡ Ok pair.first) × (second ≡ Ok pair.second)
both_are before (Ok a) (Ok b) pair h =
    let same : record { first = a; second = b } ≡ pair = cc in
    (ap (λ (p : Pair). Ok p.first) same, ap (λ (p : Pair). Ok p.second) same)
both_are before (Ok a) (Err stop) pair h = absurd (cc)
both_are before (Err stop) second pair h = absurd (cc)

-- each half of a pair is read alone as its script
halves_are : (bytes first second : List ℕ) (pair : Pair) → pair_of bytes ≡ Ok pair → AreHalves bytes first second
    → (script_of first ≡ Ok pair.first) × (script_of second ≡ Ok pair.second)
halves_are bytes first second pair h halves = by (list_any is_divider (lines_of bytes)) h
  where
    lines : Halves
    lines = record { first = before_first is_divider (lines_of bytes); second = after_first is_divider (lines_of bytes) }

    by : (b : Bool) → pair_by (lines_of bytes) (if b then Some lines else None) ≡ Ok pair
        → (script_of first ≡ Ok pair.first) × (script_of second ≡ Ok pair.second)
    by true is =
        let both = both_are _ (script_of_lines lines.first) (script_of_lines lines.second) pair is in
        (ap script_of_lines halves.before ∙ both.0, ap script_of_lines halves.after ∙ both.1)
    by false is = absurd (cc)

-- ---- the sign-in requests

same_bytes : (ask : Ask) (cookies : List ℕ) → sign_in_bytes (kind_of ask) (request_bytes ask cookies) ≡ first_bytes ask cookies
same_bytes (asks.WellKnown to) cookies = refl
same_bytes (asks.Config to) cookies = refl
same_bytes (asks.Accounts to) cookies = refl
same_bytes (asks.Metadata to client origin) cookies = refl
same_bytes (asks.Assertion ask) cookies = refl
same_bytes (asks.Disconnect to client hint origin) cookies = refl

-- the records of effects have the requests that the effects send
same_sent : (line : ℕ) (effects : List Effect)
    → filter_map sign_in_request (filter_map (record_of line) effects) ≡ filter_map first_any effects
same_sent line [] = refl
same_sent line (does.Time time ∷ es) = same_sent line es
same_sent line (does.Page page origin ∷ es) = same_sent line es
same_sent line (does.Closed page ∷ es) = same_sent line es
same_sent line (does.Cookie cookie ∷ es) = same_sent line es
same_sent line (does.Login origin status ∷ es) = same_sent line es
same_sent line (does.Begin begun ∷ es) = same_sent line es
same_sent line (does.Move kind call stage ∷ es) = same_sent line es
same_sent line (does.Sent kind call provider ask cookies ∷ es) = ap₂ cons_option (same_bytes ask cookies) (same_sent line es)
same_sent line (does.Shown call dialog ∷ es) = same_sent line es
same_sent line (does.Dropped call provider failure ∷ es) = same_sent line es
same_sent line (does.Window call provider url ∷ es) = same_sent line es
same_sent line (does.Kept triple stays ∷ es) = same_sent line es
same_sent line (does.Flag origin stays ∷ es) = same_sent line es
same_sent line (does.Result call page finish ∷ es) = same_sent line es
same_sent line (does.Ignored why ∷ es) = same_sent line es

-- the records of a row have the requests that gets send
row_requests : (T : Trace) (row : Row) → row.effects ≡ effects_of T row.event
    → sign_in_requests (get_records row) ≡ filter_map first_sent row.effects
row_requests T row is = go (is_disconnect row.event) refl
  where
    go : (b : Bool) → is_disconnect row.event ≡ b
        → sign_in_requests (if b then [] else records row) ≡ filter_map first_sent row.effects
    go true begins = sym (sends_none T row.event begins) ∙ ap (filter_map first_sent) (sym is)
    go false other =
        same_sent row.line row.effects ∙ ap (filter_map first_any) is ∙ sym (sends_gets T row.event other)
        ∙ ap (filter_map first_sent) (sym is)

-- so have the records of a run's rows
same_requests : (header : Header) (rows : List Row) → IsRun header rows → sign_in_requests (get_records_in rows) ≡ first_requests rows
same_requests header [] run = refl
same_requests header (row ∷ rows) run =
    filter_map-append sign_in_request (get_records_in rows) (get_records row)
    ∙ ap₂ ◌++◌ (same_requests header rows run.2) (row_requests (record { header = header; rows = rows }) row run.0)

-- ---- the law

pub halves_run_alike_lem : HalvesRunAlike
halves_run_alike_lem bytes first second pair quiet reads halves twin is_quiet =
    let a = pair.first in
    let b = pair.second in
    let are = halves_are bytes first second pair reads halves in
    let same = two_worlds_lem a b (readable first a are.0) (readable second b are.1) twin quiet is_quiet.first is_quiet.second in
    let begin = begins a quiet in
    let begin' = begins b quiet in
    record {
      begins = record { rest = begin.rest; is = ap script_text are.0 ∙ begin.is };
      begins' = record { rest = begin'.rest; is = ap script_text are.1 ∙ begin'.is };
      alike =
          same_requests (trace_to a quiet).header (trace_to a quiet).rows (run_to a (readable first a are.0) quiet) ∙ same
          ∙ sym (same_requests (trace_to b quiet).header (trace_to b quiet).rows (run_to b (readable second b are.1) quiet));
    }
