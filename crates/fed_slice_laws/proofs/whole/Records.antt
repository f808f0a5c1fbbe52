-- The transcript of a slice is that of the whole, of which the records of other events are left out.
use Rattle.std.proofs.Common.{◌≡◌, ℕ, ◌≤◌, ◌+◌, Bool, true, false, nat_eq, cond, ◌||◌, List, [], ◌∷◌, ◌++◌, map, filter, Option, Some, None}
use Rattle.std.proofs.Common.{refl, sym, ap, ap₂, subst, ◌∙◌, arith}
use Rattle.std.proofs.lemmas.Bool.Decides.{nat_tests}
use Rattle.std.proofs.lemmas.List.{append-nil, map-append}
use Rattle.std.proofs.lemmas.List.Elements.{filter-append}
use Rattle.std.specs.Prelude.{option_map, IfSome, Result as Answer, Ok, Err, ⊤}
use Rattle.std.specs.List.{cons_option, AllByRecursion}
use Rattle.fed_script.specs.declared.cause.LineCause.{LineCause}
use Rattle.fed_script.specs.declared.event.Event.{Event}
use Rattle.fed_script.specs.declared.event.Header.{Header}
use Rattle.fed_script.specs.declared.event.Numbered.{Numbered}
use Rattle.fed_script.specs.Line.{header_of, event_of}
use Rattle.fed_script.specs.Script.{Script, lines_of, is_blank, events_of, after_line, ended_by, script_after, script_of_lines, script_of}
use Rattle.fed_script.specs.Used.{UsedState, unused, used_after}
use Rattle.fed_script.proofs.scripts.Read.{readable}
use Rattle.fed_trace.specs.declared.out.Out.{Out}
use Rattle.fed_trace.specs.Effect.{Effect}
use Rattle.fed_trace.specs.Effect as does
use Rattle.fed_trace.specs.OfScript.{start, with_events, trace_of}
use Rattle.fed_trace.specs.Records.{record_of, records_of, records_in}
use Rattle.fed_trace.specs.Row.{row_of, with_event}
use Rattle.fed_trace.specs.Trace.{Row, Trace}
use Rattle.fed_slice_laws.specs.Laws.{done_in}
use Rattle.fed_slice.specs.Lines.{has_line}
use Rattle.fed_slice_laws.specs.Reads.{line_of, but_line, TextIsFilter}
use Rattle.fed_slice.specs.Slice.{in_slice, slice_of}
use Rattle.fed_slice_laws.proofs.whole.Filter.{slice_is_filter_lem}
use Rattle.fed_slice_laws.proofs.whole.Lines.{From, numbers_from, filter_from, no_line, slice_reads_lem}
use Rattle.fed_slice_laws.proofs.whole.Members.{In, Here, There, each}

-- ---- the lines of a script rise

abbrev Rises : List Numbered → Type 0
Rises [] = ⊤
Rises (n ∷ ns) = From (n.line + 1) ns × Rises ns

events_rise : (used : UsedState) (n : ℕ) (lines : List (List ℕ)) → Rises (events_of used n lines).good
events_rise used n [] = tt
events_rise used n (line ∷ lines) = go (is_blank line) (event_of line used) (λ after. events_rise after (n + 1) lines)
  where
    read : (r : Answer Event LineCause) → ((after : UsedState) → Rises (events_of after (n + 1) lines).good)
        → Rises (after_line n used r (λ after. events_of after (n + 1) lines)).good
    read (Err cause) rest = tt
    read (Ok event) rest = (numbers_from (used_after event used) (n + 1) lines, rest (used_after event used))

    go : (blank : Bool) (r : Answer Event LineCause) → ((after : UsedState) → Rises (events_of after (n + 1) lines).good)
        → Rises (cond blank (events_of used (n + 1) lines) (after_line n used r (λ after. events_of after (n + 1) lines))).good
    go true r rest = rest used
    go false r rest = read r rest

script_rises : (bytes : List ℕ) (s : Script) → script_of bytes ≡ Ok s → Rises s.events
script_rises bytes s is = of_lines (lines_of bytes) is
  where
    ended : (header : Header) (good : List Numbered) (bad : Option (ℕ × LineCause)) → Rises good → ended_by header good bad ≡ Ok s
        → Rises s.events
    ended header good (Some b) rises is = absurd (cc)
    ended header good None rises is = let same : good ≡ s.events = cc in subst Rises same rises

    of_header : (r : Answer Header LineCause) (lines : List (List ℕ)) → script_after r lines ≡ Ok s → Rises s.events
    of_header (Err cause) lines is = absurd (cc)
    of_header (Ok header) lines is =
        let found = events_of (unused header.now) 2 lines in
        ended header found.good found.bad (events_rise (unused header.now) 2 lines) is

    of_lines : (ls : List (List ℕ)) → script_of_lines ls ≡ Ok s → Rises s.events
    of_lines [] is = absurd (cc)
    of_lines (line ∷ lines) is = of_header (header_of line) lines is

-- ---- the line of an event is kept as the event is

above : (k : ℕ) (n : Numbered) {ns : List Numbered} → In n ns → From k ns → k ≤ n.line
above k n (Here ns) h = h.0
above k n (There m ns at) h = above k n at h.1

line_kept : (keep : Event → Bool) (n : Numbered) {ns : List Numbered} → Rises ns → In n ns
    → has_line (filter (λ m. keep m.event) ns) n.line ≡ keep n.event
line_kept keep n rises (Here ns) = go (keep n.event)
  where
    rest : List Numbered
    rest = filter (λ m. keep m.event) ns

    go : (b : Bool) → has_line (cond b (n ∷ rest) rest) n.line ≡ b
    go true = let own : nat_eq n.line n.line ≡ true = grind (arith, nat_tests) in ap (λ t. t || has_line rest n.line) own
    go false = no_line n.line rest (filter_from (n.line + 1) (λ m. keep m.event) ns rises.0)
line_kept keep n rises (There m ns at) = go (keep m.event) (line_kept keep n rises.1 at)
  where
    rest : List Numbered
    rest = filter (λ m. keep m.event) ns

    later : m.line + 1 ≤ n.line
    later = above (m.line + 1) n at rises.0

    go : (b : Bool) → has_line rest n.line ≡ keep n.event → has_line (cond b (m ∷ rest) rest) n.line ≡ keep n.event
    go true ih =
        let k = later in
        let other : nat_eq n.line m.line ≡ false = grind (arith, nat_tests, k) in
        ap (λ t. t || has_line rest n.line) other ∙ ih
    go false ih = ih

-- ---- records of kept lines

of_line : (line : ℕ) (e : Effect) → IfSome (record_of line e) (λ out. line_of out ≡ line)
of_line line (does.Sent kind call provider ask cookies) = refl
of_line line (does.Dropped call provider failure) = refl
of_line line (does.Shown call dialog) = refl
of_line line (does.Window call provider url) = refl
of_line line (does.Result call page finish) = refl
of_line line (does.Ignored why) = refl
of_line line _ = tt

module _ (kept : ℕ → Bool) where
  abbrev of_kept : Out → Bool
  of_kept out = kept (line_of out)

  -- all records of a row are of its line
  row_kept : (line : ℕ) (b : Bool) → kept line ≡ b → (es : List Effect)
      → filter of_kept (records_of line es) ≡ cond b (records_of line es) []
  row_kept line true is [] = refl
  row_kept line false is [] = refl
  row_kept line b is (e ∷ es) = go (record_of line e) (of_line line e) (row_kept line b is es)
    where
      rest : List Out
      rest = records_of line es

      both : (b : Bool) (out : Out) → filter of_kept rest ≡ cond b rest []
          → cond b (out ∷ filter of_kept rest) (filter of_kept rest) ≡ cond b (out ∷ rest) []
      both true out ih = ap (λ l. out ∷ l) ih
      both false out ih = ih

      go : (o : Option Out) → IfSome o (λ out. line_of out ≡ line) → filter of_kept rest ≡ cond b rest []
          → filter of_kept (cons_option o rest) ≡ cond b (cons_option o rest) []
      go None h ih = ih
      go (Some out) h ih =
          ap (λ t. cond t (out ∷ filter of_kept rest) (filter of_kept rest)) (ap kept h ∙ is) ∙ both b out ih

  module _ (keep : Event → Bool) where
    abbrev own : Row → Bool
    own row = keep row.event

    -- of the records those of kept lines are those of the rows of kept events
    abbrev Filtered : Trace → Type 0
    Filtered T = records_in (filter own T.rows) ≡ filter of_kept (records_in T.rows)

    step : (T : Trace) (n : Numbered) → Filtered T → kept n.line ≡ keep n.event → Filtered (with_event T n.line n.event)
    step T n done same =
        go (keep n.event) same ∙ sym (filter-append of_kept (records_in T.rows) (records_of n.line row.effects))
      where
        row : Row
        row = row_of T n.line n.event

        go : (b : Bool) → kept n.line ≡ b
            → records_in (cond b (row ∷ filter own T.rows) (filter own T.rows))
            ≡ filter of_kept (records_in T.rows) ++ filter of_kept (records_of n.line row.effects)
        go true is = ap₂ (λ xs ys. xs ++ ys) done (sym (row_kept n.line true is row.effects))
        go false is =
            done ∙ sym (append-nil (filter of_kept (records_in T.rows)))
            ∙ ap (λ ys. filter of_kept (records_in T.rows) ++ ys) (sym (row_kept n.line false is row.effects))

    filtered : (ns : List Numbered) → AllByRecursion (λ n. kept n.line ≡ keep n.event) ns → (T : Trace) → Filtered T
        → Filtered (with_events T ns)
    filtered [] h T done = done
    filtered (n ∷ ns) h T done = filtered ns h.1 (with_event T n.line n.event) (step T n done h.0)

-- ---- records whatever their lines

-- those of effects of rows, of which the newest comes first
abbrev told_by : List (List Effect) → List Out
told_by [] = []
told_by (es ∷ more) = told_by more ++ records_of 0 es

effect_told : (line : ℕ) (e : Effect) → option_map but_line (record_of line e) ≡ record_of 0 e
effect_told line (does.Sent kind call provider ask cookies) = refl
effect_told line (does.Dropped call provider failure) = refl
effect_told line (does.Shown call dialog) = refl
effect_told line (does.Window call provider url) = refl
effect_told line (does.Result call page finish) = refl
effect_told line (does.Ignored why) = refl
effect_told line _ = refl

map_cons : (o : Option Out) (outs : List Out) → map but_line (cons_option o outs) ≡ cons_option (option_map but_line o) (map but_line outs)
map_cons None outs = refl
map_cons (Some out) outs = refl

effects_told : (line : ℕ) (es : List Effect) → map but_line (records_of line es) ≡ records_of 0 es
effects_told line [] = refl
effects_told line (e ∷ es) =
    map_cons (record_of line e) (records_of line es) ∙ ap₂ cons_option (effect_told line e) (effects_told line es)

rows_told : (rows : List Row) → map but_line (records_in rows) ≡ told_by (done_in rows)
rows_told [] = refl
rows_told (row ∷ rows) =
    map-append but_line (records_in rows) (records_of row.line row.effects)
    ∙ ap₂ (λ xs ys. xs ++ ys) (rows_told rows) (effects_told row.line row.effects)

-- ---- of whole bytes

pub text_is_filter_lem : TextIsFilter
text_is_filter_lem bytes s parties is closed =
    let read = slice_reads_lem bytes s parties is in
    let keep = in_slice s parties in
    let same = slice_is_filter_lem s read.script parties (readable bytes s is) closed read.slice in
    let kept = has_line (slice_of s parties) in
    let rises = script_rises bytes s is in
    record {
      script = read.script;
      reads = read.reads;
      slice = read.slice;
      effects = same;
      records =
          rows_told (trace_of read.script).rows ∙ ap told_by same
          ∙ sym (rows_told (filter (λ row. keep row.event) (trace_of s).rows))
          ∙ ap (map but_line)
          (filtered kept keep s.events
          (each (λ n. kept n.line ≡ keep n.event) s.events (λ n at. line_kept keep n rises at)) (start s.header) refl);
    }
