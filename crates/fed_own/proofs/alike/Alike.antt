-- Lines that are read as the own records leave none of them out, add none, and differ in nothing.
use Rattle.std.proofs.Common.{◌≡◌, ℕ, suc, ◌≤◌, true, false, nat_le, cond, List, [], ◌∷◌, ◌++◌, map, append-nil, Option, Some}
use Rattle.std.proofs.Common.{None, refl, sym, ap, subst, ◌∙◌, arith}
use Rattle.std.proofs.lemmas.Bool.Decides.{nat_tests}
use Rattle.std.proofs.lemmas.List.{append_assoc, map-append, reverse-append}
use Rattle.std.specs.Prelude.{option_map, reverse}
use Rattle.std.specs.List.{AllByRecursion, cons_option, filter_map}
use Rattle.std.specs.Map.{lookup}
use Rattle.indexmap.specs.IndexMap.{shift_remove_entry}
use Rattle.fed_script.specs.declared.event.Numbered.{Numbered}
use Rattle.fed_script.specs.Script.{Script, is_blank}
use Rattle.fed_trace.specs.declared.out.Out.{Out}
use Rattle.fed_trace.specs.OfScript.{start, trace_of, with_events}
use Rattle.fed_trace.specs.Records.{records, records_in}
use Rattle.fed_trace.specs.Row.{row_of, with_event}
use Rattle.fed_trace.specs.Trace.{Row, Trace}
use Rattle.fed_audit.specs.declared.aspect.About.{About}
use Rattle.fed_audit.specs.declared.aspect.Key.{Key}
use Rattle.fed_audit.specs.declared.record.Record.{Record}
use Rattle.fed_audit.specs.declared.record.Record.TheVariants as says
use Rattle.fed_audit.specs.Compare.{At, Comes, Leaves, arrive, before}
use Rattle.fed_audit.specs.Record.{record_of}
use Rattle.fed_audit.specs.Rows.{rows_after}
use Rattle.fed_audit.specs.Told.{Told, about_of, key_of, same_key}
use Rattle.fed_audit.specs.Walk.{AreAbove, AreRising}
use Rattle.fed_audit.proofs.follows.Rises.{rise_lem}
use Rattle.fed_audit.proofs.rows.Met.{is_met, met_on, own_here, passes_other, without}
use Rattle.fed_own.specs.Laws.{OwnRecordsCompare}
use Rattle.fed_own.specs.Once.{entry_told}
use Rattle.fed_own.specs.Own.{AreReadAs, said_of}
use Rattle.fed_own.proofs.alike.Early.{IsNotBefore, IsFrom, early, into}
use Rattle.fed_own.proofs.alike.Said.{IsFromLine, about_same, differs_none, from_line}
use Rattle.fed_own.proofs.tells.Whole.{whole_row}

-- lines that are read as these records leave nothing of the rows from here on
abbrev pub Goes : At → List Record → Type 0
Goes at records = (number : ℕ) (lines : List (List ℕ)) → AreReadAs lines records → Leaves at number lines None

-- ---- one row

abbrev at_line : ℕ → Told → List Row → At
at_line line left rows = record { line = line; left = left; rows = rows }

same_as_itself : (key : Key) → same_key key key ≡ true
same_as_itself key = grind (arith, nat_tests)

le_itself : (n : ℕ) → nat_le n n ≡ true
le_itself n = grind (arith, nat_tests)

is_here : (line : ℕ) (entry : Key × Out) (left : Told) (rows : List Row)
    → arrive line line (entry ∷ left) rows ≡ Comes (at_line line (entry ∷ left) rows)
is_here line entry left rows = rw (le_itself line) refl

finds_first : (key : Key) (out : Out) (left : Told) → lookup (same_key key) ((key, out) ∷ left) ≡ Some out
finds_first key out left = ap (λ b. cond b (Some out) (lookup (same_key key) left)) (same_as_itself key)

takes_first : (key : Key) (out : Out) (left : Told) → shift_remove_entry (same_key key) ((key, out) ∷ left) ≡ left
takes_first key out left = ap (λ b. cond b left ((key, out) ∷ shift_remove_entry (same_key key) left)) (same_as_itself key)

-- a record meets its own one, the first that is left
meets : (number line : ℕ) (text : List ℕ) (lines : List (List ℕ)) (out : Out) (about : About) (left : Told) (rows : List Row)
    → is_blank text ≡ false → record_of text ≡ Some (said_of out) → IsFromLine line out → about_of out ≡ Some about
    → Leaves (at_line line left rows) (suc number) lines None
    → Leaves (at_line line ((key_of about, out) ∷ left) rows) number (text ∷ lines) None
meets number line text lines out about left rows blank reads from is rest =
    met_on number text at at (without about at) (said_of out) line about
    (record { stands = blank; is = reads; line_is = from; about_is = about_same out ∙ is })
    (is_here line (key_of about, out) left rows)
    (is_met (said_of out) line about at out (own_here line about at refl ∙ finds_first (key_of about) out left) (differs_none out about is))
    lines None
    (subst (λ l. Leaves (at_line line l rows) (suc number) lines None) (sym (takes_first (key_of about) out left)) rest)
  where
    at : At
    at = at_line line ((key_of about, out) ∷ left) rows

of_outs : (line : ℕ) (rows : List Row) (outs : List Out) (more : List Record) → AllByRecursion (IsFromLine line) outs
    → Goes (at_line line [] rows) more → Goes (at_line line (filter_map entry_told outs) rows) (map said_of outs ++ more)
of_outs line rows [] more from goes number lines read = goes number lines read
of_outs line rows (out ∷ outs) more from goes number [] read = absurd read
of_outs line rows (out ∷ outs) more from goes number (text ∷ lines) read =
    step (about_of out) refl (of_outs line rows outs more from.1 goes (suc number) lines read.2)
  where
    step : (a : Option About) → about_of out ≡ a → Leaves (at_line line (filter_map entry_told outs) rows) (suc number) lines None
        → Leaves (at_line line (cons_option (option_map (λ about. (key_of about, out)) a) (filter_map entry_told outs)) rows) number
        (text ∷ lines) None
    step None is rest =
        passes_other number text (at_line line (filter_map entry_told outs) rows) (said_of out) read.0 read.1 (about_same out ∙ is) lines
        None rest
    step (Some about) is rest =
        meets number line text lines out about (filter_map entry_told outs) rows read.0 read.1 from.0 is rest

-- ---- all rows

-- the records of the rows of these events after what happened, in their order
abbrev pub events_records : Trace → List Numbered → List Out
events_records T [] = []
events_records T (n ∷ ns) = records (row_of T n.line n.event) ++ events_records (with_event T n.line n.event) ns

pub all_records : (T : Trace) (ns : List Numbered) → records_in (with_events T ns).rows ≡ records_in T.rows ++ events_records T ns
all_records T [] = sym (append-nil (records_in T.rows))
all_records T (n ∷ ns) =
    all_records (with_event T n.line n.event) ns
    ∙ append_assoc (records_in T.rows) (records (row_of T n.line n.event)) (events_records (with_event T n.line n.event) ns)

-- what is said of them, and the end
abbrev pub said_all : Trace → List Numbered → List Record
said_all T ns = map said_of (events_records T ns) ++ says.End ∷ []

pub said_more : (T : Trace) (n : Numbered) (ns : List Numbered)
    → said_all T (n ∷ ns) ≡ map said_of (records (row_of T n.line n.event)) ++ said_all (with_event T n.line n.event) ns
said_more T n ns =
    let row = row_of T n.line n.event in
    let T' = with_event T n.line n.event in
    ap (λ rs. rs ++ says.End ∷ []) (map-append said_of (records row) (events_records T' ns))
    ∙ append_assoc (map said_of (records row)) (map said_of (events_records T' ns)) (says.End ∷ [])

pub all_append : {X : Type 0} (P : X → Type 0) (xs ys : List X) → AllByRecursion P xs → AllByRecursion P ys → AllByRecursion P (xs ++ ys)
all_append P [] ys first then = then
all_append P (x ∷ xs) ys first then = (first.0, all_append P xs ys first.1 then)

above_low : (low line : ℕ) (ns : List Numbered) → low ≤ line → AreAbove line ns → AllByRecursion (λ (n : Numbered). low ≤ n.line) ns
above_low low line [] up h = tt
above_low low line (n ∷ ns) up h = let more = h.0 in (omega (arith, up, more), above_low low line ns up h.1)

outs_from : (low line : ℕ) (outs : List Out) → low ≤ line → AllByRecursion (IsFromLine line) outs
    → AllByRecursion (IsNotBefore low) (map said_of outs)
outs_from low line [] up from = tt
outs_from low line (out ∷ outs) up from = (subst (IsFrom low) (sym from.0) up, outs_from low line outs up from.1)

pub said_from : (low : ℕ) (T : Trace) (ns : List Numbered) → AllByRecursion (λ (n : Numbered). low ≤ n.line) ns
    → AllByRecursion (IsNotBefore low) (said_all T ns)
said_from low T [] h = (tt, tt)
said_from low T (n ∷ ns) h =
    let row = row_of T n.line n.event in
    subst (AllByRecursion (IsNotBefore low)) (sym (said_more T n ns))
    (all_append (IsNotBefore low) (map said_of (records row)) (said_all (with_event T n.line n.event) ns)
    (outs_from low n.line (records row) h.0 (from_line n.line row.effects)) (said_from low (with_event T n.line n.event) ns h.1))

at_end : (here : ℕ) → Goes (at_line here [] []) (says.End ∷ [])
at_end here number [] read = absurd read
at_end here number (line ∷ []) read = into number line [] (at_line here [] []) says.End read.0 read.1 refl
at_end here number (line ∷ other ∷ lines) read = absurd read.2

of_events : (T : Trace) (here : ℕ) (ns : List Numbered) → AreAbove here ns → AreRising ns
    → Goes (at_line here [] (rows_after T ns)) (said_all T ns)
of_events T here [] above rising number lines read = at_end here number lines read
of_events T here (n ∷ ns) above rising number lines read =
    early here row rows (said_all T (n ∷ ns)) lines number above.0
    (said_from n.line T (n ∷ ns) (omega arith, above_low n.line n.line ns (omega arith) rising.0)) read
    (subst (λ l. Leaves (at_line n.line l rows) number lines None) (sym (whole_row T n.line n.event))
    (of_outs n.line rows (records row) (said_all T' ns) (from_line n.line row.effects) (of_events T' n.line ns rising.0 rising.1) number
    lines
    (subst (AreReadAs lines) (said_more T n ns) read)))
  where
    T' : Trace
    T' = with_event T n.line n.event

    row : Row
    row = row_of T n.line n.event

    rows : List Row
    rows = rows_after T' ns

-- ---- of a script

reversed : (T : Trace) (ns : List Numbered) → reverse (with_events T ns).rows ≡ reverse T.rows ++ rows_after T ns
reversed T [] = sym (append-nil (reverse T.rows))
reversed T (n ∷ ns) =
    reversed (with_event T n.line n.event) ns
    ∙ (ap (λ rs. rs ++ rows_after (with_event T n.line n.event) ns) (reverse-append (row_of T n.line n.event ∷ []) T.rows)
    ∙ append_assoc (reverse T.rows) (row_of T n.line n.event ∷ []) (rows_after (with_event T n.line n.event) ns))

compare_script : (script : Script) → AreAbove 0 script.events → AreRising script.events
    → Goes (before script) (map said_of (records_in (trace_of script).rows) ++ says.End ∷ [])
compare_script script above rising =
    subst (λ rs. Goes (at_line 0 [] rs) (map said_of (records_in (trace_of script).rows) ++ says.End ∷ []))
    (sym (reversed (start script.header) script.events))
    (subst (λ outs. Goes (at_line 0 [] (rows_after (start script.header) script.events)) (map said_of outs ++ says.End ∷ []))
    (sym (all_records (start script.header) script.events)) (of_events (start script.header) 0 script.events above rising))

pub compare_lem : OwnRecordsCompare
compare_lem bytes script first lines read say =
    let rises = rise_lem bytes script read in
    (compare_script script rises.0 rises.1 first lines say, refl)
