-- Lines that are read as the own records pass in turn, where each record meets the clauses.
use Rattle.std.proofs.Common.{◌≡◌, ℕ, ◌<◌, ◌≤◌, Bool, true, List, [], ◌∷◌, ◌++◌, map, append-nil, Option, Some, None, refl, sym, ap, ◌∙◌}
use Rattle.std.proofs.Common.{subst, arith}
use Rattle.std.proofs.lemmas.List.{append_assoc, map-append, reverse-append}
use Rattle.std.specs.Prelude.{false, reverse, ⊤}
use Rattle.std.specs.List.{AllByRecursion}
use Rattle.fed_script.specs.declared.event.Numbered.{Numbered}
use Rattle.fed_script.specs.Script.{Script, is_blank}
use Rattle.fed_trace.specs.declared.out.Out.{Out}
use Rattle.fed_trace.specs.OfScript.{start, trace_of, with_events}
use Rattle.fed_trace.specs.Records.{records, records_in}
use Rattle.fed_trace.specs.Row.{row_of, with_event}
use Rattle.fed_trace.specs.Trace.{Row, Trace}
use Rattle.fed_audit.specs.declared.record.Record.{Record}
use Rattle.fed_audit.specs.declared.record.Record.TheVariants as says
use Rattle.fed_audit.specs.Audit.{AtEnd, AtLine, ByBlank, PassInTurn, Passes}
use Rattle.fed_audit.specs.Record.{AreUpToLine, IsAtMost, line_of, record_of}
use Rattle.fed_audit.specs.Scene.{Scene}
use Rattle.fed_audit.specs.Walk.{AreAbove, AreRising}
use Rattle.fed_audit.proofs.follows.Rises.{rise_lem}
use Rattle.fed_own.specs.Clauses.{MeetsAll, OfOwnRecords, scene_of}
use Rattle.fed_own.specs.Laws.{OwnRecordsPass}
use Rattle.fed_own.specs.Own.{AreReadAs, said_of}
use Rattle.fed_own.proofs.alike.Alike.{all_append, all_records, said_all, said_more}
use Rattle.fed_own.proofs.alike.Said.{IsFromLine, from_line}

-- ---- lines

-- each of the records passes, after these and those before it
abbrev AllPass : Script → List Record → List Record → Type 0
AllPass script earlier [] = ⊤
AllPass script earlier (r ∷ records) = Passes script earlier r × AllPass script (r ∷ earlier) records

into_by : (b : Bool) (P Q : Type 0) → b ≡ false → Q → ByBlank b P Q
into_by false P Q is h = h
into_by true P Q is h = absurd (cc)

-- the records after which the lines have passed
record Turns (script : Script) (lines : List (List ℕ)) (earlier : List Record) : Type 0 where
  records : List Record
  pass : PassInTurn script lines earlier records

in_turn : (script : Script) (lines : List (List ℕ)) (earlier records : List Record) → AreReadAs lines records
    → AllPass script earlier records → Turns script lines earlier
in_turn script [] earlier [] read h = record { records = earlier; pass = refl }
in_turn script [] earlier (r ∷ records) read h = absurd read
in_turn script (line ∷ lines) earlier [] read h = absurd read
in_turn script (line ∷ lines) earlier (r ∷ records) read h =
    let rest = in_turn script lines (r ∷ earlier) records read.2 h.1 in
    record {
      records = rest.records;
      pass =
          into_by (is_blank line) (PassInTurn script lines earlier rest.records)
          ((x : Record) × (record_of line ≡ Some x) × Passes script earlier x × PassInTurn script lines (x ∷ earlier) rest.records)
          read.0 (r, read.1, h.0, rest.pass);
    }

-- ---- records

-- what was said, the newest first
abbrev said_before : List Out → List Record
said_before outs = reverse (map said_of outs)

said_one_more : (outs : List Out) (out : Out) → said_before (outs ++ out ∷ []) ≡ said_of out ∷ said_before outs
said_one_more outs out =
    ap reverse (map-append said_of outs (out ∷ [])) ∙ reverse-append (map said_of outs) (said_of out ∷ [])

-- the records of one row, after those of the rows before it and some of its own, and what comes after them
of_outs : (script : Script) (base done outs : List Out) (more : List Record)
    → ((first : List Out) (out : Out) (last : List Out) → done ++ outs ≡ first ++ out ∷ last
    → Passes script (said_before (base ++ first)) (said_of out))
    → AllPass script (said_before (base ++ (done ++ outs))) more
    → AllPass script (said_before (base ++ done)) (map said_of outs ++ more)
of_outs script base done [] more each rest = subst (λ d. AllPass script (said_before (base ++ d)) more) (append-nil done) rest
of_outs script base done (out ∷ outs) more each rest =
    let one = append_assoc done (out ∷ []) outs in
    let said : said_before (base ++ (done ++ out ∷ [])) ≡ said_of out ∷ said_before (base ++ done) =
    ap said_before (sym (append_assoc base done (out ∷ []))) ∙ said_one_more (base ++ done) out in (
      each done out outs refl,
      subst (λ e. AllPass script e (map said_of outs ++ more)) said
          (of_outs script base (done ++ out ∷ []) outs more (λ first x last is. each first x last (sym one ∙ is))
          (subst (λ d. AllPass script (said_before (base ++ d)) more) (sym one) rest)),
    )

-- ---- places

at_most : (line : ℕ) (rs : List Record) → AllByRecursion (λ r. IsAtMost line (line_of r)) rs → AreUpToLine line rs
at_most line [] h = tt
at_most line (r ∷ rs) h = (h.0, at_most line rs h.1)

all_reverse : {X : Type 0} (P : X → Type 0) (xs : List X) → AllByRecursion P xs → AllByRecursion P (reverse xs)
all_reverse P [] h = tt
all_reverse P (x ∷ xs) h =
    subst (AllByRecursion P) (sym (reverse-append (x ∷ []) xs))
    (all_append P (reverse xs) (x ∷ []) (all_reverse P xs h.1) (h.0, tt))

-- a record is of a line up to this
abbrev IsUpTo : ℕ → Out → Type 0
IsUpTo line out = IsAtMost line (line_of (said_of out))

said_up_to : (line : ℕ) (outs : List Out) → AllByRecursion (IsUpTo line) outs
    → AllByRecursion (λ r. IsAtMost line (line_of r)) (map said_of outs)
said_up_to line [] h = tt
said_up_to line (out ∷ outs) h = (h.0, said_up_to line outs h.1)

row_up_to : (low line : ℕ) (outs : List Out) → low ≤ line → AllByRecursion (IsFromLine low) outs → AllByRecursion (IsUpTo line) outs
row_up_to low line [] up h = tt
row_up_to low line (out ∷ outs) up h = (subst (IsAtMost line) (sym h.0) up, row_up_to low line outs up h.1)

-- the part of a list before an element
front_of : {X : Type 0} (P : X → Type 0) (xs first last : List X) (x : X) → xs ≡ first ++ x ∷ last → AllByRecursion P xs
    → AllByRecursion P first
front_of {X} P xs first last x is h = go first (subst (AllByRecursion P) is h)
  where
    go : (first : List X) → AllByRecursion P (first ++ x ∷ last) → AllByRecursion P first
    go [] h = tt
    go (y ∷ first) h = (h.0, go first h.1)

-- one of them
one_of : {X : Type 0} (P : X → Type 0) (xs first last : List X) (x : X) → xs ≡ first ++ x ∷ last → AllByRecursion P xs → P x
one_of {X} P xs first last x is h = go first (subst (AllByRecursion P) is h)
  where
    go : (first : List X) → AllByRecursion P (first ++ x ∷ last) → P x
    go [] h = h.0
    go (y ∷ first) h = go first h.1

-- the rows of more events
record Later (T : Trace) (ns : List Numbered) : Type 0 where
  later : List Row
  rows : (with_events T ns).rows ≡ later ++ T.rows

later_rows : (T : Trace) (ns : List Numbered) → Later T ns
later_rows T [] = record { later = []; rows = refl }
later_rows T (n ∷ ns) =
    let rest = later_rows (with_event T n.line n.event) ns in
    record {
      later = rest.later ++ row_of T n.line n.event ∷ [];
      rows = rest.rows ∙ sym (append_assoc rest.later (row_of T n.line n.event ∷ []) T.rows);
    }

same_header : (T : Trace) (ns : List Numbered) → (with_events T ns).header ≡ T.header
same_header T [] = refl
same_header T (n ∷ ns) = same_header (with_event T n.line n.event) ns

module _ (script : Script) (meets : OfOwnRecords MeetsAll (trace_of script)) where
  -- a record of a row passes
  passes : (T : Trace) (n : Numbered) (ns : List Numbered) → with_events T (n ∷ ns) ≡ trace_of script
      → AllByRecursion (IsUpTo n.line) (records_in T.rows) → (first : List Out) (out : Out) (last : List Out)
      → records (row_of T n.line n.event) ≡ first ++ out ∷ last → Passes script (said_before (records_in T.rows ++ first)) (said_of out)
  passes T n ns whole up first out last is =
      let row = row_of T n.line n.event in
      let more = later_rows (with_event T n.line n.event) ns in
      let header : T.header ≡ (trace_of script).header =
      sym (same_header T (n ∷ ns)) ∙ ap (λ (t : Trace). t.header) whole in
      let rows : (trace_of script).rows ≡ more.later ++ row ∷ T.rows = sym (ap (λ (t : Trace). t.rows) whole) ∙ more.rows in
      let s : Scene = scene_of T.header row T.rows first in
      let from = from_line n.line row.effects in
      AtLine s
      (record {
        line = n.line;
        is_line = one_of (IsFromLine n.line) (records row) first last out is from;
        scene = record {
          header = header ∙ same_header (start script.header) script.events;
          later = more.later;
          rows = rows;
          is_line = refl;
          records = refl;
        };
        rises =
            at_most n.line (said_before (records_in T.rows ++ first))
            (all_reverse (λ r. IsAtMost n.line (line_of r)) (map said_of (records_in T.rows ++ first))
            (said_up_to n.line (records_in T.rows ++ first)
            (all_append (IsUpTo n.line) (records_in T.rows) first up
            (row_up_to n.line n.line first (omega arith) (front_of (IsFromLine n.line) (records row) first last out is from)))));
      })
      (subst (λ h. MeetsAll (scene_of h row T.rows first) out) (sym header) (meets more.later T.rows row first last out rows is))

  up_more : (low line : ℕ) (T : Trace) (n : Numbered) → low ≤ line → n.line ≤ line → AllByRecursion (IsUpTo low) (records_in T.rows)
      → AllByRecursion (IsUpTo line) (records_in (with_event T n.line n.event).rows)
  up_more low line T n up upto h =
      all_append (IsUpTo line) (records_in T.rows) (records (row_of T n.line n.event)) (wider (records_in T.rows) h)
      (row_up_to n.line line (records (row_of T n.line n.event)) upto (from_line n.line (row_of T n.line n.event).effects))
    where
      wide : (l : Option ℕ) → IsAtMost low l → IsAtMost line l
      wide None h = tt
      wide (Some l) h = let low_is : l ≤ low = h in omega (arith, low_is, up)

      wider : (outs : List Out) → AllByRecursion (IsUpTo low) outs → AllByRecursion (IsUpTo line) outs
      wider [] h = tt
      wider (out ∷ outs) h = (wide (line_of (said_of out)) h.0, wider outs h.1)

  of_events : (T : Trace) (low : ℕ) (ns : List Numbered) → with_events T ns ≡ trace_of script
      → AllByRecursion (IsUpTo low) (records_in T.rows) → AreAbove low ns → AreRising ns
      → AllPass script (said_before (records_in T.rows)) (said_all T ns)
  of_events T low [] whole up above rising = (AtEnd refl, tt)
  of_events T low (n ∷ ns) whole up above rising =
      let row = row_of T n.line n.event in
      let higher = above.0 in
      subst (AllPass script (said_before (records_in T.rows))) (sym (said_more T n ns))
      (subst (λ base. AllPass script (said_before base) (map said_of (records row) ++ said_all (with_event T n.line n.event) ns))
      (append-nil (records_in T.rows))
      (of_outs script (records_in T.rows) [] (records row) (said_all (with_event T n.line n.event) ns)
      (passes T n ns whole (here higher (records_in T.rows) up))
      (of_events (with_event T n.line n.event) n.line ns whole
      (up_more low n.line T n (omega (arith, higher)) (omega arith) up) rising.0 rising.1)))
    where
      wide : low < n.line → (l : Option ℕ) → IsAtMost low l → IsAtMost n.line l
      wide higher None h = tt
      wide higher (Some l) h = let low_is : l ≤ low = h in omega (arith, low_is, higher)

      here : low < n.line → (outs : List Out) → AllByRecursion (IsUpTo low) outs → AllByRecursion (IsUpTo n.line) outs
      here higher [] h = tt
      here higher (out ∷ outs) h = (wide higher (line_of (said_of out)) h.0, here higher outs h.1)

pub pass_lem : OwnRecordsPass
pass_lem bytes script first lines read say meets =
    let rises = rise_lem bytes script read in
    let all = of_events script meets (start script.header) 0 script.events refl tt rises.0 rises.1 in
    let turns = in_turn script lines [] (said_all (start script.header) script.events)
    (subst (λ outs. AreReadAs lines (map said_of outs ++ says.End ∷ [])) (all_records (start script.header) script.events) say) all in
    (turns.records, turns.pass)
