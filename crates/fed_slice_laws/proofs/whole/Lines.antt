-- The lines of a slice are read as its events.
use Rattle.std.proofs.Common.{◌≡◌, ℕ, ◌≤◌, ◌+◌, Bool, true, false, nat_eq, nat_lt, cond, ◌||◌, not, List, [], ◌∷◌, ◌++◌, filter, Option}
use Rattle.std.proofs.Common.{Some, None}
use Rattle.std.proofs.Common.{refl, sym, ap, ap₂, subst, ◌∙◌, arith}
use Rattle.std.proofs.lemmas.Bool.Decides.{nat_tests}
use Rattle.std.specs.Prelude.{◌==◌, Result as Answer, Ok, Err, ⊤}
use Rattle.std.specs.List.{list_any, AllByRecursion, onto_first}
use Rattle.fed_script.specs.declared.cause.LineCause.{LineCause}
use Rattle.fed_script.specs.declared.cause.LineCause.TheVariants as causes
use Rattle.fed_script.specs.declared.event.Event.{Event}
use Rattle.fed_script.specs.declared.event.Event.TheVariants as events
use Rattle.fed_script.specs.declared.event.Header.{Header}
use Rattle.fed_script.specs.declared.event.Numbered.{Numbered}
use Rattle.fed_script.specs.Line.{header_of, event_named, allowed, event_of}
use Rattle.fed_script.specs.Member.{unless, ◌>>=◌}
use Rattle.fed_script.specs.Script.{Script, Events, lines_of, is_blank, events_of, with_first, after_line, ended_by}
use Rattle.fed_script.specs.Script.{script_after, script_of_lines}
use Rattle.fed_script.specs.Used.{UsedState, unused, is_used, is_late, is_back, used_after, started_after, time_after}
use Rattle.fed_script.proofs.lines.Line.{lines_of-line}
use Rattle.fed_slice.specs.Slice.{in_slice, slice_of}
use Rattle.fed_slice_laws.specs.Laws.{unnumbered}
use Rattle.fed_slice.specs.Lines.{has_line, lines_kept, with_header, text_of, slice_text}
use Rattle.fed_slice_laws.specs.Reads.{ReadsAsSlice, SliceReads}
use Rattle.fed_slice_laws.proofs.whole.Read.{UsesLess, less_left, less_both, unused_still}

-- ---- lines have no LF

has_lf : List ℕ → Bool
has_lf line = list_any (λ b. b == 10) line

abbrev AreLines : List (List ℕ) → Type 0
AreLines lines = AllByRecursion (λ line. has_lf line ≡ false) lines

first_line : (b : ℕ) → (b == 10) ≡ false → (lines : List (List ℕ)) → AreLines lines → AreLines (onto_first b lines)
unfolding has_lf
first_line b ne [] h = (ap (λ t. t || false) ne, tt)
first_line b ne (line ∷ lines) h = (ap₂ (λ x y. x || y) ne h.0, h.1)

lines_are : (bytes : List ℕ) → AreLines (lines_of bytes)
unfolding has_lf
lines_are [] = tt
lines_are (b ∷ bytes) = go (b == 10) refl (lines_are bytes)
  where
    go : (t : Bool) → (b == 10) ≡ t → AreLines (lines_of bytes) → AreLines (cond t ([] ∷ lines_of bytes) (onto_first b (lines_of bytes)))
    go true is rest = (refl, rest)
    go false is rest = first_line b is (lines_of bytes) rest

-- the lines of a text of lines are these
text_lines : (lines : List (List ℕ)) → AreLines lines → lines_of (text_of lines) ≡ lines
unfolding has_lf
text_lines [] h = refl
text_lines (line ∷ lines) h =
    ap lines_of (assoc line (text_of lines)) ∙ lines_of-line line (text_of lines) h.0 ∙ ap (λ l. line ∷ l) (text_lines lines h.1)
  where
    assoc : (xs ys : List ℕ) → (xs ++ 10 ∷ []) ++ ys ≡ xs ++ 10 ∷ ys
    assoc [] ys = refl
    assoc (x ∷ xs) ys = ap (λ l. x ∷ l) (assoc xs ys)

kept_are : (kept : ℕ → Bool) (n : ℕ) (lines : List (List ℕ)) → AreLines lines → AreLines (lines_kept kept n lines)
kept_are kept n [] h = tt
kept_are kept n (line ∷ lines) h = go (kept n) (kept_are kept (n + 1) lines h.1)
  where
    go : (t : Bool) → AreLines (lines_kept kept (n + 1) lines)
        → AreLines (cond t (line ∷ lines_kept kept (n + 1) lines) (lines_kept kept (n + 1) lines))
    go true rest = (h.0, rest)
    go false rest = rest

-- ---- the numbers of events

abbrev pub From : ℕ → List Numbered → Type 0
From n es = AllByRecursion (λ e. n ≤ e.line) es

from_later : (n : ℕ) (es : List Numbered) → From (n + 1) es → From n es
from_later n [] h = tt
from_later n (e ∷ es) h = (let k = h.0 in grind (arith, k), from_later n es h.1)

pub numbers_from : (used : UsedState) (n : ℕ) (lines : List (List ℕ)) → From n (events_of used n lines).good
numbers_from used n [] = tt
numbers_from used n (line ∷ lines) = go (is_blank line) (event_of line used) (λ after. numbers_from after (n + 1) lines)
  where
    read : (r : Answer Event LineCause) → ((after : UsedState) → From (n + 1) (events_of after (n + 1) lines).good)
        → From n (after_line n used r (λ after. events_of after (n + 1) lines)).good
    read (Err cause) rest = tt
    read (Ok event) rest = (let k : n ≤ n = grind (arith) in k, from_later n _ (rest (used_after event used)))

    go : (blank : Bool) (r : Answer Event LineCause) → ((after : UsedState) → From (n + 1) (events_of after (n + 1) lines).good)
        → From n (cond blank (events_of used (n + 1) lines) (after_line n used r (λ after. events_of after (n + 1) lines))).good
    go true r rest = from_later n _ (rest used)
    go false r rest = read r rest

pub filter_from : (n : ℕ) (keep : Numbered → Bool) (es : List Numbered) → From n es → From n (filter keep es)
filter_from n keep [] h = tt
filter_from n keep (e ∷ es) h = go (keep e) (filter_from n keep es h.1)
  where
    go : (t : Bool) → From n (filter keep es) → From n (cond t (e ∷ filter keep es) (filter keep es))
    go true rest = (h.0, rest)
    go false rest = rest

-- where two tests agree from a number on
kept_agree : (f g : ℕ → Bool) (n : ℕ) → ((m : ℕ) → n ≤ m → f m ≡ g m) → (lines : List (List ℕ))
    → lines_kept f n lines ≡ lines_kept g n lines
kept_agree f g n h [] = refl
kept_agree f g n h (line ∷ lines) =
    ap (λ t. cond t (line ∷ lines_kept f (n + 1) lines) (lines_kept f (n + 1) lines)) (let k : n ≤ n = grind (arith) in h n k)
    ∙ ap (λ ls. cond (g n) (line ∷ ls) ls)
    (kept_agree f g (n + 1) (λ m above. h m (let k : n + 1 ≤ m = above in grind (arith, k))) lines)

-- a line of which none of the events is
pub no_line : (n : ℕ) (es : List Numbered) → From (n + 1) es → has_line es n ≡ false
no_line n [] h = refl
no_line n (e ∷ es) h =
    let later : n + 1 ≤ e.line = h.0 in
    let other : nat_eq n e.line ≡ false = grind (arith, nat_tests, later) in
    ap₂ (λ a b. a || b) other (no_line n es h.1)

skip : (es : List Numbered) (n : ℕ) (line : List ℕ) (lines : List (List ℕ)) → From (n + 1) es
    → lines_kept (has_line es) n (line ∷ lines) ≡ lines_kept (has_line es) (n + 1) lines
skip es n line lines h =
    ap (λ t. cond t (line ∷ lines_kept (has_line es) (n + 1) lines) (lines_kept (has_line es) (n + 1) lines)) (no_line n es h)

-- the line of the first of the events
take : (e : Event) (es : List Numbered) (n : ℕ) (line : List ℕ) (lines : List (List ℕ))
    → lines_kept (has_line (record { line = n; event = e } ∷ es)) n (line ∷ lines) ≡ line ∷ lines_kept (has_line es) (n + 1) lines
take e es n line lines =
    let f = has_line (record { line = n; event = e } ∷ es) in
    let own : nat_eq n n ≡ true = grind (arith, nat_tests) in
    ap (λ t. cond (t || has_line es n) (line ∷ lines_kept f (n + 1) lines) (lines_kept f (n + 1) lines)) own
    ∙ ap (λ ls. line ∷ ls) (kept_agree f (has_line es) (n + 1) (λ m above. later m above) lines)
  where
    later : (m : ℕ) → n + 1 ≤ m → (nat_eq m n || has_line es m) ≡ has_line es m
    later m above = let other : nat_eq m n ≡ false = grind (arith, nat_tests, above) in ap (λ t. t || has_line es m) other

-- ---- reading where less is used

record ReadsLess (less more : UsedState) : Type 0 where
  uses : UsesLess less more
  time : less.time ≡ more.time
  started : less.started ≡ true → more.started ≡ true

later_still : (less more : UsedState) → ReadsLess less more → (e : Event) → is_late more e ≡ false → is_late less e ≡ false
later_still less more h (events.Have have) free = go less.started refl
  where
    go : (b : Bool) → less.started ≡ b → less.started ≡ false
    go false is = is
    go true is = absurd (let no : true ≡ false = sym (h.started is) ∙ free in cc)
later_still less more h _ free = refl

back_same : (less more : UsedState) → less.time ≡ more.time → (e : Event) → is_back less e ≡ is_back more e
back_same less more same (events.At time) = ap (nat_lt time) same
back_same less more same _ = refl

-- what passes all four tests
pub record Passes (used : UsedState) (e : Event) : Type 0 where
  once : is_used used e ≡ false
  early : is_late used e ≡ false
  onward : is_back used e ≡ false
  few : nat_lt used.events 1000000 ≡ true

tests : {A : Type 0} (a b c d : Bool) (good : ⊤)
    → (unless a causes.CallTwice >>= λ x. unless b causes.HaveLate >>= λ y. unless c causes.TimeBack >>= λ z.
    unless (not d) causes.TooManyEvents) ≡ Ok good
    → ((a ≡ false) → (b ≡ false) → (c ≡ false) → (d ≡ true) → A) → A
tests false false false true good is found = found refl refl refl refl
tests false false false false good is found = absurd (cc)
tests false false true d good is found = absurd (cc)
tests false true c d good is found = absurd (cc)
tests true b c d good is found = absurd (cc)

passes : (used : UsedState) (e : Event) (good : ⊤) → allowed used e ≡ Ok good → Passes used e
passes used e good is =
    tests (is_used used e) (is_late used e) (is_back used e) (nat_lt used.events 1000000) good is
    (λ a b c d. record { once = a; early = b; onward = c; few = d })

allows : (used : UsedState) (e : Event) → Passes used e → allowed used e ≡ Ok tt
allows used e h =
    ap₂ (λ a b. unless a causes.CallTwice >>= λ x. unless b causes.HaveLate >>= λ y. unless (is_back used e) causes.TimeBack >>= λ z.
    unless (not (nat_lt used.events 1000000)) causes.TooManyEvents) h.once h.early
    ∙ ap₂ (λ c d. unless c causes.TimeBack >>= λ z. unless (not d) causes.TooManyEvents) h.onward h.few

fewer : (a b : ℕ) → a ≤ b → nat_lt b 1000000 ≡ true → nat_lt a 1000000 ≡ true
fewer a b le lt = grind (arith, nat_tests, le, lt)

-- what may follow more may follow less
passes_less : (less more : UsedState) → ReadsLess less more → (e : Event) → Passes more e → Passes less e
passes_less less more h e k =
    record {
      once = unused_still less more h.uses e k.once;
      early = later_still less more h e k.early;
      onward = back_same less more h.time e ∙ k.onward;
      few = fewer less.events more.events h.uses.events k.few;
    }

reads_less : (less more : UsedState) → ReadsLess less more → (line : List ℕ) (e : Event) → event_of line more ≡ Ok e
    → event_of line less ≡ Ok e
reads_less less more h line e is = go (event_named line) refl is
  where
    by : (event : Event) (r : Answer ⊤ LineCause) → allowed more event ≡ r → (r >>= λ good. Ok event) ≡ Ok e
        → (allowed less event >>= λ good. Ok event) ≡ Ok e
    by event (Err cause) at same = absurd (cc)
    by event (Ok good) at same =
        ap (λ r. r >>= λ good. Ok event) (allows less event (passes_less less more h event (passes more event good at))) ∙ same

    go : (named : Answer Event LineCause) → event_named line ≡ named
        → (named >>= λ event. allowed more event >>= λ good. Ok event) ≡ Ok e
        → (event_named line >>= λ event. allowed less event >>= λ good. Ok event) ≡ Ok e
    go (Err cause) at same = absurd (cc)
    go (Ok event) at same =
        ap (λ n. n >>= λ event. allowed less event >>= λ good. Ok event) at ∙ by event (allowed more event) refl same

-- ---- after an event

started_still : (e : Event) (b : Bool) → b ≡ true → started_after e b ≡ true
started_still (events.Have have) b h = h
started_still _ b h = refl

started_both : (e : Event) (a b : Bool) → (a ≡ true → b ≡ true) → started_after e a ≡ true → started_after e b ≡ true
started_both (events.Have have) a b h k = h k
started_both _ a b h k = refl

-- an event that is no `at` leaves the time

time_left : (keep : Event → Bool) → ((time : ℕ) → keep (events.At time) ≡ true) → (e : Event) → keep e ≡ false → (t : ℕ)
    → time_after e t ≡ t
time_left keep times (events.At time) out t = absurd (let no : true ≡ false = sym (times time) ∙ out in cc)
time_left keep times _ out t = refl

time_both : (e : Event) (t u : ℕ) → t ≡ u → time_after e t ≡ time_after e u
time_both e t u same = ap (time_after e) same

-- ---- the lines of a slice are read as its events

pub record ReadAs (es : List Numbered) (r : Events) : Type 0 where
  good : unnumbered r.good ≡ unnumbered es
  bad : r.bad ≡ None

module _ (keep : Event → Bool) (times : (time : ℕ) → keep (events.At time) ≡ true) where
  abbrev Reads : List (List ℕ) → Type 0
  Reads lines =
      (less more : UsedState) (n m : ℕ) → ReadsLess less more → (events_of more n lines).bad ≡ None
      → ReadAs (filter (λ e. keep e.event) (events_of more n lines).good)
      (events_of less m (lines_kept (has_line (filter (λ e. keep e.event) (events_of more n lines).good)) n lines))

  reads : (lines : List (List ℕ)) → Reads lines
  reads [] less more n m h good = record { good = refl; bad = refl }
  reads (line ∷ lines) less more n m h good = go (reads lines) (is_blank line) refl good
    where
      further : UsedState → Events
      further after = events_of after (n + 1) lines

      -- the line is read after less
      own : is_blank line ≡ false → (e : Event) → event_of line more ≡ Ok e → (rest : List (List ℕ))
          → events_of less m (line ∷ rest) ≡ with_first m e (events_of (used_after e less) (m + 1) rest)
      own full e is rest =
          ap
          (λ b. cond b (events_of less (m + 1) rest) (after_line m less (event_of line less) (λ after. events_of after (m + 1) rest))) full
          ∙ ap (λ r. after_line m less r (λ after. events_of after (m + 1) rest)) (reads_less less more h line e is)

      skipped : (es : List Numbered) → From (n + 1) es → ReadAs es (events_of less m (lines_kept (has_line es) (n + 1) lines))
          → ReadAs es (events_of less m (lines_kept (has_line es) n (line ∷ lines)))
      skipped es from k = subst (λ ls. ReadAs es (events_of less m ls)) (sym (skip es n line lines from)) k

      event : (e : Event) → is_blank line ≡ false → event_of line more ≡ Ok e → Reads lines → (further (used_after e more)).bad ≡ None
          → (b : Bool) → keep e ≡ b
          → ReadAs (cond b (record { line = n; event = e } ∷ filter (λ e. keep e.event) (further (used_after e more)).good)
          (filter (λ e. keep e.event) (further (used_after e more)).good))
          (events_of less m
          (lines_kept (has_line (cond b (record { line = n; event = e } ∷ filter (λ e. keep e.event) (further (used_after e more)).good)
          (filter (λ e. keep e.event) (further (used_after e more)).good))) n (line ∷ lines)))
      event e full is rec ends true inside =
          let es = filter (λ e. keep e.event) (further (used_after e more)).good in
          let after : ReadsLess (used_after e less) (used_after e more) =
          record {
            uses = less_both less more e h.uses;
            time = time_both e less.time more.time h.time;
            started = started_both e less.started more.started h.started;
          } in
          let k = rec (used_after e less) (used_after e more) (n + 1) (m + 1) after ends in
          subst (λ ls. ReadAs (record { line = n; event = e } ∷ es) (events_of less m ls)) (sym (take e es n line lines))
          (subst (ReadAs (record { line = n; event = e } ∷ es)) (sym (own full e is (lines_kept (has_line es) (n + 1) lines)))
          (record { good = ap (λ l. e ∷ l) k.good; bad = k.bad }))
      event e full is rec ends false out =
          let es = filter (λ e. keep e.event) (further (used_after e more)).good in
          let after : ReadsLess less (used_after e more) =
          record {
            uses = less_left less more e h.uses;
            time = h.time ∙ sym (time_left keep times e out more.time);
            started = λ is. started_still e more.started (h.started is);
          } in
          skipped es
          (filter_from (n + 1) (λ e. keep e.event) (further (used_after e more)).good (numbers_from (used_after e more) (n + 1) lines))
          (rec less (used_after e more) (n + 1) m after ends)

      read : Reads lines → is_blank line ≡ false → (r : Answer Event LineCause) → event_of line more ≡ r
          → (after_line n more r further).bad ≡ None
          → ReadAs (filter (λ e. keep e.event) (after_line n more r further).good)
          (events_of less m (lines_kept (has_line (filter (λ e. keep e.event) (after_line n more r further).good)) n (line ∷ lines)))
      read rec full (Err cause) is ends = absurd (cc)
      read rec full (Ok e) is ends = event e full is rec ends (keep e) refl

      go : Reads lines → (b : Bool) → is_blank line ≡ b
          → (cond b (further more) (after_line n more (event_of line more) further)).bad ≡ None
          → ReadAs (filter (λ e. keep e.event) (cond b (further more) (after_line n more (event_of line more) further)).good)
          (events_of less m
          (lines_kept
          (has_line (filter (λ e. keep e.event) (cond b (further more) (after_line n more (event_of line more) further)).good)) n
          (line ∷ lines)))
      go rec true is ends =
          skipped (filter (λ e. keep e.event) (further more).good)
          (filter_from (n + 1) (λ e. keep e.event) (further more).good (numbers_from more (n + 1) lines))
          (rec less more (n + 1) m h ends)
      go rec false is ends = read rec is (event_of line more) refl ends

-- ---- of whole bytes

nothing_less : (time : ℕ) → ReadsLess (unused time) (unused time)
nothing_less time =
    record {
      uses = record { events = let k : 0 ≤ 0 = grind (arith) in k; calls = λ q none. refl };
      time = refl;
      started = λ is. is;
    }

pub slice_reads_lem : SliceReads
slice_reads_lem bytes s parties is = by (lines_of bytes) refl is
  where
    by : (ls : List (List ℕ)) → lines_of bytes ≡ ls → script_of_lines ls ≡ Ok s → ReadsAsSlice s parties bytes
    by [] at is = absurd (cc)
    by (line ∷ lines) at is = head (header_of line) refl is
      where
        head : (r : Answer Header LineCause) → header_of line ≡ r → script_after r lines ≡ Ok s → ReadsAsSlice s parties bytes
        head (Err cause) named is = absurd (cc)
        head (Ok header) named is = ends (events_of (unused header.now) 2 lines).bad refl is
          where
            all : List Numbered
            all = (events_of (unused header.now) 2 lines).good

            whole : Script
            whole = record { header = header; events = all }

            ends : (bad : Option (ℕ × LineCause)) → (events_of (unused header.now) 2 lines).bad ≡ bad
                → ended_by header all bad ≡ Ok s → ReadsAsSlice s parties bytes
            ends (Some b) none is = absurd (cc)
            ends None none is =
                let same : whole ≡ s = cc in
                let part = slice_of whole parties in
                let kept = has_line part in
                let chosen = lines_kept kept 2 lines in
                let found = events_of (unused header.now) 2 chosen in
                let r = reads (in_slice whole parties) (λ time. refl) lines (unused header.now) (unused header.now) 2 2
                (nothing_less header.now) none in
                let each : AreLines (line ∷ lines) = subst AreLines at (lines_are bytes) in
                let text : lines_of (slice_text whole parties bytes) ≡ line ∷ chosen =
                ap (λ ls. lines_of (text_of (with_header kept ls))) at
                ∙ text_lines (line ∷ chosen) (each.0, kept_are kept 2 lines each.1) in
                subst (λ s. ReadsAsSlice s parties bytes) same
                (record {
                  script = record { header = header; events = found.good };
                  reads = ap script_of_lines text ∙ ap (λ h. script_after h chosen) named ∙ ap (ended_by header found.good) r.bad;
                  slice = record { header = refl; events = r.good };
                })
