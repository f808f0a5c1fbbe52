-- Further lines leave the stop of a script and a transcript at the lines before them as it is.
use Rattle.std.proofs.Common.{◌≡◌, ◌∙◌, ℕ, ◌+◌, ◌<◌, ◌≤◌, Bool, true, false, cond, ◌||◌, leb, List, [], ◌∷◌, ◌++◌, length}
use Rattle.std.proofs.Common.{Option, Some, None, refl, sym, ap, arith, append_assoc, append-nil, length-append}
use Rattle.std.proofs.Math.Seq.{take-append_seam}
use Rattle.std.proofs.lemmas.Bool.{lt-leb}
use Rattle.std.proofs.lemmas.List.Folds.{list_any-append}
use Rattle.std.proofs.lemmas.List.Sums.{sum_by-cons}
use Rattle.std.specs.List.{list_any, count_by, before_first, after_first}
use Rattle.std.specs.Prelude.{Result, Ok, Err}
use Rattle.fed_script.specs.declared.cause.LineCause.{LineCause}
use Rattle.fed_script.specs.declared.cause.PairCause.TheVariants.{Line}
use Rattle.fed_script.specs.declared.cause.PairStop.{PairStop}
use Rattle.fed_script.specs.declared.event.Event.{Event}
use Rattle.fed_script.specs.declared.event.Header.{Header}
use Rattle.fed_script.specs.declared.event.Numbered.{Numbered}
use Rattle.fed_script.specs.Line.{event_of, header_of}
use Rattle.fed_script.specs.Pair.{undivided}
use Rattle.fed_script.specs.Pieces.{whole_lines, rest_of, onto_whole}
use Rattle.fed_script.specs.Script.{Script, Stop, events_of, after_line as events_after, is_blank}
use Rattle.fed_script.specs.Script.{lines_of, script_of_lines, script_after, ended_by}
use Rattle.fed_script.specs.Used.{UsedState, unused, used_after}
use Rattle.fed_script.proofs.lines.Line.{is_lf}
use Rattle.fed_script.proofs.lines.Walk.{divided, halved}
use Rattle.fed_script.proofs.pieces.Whole.{lines_of-append}
use Rattle.fed_script.proofs.scripts.Stop.{bad_is_among, stop_is_among}
use Rattle.fed_run.specs.Recorded.{Recorded, halves_of, is_divider, recorded_after, recorded_by, recorded_of, recorded_of_lines}
use Rattle.fed_run.specs.Recorded.{recorded_stop_within, recorded_bad_within}

-- a number above so many is not among them
above : (n k : ℕ) → k < n → (stop : PairStop) → cond (leb n k) (Some stop) None ≡ None
above n k past stop = ap (λ b. cond b (Some stop) None) (lt-leb n k past)

pub zero : (n : ℕ) → 0 + n ≡ n
zero n = omega arith

-- ---- the script

-- a line's stop, if it is one of the first k lines
abbrev pub line_early : ℕ → LineCause → ℕ → Option PairStop
line_early k cause line = cond (leb line k) (Some (record { line = line; cause = Line cause })) None

-- a bad line, if it is one of the first k lines
abbrev bad_early : ℕ → Option (ℕ × LineCause) → Option PairStop
bad_early k None = None
bad_early k (Some bad) = line_early k bad.1 bad.0

-- where a script stops, if it is at one of the first k lines
abbrev pub stop_early : ℕ → Result Script Stop → Option PairStop
stop_early k (Ok script) = None
stop_early k (Err stop) = line_early k stop.cause stop.line

bad_late : (k n : ℕ) (bad : Option (ℕ × LineCause)) → k + 1 ≡ n → ((b : ℕ × LineCause) → bad ≡ Some b → n ≤ b.0)
    → bad_early k bad ≡ None
bad_late k n None size from = refl
bad_late k n (Some bad) size from = let least = from bad refl in above bad.0 k (omega arith) _

-- the first bad line of some lines is that of these and further ones, up to the last of these
bad_further : (k : ℕ) (used : UsedState) (n : ℕ) (lines more : List (List ℕ)) → k + 1 ≡ n + length lines
    → bad_early k (events_of used n (lines ++ more)).bad ≡ bad_early k (events_of used n lines).bad
bad_further k used n [] more size =
    bad_late k n (events_of used n more).bad (omega arith) (λ bad is. (bad_is_among used n more bad is).from)
bad_further k used n (line ∷ lines) more size =
    let size' : k + 1 ≡ (n + 1) + length lines = omega arith in
    by (is_blank line) (event_of line used) (bad_further k used (n + 1) lines more size')
    (λ after. bad_further k after (n + 1) lines more size')
  where
    by : (blank : Bool) (r : Result Event LineCause)
        → bad_early k (events_of used (n + 1) (lines ++ more)).bad ≡ bad_early k (events_of used (n + 1) lines).bad
        → ((after : UsedState)
        → bad_early k (events_of after (n + 1) (lines ++ more)).bad ≡ bad_early k (events_of after (n + 1) lines).bad)
        → bad_early k
        (cond blank (events_of used (n + 1) (lines ++ more))
        (events_after n used r (λ after. events_of after (n + 1) (lines ++ more)))).bad
        ≡ bad_early k
        (cond blank (events_of used (n + 1) lines) (events_after n used r (λ after. events_of after (n + 1) lines))).bad
    by true r same further = same
    by false (Ok event) same further = further (used_after event used)
    by false (Err cause) same further = refl

-- a script stops where its first bad line is
ended_early : (k : ℕ) (header : Header) (good : List Numbered) (bad : Option (ℕ × LineCause))
    → stop_early k (ended_by header good bad) ≡ bad_early k bad
ended_early k header good None = refl
ended_early k header good (Some bad) = refl

no_stop : (r : Result Script Stop) → ((stop : Stop) → r ≡ Err stop → 1 ≤ stop.line) → stop_early 0 r ≡ None
no_stop (Ok script) from = refl
no_stop (Err stop) from = let least = from stop refl in above stop.line 0 (omega arith) _

-- the stop of a script of some lines is that of these and further ones, up to the last of these
pub script_further : (lines more : List (List ℕ))
    → stop_early (length lines) (script_of_lines (lines ++ more)) ≡ stop_early (length lines) (script_of_lines lines)
script_further [] more =
    no_stop (script_of_lines more) (λ stop is. (stop_is_among more stop is).from)
    ∙ sym (no_stop (script_of_lines []) (λ stop is. (stop_is_among [] stop is).from))
script_further (line ∷ lines) more = by (header_of line)
  where
    by : (r : Result Header LineCause)
        → stop_early (length (line ∷ lines)) (script_after r (lines ++ more)) ≡ stop_early (length (line ∷ lines)) (script_after r lines)
    by (Err cause) = refl
    by (Ok header) =
        let k = length (line ∷ lines) in
        let used = unused header.now in
        let all = events_of used 2 (lines ++ more) in
        let found = events_of used 2 lines in
        ended_early k header all.good all.bad
        ∙ bad_further k used 2 lines more (omega arith)
        ∙ sym (ended_early k header found.good found.bad)

-- ---- a script and a transcript

-- both stop where the script does
after_early : (before k : ℕ) (r : Result Script Stop) (lines : List (List ℕ))
    → recorded_stop_within k (recorded_after before r lines) ≡ stop_early k r
after_early before k (Ok script) lines = refl
after_early before k (Err stop) lines = ap (line_early k stop.cause) (zero stop.line)

-- and so it is where no line divides
undivided_early : (lines k : ℕ) (r : Result Script Stop) → k ≤ lines → recorded_stop_within k (Err (undivided lines r)) ≡ stop_early k r
undivided_early lines k (Ok script) early = above (lines + 1) k (omega arith) _
undivided_early lines k (Err stop) early = ap (line_early k stop.cause) (zero stop.line)

-- lines with one that divides
record Found (lines : List (List ℕ)) : Type 0 where
  pub first : List (List ℕ)
  pub line : List ℕ
  pub second : List (List ℕ)
  pub is : lines ≡ first ++ line ∷ second
  pub none : list_any is_divider first ≡ false
  pub divides : is_divider line ≡ true

found : (lines : List (List ℕ)) → list_any is_divider lines ≡ true → Found lines
found [] any = absurd (cc)
found (x ∷ lines) any = by (is_divider x) refl any (found lines)
  where
    by : (b : Bool) → is_divider x ≡ b → (b || list_any is_divider lines) ≡ true → (list_any is_divider lines ≡ true → Found lines)
        → Found (x ∷ lines)
    by true is any later = record { first = []; line = x; second = lines; is = refl; none = refl; divides = is }
    by false is any later =
        let there = later any in
        record {
          first = x ∷ there.first;
          line = there.line;
          second = there.second;
          is = ap (λ ls. x ∷ ls) there.is;
          none = ap (λ b. b || list_any is_divider there.first) is ∙ there.none;
          divides = there.divides;
        }

-- a script and a transcript of lines that are divided at this one
stops_at : (k : ℕ) (lines first second : List (List ℕ)) (line : List ℕ) → lines ≡ first ++ line ∷ second
    → list_any is_divider first ≡ false → is_divider line ≡ true
    → recorded_stop_within k (recorded_of_lines lines) ≡ stop_early k (script_of_lines first)
stops_at k lines first second line is none divides =
    ap (λ halves. recorded_stop_within k (recorded_by lines halves)) (ap halves_of is ∙ divided is_divider first second line none divides)
    ∙ after_early (length first) k (script_of_lines first) second

-- of lines that are not divided
stops_undivided : (k : ℕ) (lines : List (List ℕ)) → list_any is_divider lines ≡ false → k ≤ length lines
    → recorded_stop_within k (recorded_of_lines lines) ≡ stop_early k (script_of_lines lines)
stops_undivided k lines none few =
    ap (λ b. recorded_stop_within k
    (recorded_by lines (cond b (halved (before_first is_divider lines) (after_first is_divider lines)) None))) none
    ∙ undivided_early (length lines) k (script_of_lines lines) few

found_further : (lines more : List (List ℕ)) → Found lines
    → recorded_stop_within (length lines) (recorded_of_lines (lines ++ more))
    ≡ recorded_stop_within (length lines) (recorded_of_lines lines)
found_further lines more so =
    let all : lines ++ more ≡ so.first ++ so.line ∷ (so.second ++ more) =
    ap (λ ls. ls ++ more) so.is ∙ append_assoc so.first (so.line ∷ so.second) more in
    stops_at (length lines) (lines ++ more) so.first (so.second ++ more) so.line all so.none so.divides
    ∙ sym (stops_at (length lines) lines so.first so.second so.line so.is so.none so.divides)

-- where no line divides, the stop is that of one script, whatever lines follow
alone : (lines more : List (List ℕ)) (any : Bool) → list_any is_divider lines ≡ false → list_any is_divider more ≡ any
    → recorded_stop_within (length lines) (recorded_of_lines (lines ++ more)) ≡ stop_early (length lines) (script_of_lines lines)
alone lines more false none others =
    let all : list_any is_divider (lines ++ more) ≡ false =
    list_any-append is_divider lines more ∙ ap (λ b. b || list_any is_divider more) none ∙ others in
    stops_undivided (length lines) (lines ++ more) all (omega (arith, length-append lines more))
    ∙ script_further lines more
alone lines more true none others = by (found more others)
  where
    by : Found more
        → recorded_stop_within (length lines) (recorded_of_lines (lines ++ more)) ≡ stop_early (length lines) (script_of_lines lines)
    by so =
        let all : lines ++ more ≡ (lines ++ so.first) ++ so.line ∷ so.second =
        ap (λ ls. lines ++ ls) so.is ∙ sym (append_assoc lines so.first (so.line ∷ so.second)) in
        let first : list_any is_divider (lines ++ so.first) ≡ false =
        list_any-append is_divider lines so.first ∙ ap (λ b. b || list_any is_divider so.first) none ∙ so.none in
        stops_at (length lines) (lines ++ more) (lines ++ so.first) so.second so.line all first so.divides
        ∙ script_further lines so.first

-- the stop at one of these lines is the same, whatever lines follow
further : (lines more : List (List ℕ))
    → recorded_stop_within (length lines) (recorded_of_lines (lines ++ more))
    ≡ recorded_stop_within (length lines) (recorded_of_lines lines)
further lines more = by (list_any is_divider lines) refl
  where
    by : (any : Bool) → list_any is_divider lines ≡ any
        → recorded_stop_within (length lines) (recorded_of_lines (lines ++ more))
        ≡ recorded_stop_within (length lines) (recorded_of_lines lines)
    by true any = found_further lines more (found lines any)
    by false none = alone lines more _ none refl ∙ sym (stops_undivided (length lines) lines none (omega arith))

-- ---- bytes

-- as many lines end in bytes as LFs stand there
count_whole : (bytes : List ℕ) → count_by is_lf bytes ≡ length (whole_lines bytes)
count_whole [] = refl
count_whole (b ∷ bytes) = sum_by-cons (λ x. cond (is_lf x) 1 0) b bytes ∙ by (is_lf b) (whole_lines bytes) (count_whole bytes)
  where
    by : (lf : Bool) (whole : List (List ℕ)) → count_by is_lf bytes ≡ length whole
        → cond lf 1 0 + count_by is_lf bytes ≡ length (cond lf ([] ∷ whole) (onto_whole b whole))
    by true whole count = omega (arith, count)
    by false [] count = omega (arith, count)
    by false (line ∷ lines) count = omega (arith, count)

-- what is told of the first so many lines is told of those that end in bytes, whatever bytes follow
pub same_of_bytes : (stop : ℕ → List (List ℕ) → Option PairStop)
    → ((lines more : List (List ℕ)) → stop (length lines) (lines ++ more) ≡ stop (length lines) lines)
    → (bytes more : List ℕ)
    → stop (count_by is_lf bytes) (lines_of (bytes ++ more)) ≡ stop (count_by is_lf bytes) (lines_of bytes)
same_of_bytes stop same bytes more =
    let whole = whole_lines bytes in
    let all = lines_of-append bytes more in
    let here : lines_of bytes ≡ whole ++ lines_of (rest_of bytes ++ []) =
    ap lines_of (sym (append-nil bytes)) ∙ lines_of-append bytes [] in
    ap (λ n. stop n (lines_of (bytes ++ more))) (count_whole bytes)
    ∙ ap (stop (length whole)) all
    ∙ same whole (lines_of (rest_of bytes ++ more))
    ∙ sym (same whole (lines_of (rest_of bytes ++ [])))
    ∙ ap (stop (length whole)) (sym here)
    ∙ ap (λ n. stop n (lines_of bytes)) (sym (count_whole bytes))

-- the stop at a line that ends in bytes is the same, whatever bytes follow
same_stop : (bytes more : List ℕ)
    → recorded_stop_within (count_by is_lf bytes) (recorded_of (bytes ++ more))
    ≡ recorded_stop_within (count_by is_lf bytes) (recorded_of bytes)
same_stop bytes more = same_of_bytes (λ n ls. recorded_stop_within n (recorded_of_lines ls)) further bytes more

-- so is the first bad line within bytes
within-more : (bytes more : List ℕ)
    → recorded_bad_within (length bytes) (bytes ++ more) ≡ recorded_stop_within (count_by is_lf bytes) (recorded_of bytes)
within-more bytes more =
    ap (λ front. recorded_stop_within (count_by is_lf front) (recorded_of (bytes ++ more))) (take-append_seam bytes more)
    ∙ same_stop bytes more

-- where bytes are a script and a transcript, no line within them is bad
pub none_within : (bytes more : List ℕ) (recorded : Recorded) → recorded_of bytes ≡ Ok recorded
    → None ≡ recorded_bad_within (length bytes) (bytes ++ more)
none_within bytes more recorded reads =
    sym (within-more bytes more ∙ ap (recorded_stop_within (count_by is_lf bytes)) reads)

-- where they stop at a line that ends in them, it is the first bad line within them
pub stop_is_within : (bytes more : List ℕ) (lines : ℕ) (stop : PairStop) (found : Option PairStop) → lines ≡ count_by is_lf bytes
    → recorded_of bytes ≡ Err stop → found ≡ recorded_stop_within lines (Err stop)
    → found ≡ recorded_bad_within (length bytes) (bytes ++ more)
stop_is_within bytes more lines stop found count reads is =
    is
    ∙ ap (λ n. recorded_stop_within n (Err stop)) count
    ∙ ap (recorded_stop_within (count_by is_lf bytes)) (sym reads)
    ∙ sym (within-more bytes more)
