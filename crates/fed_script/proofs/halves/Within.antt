-- Further lines leave the stops at the lines before them as they are.
use Rattle.std.proofs.Common.{◌≡◌, ◌∙◌, ℕ, ◌+◌, ◌<◌, ◌≤◌, Bool, true, false, cond, ◌||◌, leb, List, [], ◌∷◌, ◌++◌, length}
use Rattle.std.proofs.Common.{Option, Some, None, refl, sym, ap, arith, append_assoc, append-nil, length-append}
use Rattle.std.proofs.Math.Seq.{take-append_seam}
use Rattle.std.proofs.lemmas.Bool.{lt-leb}
use Rattle.std.proofs.lemmas.List.Folds.{list_any-append}
use Rattle.std.proofs.lemmas.List.Sums.{sum_by-cons}
use Rattle.std.specs.List.{list_any, count_by, onto_first, before_first, after_first}
use Rattle.std.specs.Prelude.{Result, Ok, Err}
use Rattle.fed_script.specs.declared.cause.LineCause.{LineCause}
use Rattle.fed_script.specs.declared.cause.PairCause.TheVariants.{Line}
use Rattle.fed_script.specs.declared.cause.PairStop.{PairStop}
use Rattle.fed_script.specs.declared.event.Event.{Event}
use Rattle.fed_script.specs.declared.event.Header.{Header}
use Rattle.fed_script.specs.declared.event.Numbered.{Numbered}
use Rattle.fed_script.specs.declared.pair.Pair.{Pair}
use Rattle.fed_script.specs.Line.{event_of, header_of}
use Rattle.fed_script.specs.Pair.{halves_of, is_divider, pair_after, pair_by, pair_of, pair_of_lines}
use Rattle.fed_script.specs.Pair.{pair_with, stop_after, stop_within, undivided, bad_within}
use Rattle.fed_script.specs.Script.{Script, Stop, events_of, after_line as events_after, is_blank}
use Rattle.fed_script.specs.Script.{lines_of, script_of_lines, script_after, ended_by}
use Rattle.fed_script.specs.Used.{UsedState, unused, used_after}
use Rattle.fed_script.proofs.scripts.Stop.{bad_is_among, stop_is_among}
use Rattle.fed_script.proofs.lines.Line.{is_lf}
use Rattle.fed_script.proofs.lines.Walk.{divided, halved}

-- a number above so many is not among them
above : (n k : ℕ) → k < n → (stop : PairStop) → cond (leb n k) (Some stop) None ≡ None
above n k past stop = ap (λ b. cond b (Some stop) None) (lt-leb n k past)

-- ---- one script

-- a bad line, if it is one of the first k lines, where so many stand before the script
abbrev bad_early : ℕ → ℕ → Option (ℕ × LineCause) → Option PairStop
bad_early before k None = None
bad_early before k (Some bad) = cond (leb (before + bad.0) k) (Some (record { line = before + bad.0; cause = Line bad.1 })) None

-- where a script stops, if it is at one of the first k lines
abbrev stop_early : ℕ → ℕ → Result Script Stop → Option PairStop
stop_early before k (Ok script) = None
stop_early before k (Err stop) = cond (leb (before + stop.line) k) (Some (stop_after before stop)) None

bad_late : (before k n : ℕ) (bad : Option (ℕ × LineCause)) → k + 1 ≡ before + n → ((b : ℕ × LineCause) → bad ≡ Some b → n ≤ b.0)
    → bad_early before k bad ≡ None
bad_late before k n None size from = refl
bad_late before k n (Some bad) size from = let least = from bad refl in above (before + bad.0) k (omega arith) _

-- the first bad line of some lines is that of these and further ones, up to the last of these
bad_further : (before k : ℕ) (used : UsedState) (n : ℕ) (lines more : List (List ℕ)) → k + 1 ≡ before + (n + length lines)
    → bad_early before k (events_of used n (lines ++ more)).bad ≡ bad_early before k (events_of used n lines).bad
bad_further before k used n [] more size =
    bad_late before k n (events_of used n more).bad (omega arith) (λ bad is. (bad_is_among used n more bad is).from)
bad_further before k used n (line ∷ lines) more size =
    let size' : k + 1 ≡ before + ((n + 1) + length lines) = omega arith in
    by (is_blank line) (event_of line used) (bad_further before k used (n + 1) lines more size')
    (λ after. bad_further before k after (n + 1) lines more size')
  where
    by : (blank : Bool) (r : Result Event LineCause)
        → bad_early before k (events_of used (n + 1) (lines ++ more)).bad ≡ bad_early before k (events_of used (n + 1) lines).bad
        → ((after : UsedState)
        → bad_early before k (events_of after (n + 1) (lines ++ more)).bad ≡ bad_early before k (events_of after (n + 1) lines).bad)
        → bad_early before k
        (cond blank (events_of used (n + 1) (lines ++ more))
        (events_after n used r (λ after. events_of after (n + 1) (lines ++ more)))).bad
        ≡ bad_early before k
        (cond blank (events_of used (n + 1) lines) (events_after n used r (λ after. events_of after (n + 1) lines))).bad
    by true r same further = same
    by false (Ok event) same further = further (used_after event used)
    by false (Err cause) same further = refl

-- a script stops where its first bad line is
ended_early : (before k : ℕ) (header : Header) (good : List Numbered) (bad : Option (ℕ × LineCause))
    → stop_early before k (ended_by header good bad) ≡ bad_early before k bad
ended_early before k header good None = refl
ended_early before k header good (Some bad) = refl

no_stop : (before k : ℕ) (r : Result Script Stop) → k ≡ before → ((stop : Stop) → r ≡ Err stop → 1 ≤ stop.line)
    → stop_early before k r ≡ None
no_stop before k (Ok script) size from = refl
no_stop before k (Err stop) size from = let least = from stop refl in above (before + stop.line) k (omega arith) _

-- the stop of a script of some lines is that of these and further ones, up to the last of these
script_further : (before k : ℕ) (lines more : List (List ℕ)) → k ≡ before + length lines
    → stop_early before k (script_of_lines (lines ++ more)) ≡ stop_early before k (script_of_lines lines)
script_further before k [] more size =
    no_stop before k (script_of_lines more) (omega arith) (λ stop is. (stop_is_among more stop is).from)
    ∙ sym (no_stop before k (script_of_lines []) (omega arith) (λ stop is. (stop_is_among [] stop is).from))
script_further before k (line ∷ lines) more size = by (header_of line)
  where
    by : (r : Result Header LineCause) → stop_early before k (script_after r (lines ++ more)) ≡ stop_early before k (script_after r lines)
    by (Err cause) = refl
    by (Ok header) =
        let used = unused header.now in
        let all = events_of used 2 (lines ++ more) in
        let found = events_of used 2 lines in
        ended_early before k header all.good all.bad
        ∙ bad_further before k used 2 lines more (omega arith)
        ∙ sym (ended_early before k header found.good found.bad)

-- ---- two scripts

-- the second stops where it does alone
second_early : (before k : ℕ) (first : Script) (second : Result Script Stop)
    → stop_within k (pair_with before first second) ≡ stop_early before k second
second_early before k first (Ok script) = refl
second_early before k first (Err stop) = refl

-- in lines before the second it is the first that stops
first_early : (before k : ℕ) (first second : Result Script Stop) → k < before
    → stop_within k (pair_after before first second) ≡ stop_early 0 k first
first_early before k (Err stop) second early = refl
first_early before k (Ok script) (Ok other) early = refl
first_early before k (Ok script) (Err stop) early = above (before + stop.line) k (omega arith) _

-- and so it is where no line divides
undivided_early : (lines k : ℕ) (r : Result Script Stop) → k ≤ lines → stop_within k (Err (undivided lines r)) ≡ stop_early 0 k r
undivided_early lines k (Ok script) early = above (lines + 1) k (omega arith) _
undivided_early lines k (Err stop) early = refl

-- lines with one that divides
record Found (lines : List (List ℕ)) : Type 0 where
  pub first : List (List ℕ)
  pub line : List ℕ
  pub second : List (List ℕ)
  pub is : lines ≡ first ++ line ∷ second
  pub none : list_any is_divider first ≡ false
  pub divides : is_divider line ≡ true

found : (lines : List (List ℕ)) → list_any is_divider lines ≡ true → Found lines
found [] any = absurd (cc)
found (x ∷ lines) any = by (is_divider x) refl any (found lines)
  where
    by : (b : Bool) → is_divider x ≡ b → (b || list_any is_divider lines) ≡ true → (list_any is_divider lines ≡ true → Found lines)
        → Found (x ∷ lines)
    by true is any later = record { first = []; line = x; second = lines; is = refl; none = refl; divides = is }
    by false is any later =
        let there = later any in
        record {
          first = x ∷ there.first;
          line = there.line;
          second = there.second;
          is = ap (λ ls. x ∷ ls) there.is;
          none = ap (λ b. b || list_any is_divider there.first) is ∙ there.none;
          divides = there.divides;
        }

-- two scripts of lines that are divided at this one
pair_at : (lines first second : List (List ℕ)) (line : List ℕ) → lines ≡ first ++ line ∷ second → list_any is_divider first ≡ false
    → is_divider line ≡ true
    → pair_of_lines lines ≡ pair_after (length first + 1) (script_of_lines first) (script_of_lines second)
pair_at lines first second line is none divides =
    ap (pair_by lines) (ap halves_of is ∙ divided is_divider first second line none divides)

-- two scripts of lines that are not divided
pair_none : (lines : List (List ℕ)) → list_any is_divider lines ≡ false
    → pair_of_lines lines ≡ Err (undivided (length lines) (script_of_lines lines))
pair_none lines none =
    ap (λ b. pair_by lines (cond b (halved (before_first is_divider lines) (after_first is_divider lines)) None)) none

-- where a line divides, and further lines follow
after_found : (k : ℕ) (first second more : List (List ℕ)) → k ≡ (length first + 1) + length second
    → stop_within k (pair_after (length first + 1) (script_of_lines first) (script_of_lines (second ++ more)))
    ≡ stop_within k (pair_after (length first + 1) (script_of_lines first) (script_of_lines second))
after_found k first second more size = by (script_of_lines first)
  where
    by : (r : Result Script Stop)
        → stop_within k (pair_after (length first + 1) r (script_of_lines (second ++ more)))
        ≡ stop_within k (pair_after (length first + 1) r (script_of_lines second))
    by (Err stop) = refl
    by (Ok script) =
        second_early (length first + 1) k script (script_of_lines (second ++ more))
        ∙ script_further (length first + 1) k second more size
        ∙ sym (second_early (length first + 1) k script (script_of_lines second))

found_further : (lines more : List (List ℕ)) → Found lines
    → stop_within (length lines) (pair_of_lines (lines ++ more)) ≡ stop_within (length lines) (pair_of_lines lines)
found_further lines more so =
    let all : lines ++ more ≡ so.first ++ so.line ∷ (so.second ++ more) =
    ap (λ ls. ls ++ more) so.is ∙ append_assoc so.first (so.line ∷ so.second) more in
    let size : length lines ≡ (length so.first + 1) + length so.second =
    omega (arith, ap length so.is, length-append so.first (so.line ∷ so.second)) in
    ap (stop_within (length lines)) (pair_at (lines ++ more) so.first (so.second ++ more) so.line all so.none so.divides)
    ∙ after_found (length lines) so.first so.second more size
    ∙ ap (stop_within (length lines)) (sym (pair_at lines so.first so.second so.line so.is so.none so.divides))

-- where no line divides, the stop is that of one script, whatever lines follow
alone : (lines more : List (List ℕ)) (any : Bool) → list_any is_divider lines ≡ false → list_any is_divider more ≡ any
    → stop_within (length lines) (pair_of_lines (lines ++ more)) ≡ stop_early 0 (length lines) (script_of_lines lines)
alone lines more false none others =
    let all : list_any is_divider (lines ++ more) ≡ false =
    list_any-append is_divider lines more ∙ ap (λ b. b || list_any is_divider more) none ∙ others in
    ap (stop_within (length lines)) (pair_none (lines ++ more) all)
    ∙ undivided_early (length (lines ++ more)) (length lines) (script_of_lines (lines ++ more)) (omega (arith, length-append lines more))
    ∙ script_further 0 (length lines) lines more (omega arith)
alone lines more true none others = by (found more others)
  where
    by : Found more → stop_within (length lines) (pair_of_lines (lines ++ more)) ≡ stop_early 0 (length lines) (script_of_lines lines)
    by so =
        let all : lines ++ more ≡ (lines ++ so.first) ++ so.line ∷ so.second =
        ap (λ ls. lines ++ ls) so.is ∙ sym (append_assoc lines so.first (so.line ∷ so.second)) in
        let first : list_any is_divider (lines ++ so.first) ≡ false =
        list_any-append is_divider lines so.first ∙ ap (λ b. b || list_any is_divider so.first) none ∙ so.none in
        ap (stop_within (length lines)) (pair_at (lines ++ more) (lines ++ so.first) so.second so.line all first so.divides)
        ∙ first_early (length (lines ++ so.first) + 1) (length lines) (script_of_lines (lines ++ so.first)) (script_of_lines so.second)
        (omega (arith, length-append lines so.first))
        ∙ script_further 0 (length lines) lines so.first (omega arith)

none_further : (lines more : List (List ℕ)) → list_any is_divider lines ≡ false
    → stop_within (length lines) (pair_of_lines (lines ++ more)) ≡ stop_within (length lines) (pair_of_lines lines)
none_further lines more none =
    alone lines more _ none refl
    ∙ sym (undivided_early (length lines) (length lines) (script_of_lines lines) (omega arith))
    ∙ ap (stop_within (length lines)) (sym (pair_none lines none))

-- the stop of two scripts at one of these lines is the same, whatever lines follow
pub pair_further : (lines more : List (List ℕ))
    → stop_within (length lines) (pair_of_lines (lines ++ more)) ≡ stop_within (length lines) (pair_of_lines lines)
pair_further lines more = by (list_any is_divider lines) refl
  where
    by : (any : Bool) → list_any is_divider lines ≡ any
        → stop_within (length lines) (pair_of_lines (lines ++ more)) ≡ stop_within (length lines) (pair_of_lines lines)
    by true any = found_further lines more (found lines any)
    by false none = none_further lines more none

-- ---- bytes

-- bytes with the lines that end in them, which are the first lines whatever bytes follow, and the lines after those
record Ends (bytes : List ℕ) : Type 0 where
  pub whole : List (List ℕ)
  pub further : List ℕ → List (List ℕ)
  pub lines : (more : List ℕ) → lines_of (bytes ++ more) ≡ whole ++ further more
  pub count : count_by is_lf bytes ≡ length whole

ends : (bytes : List ℕ) → Ends bytes
ends [] = record { whole = []; further = lines_of; lines = λ more. refl; count = refl }
ends (b ∷ bytes) = by (is_lf b) refl (ends bytes)
  where
    first : (lf : Bool) → is_lf b ≡ lf → (more : List ℕ)
        → lines_of (b ∷ (bytes ++ more)) ≡ cond lf ([] ∷ lines_of (bytes ++ more)) (onto_first b (lines_of (bytes ++ more)))
    first lf is more = ap (λ e. cond e ([] ∷ lines_of (bytes ++ more)) (onto_first b (lines_of (bytes ++ more)))) is

    more_by : (lf : Bool) → is_lf b ≡ lf → count_by is_lf (b ∷ bytes) ≡ cond lf 1 0 + count_by is_lf bytes
    more_by lf is = sum_by-cons (λ x. cond (is_lf x) 1 0) b bytes ∙ ap (λ e. cond e 1 0 + count_by is_lf bytes) is

    inside : (whole : List (List ℕ)) (further : List ℕ → List (List ℕ)) → is_lf b ≡ false
        → ((more : List ℕ) → lines_of (bytes ++ more) ≡ whole ++ further more) → count_by is_lf bytes ≡ length whole → Ends (b ∷ bytes)
    inside [] further is lines count = record {
      whole = [];
      further = λ more. onto_first b (further more);
      lines = λ more. first false is more ∙ ap (onto_first b) (lines more);
      count = omega (arith, more_by false is, count);
    }
    inside (line ∷ whole) further is lines count = record {
      whole = (b ∷ line) ∷ whole;
      further = further;
      lines = λ more. first false is more ∙ ap (onto_first b) (lines more);
      count = omega (arith, more_by false is, count);
    }

    by : (lf : Bool) → is_lf b ≡ lf → Ends bytes → Ends (b ∷ bytes)
    by true is so = record {
      whole = [] ∷ so.whole;
      further = so.further;
      lines = λ more. first true is more ∙ ap (λ ls. [] ∷ ls) (so.lines more);
      count = omega (arith, more_by true is, so.count);
    }
    by false is so = inside so.whole so.further is so.lines so.count

-- the stop at a line that ends in bytes is the same, whatever bytes follow
same_stop : (bytes more : List ℕ)
    → stop_within (count_by is_lf bytes) (pair_of (bytes ++ more)) ≡ stop_within (count_by is_lf bytes) (pair_of bytes)
same_stop bytes more = by (ends bytes)
  where
    by : Ends bytes → stop_within (count_by is_lf bytes) (pair_of (bytes ++ more)) ≡ stop_within (count_by is_lf bytes) (pair_of bytes)
    by so =
        ap (λ n. stop_within n (pair_of (bytes ++ more))) so.count
        ∙ ap (λ ls. stop_within (length so.whole) (pair_of_lines ls)) (so.lines more)
        ∙ pair_further so.whole (so.further more)
        ∙ sym (pair_further so.whole (so.further []))
        ∙ ap (λ ls. stop_within (length so.whole) (pair_of_lines ls)) (sym (so.lines []))
        ∙ ap (λ bs. stop_within (length so.whole) (pair_of bs)) (append-nil bytes)
        ∙ ap (λ n. stop_within n (pair_of bytes)) (sym so.count)

-- so is the first bad line within bytes
bad_within-more : (bytes more : List ℕ) → bad_within (length bytes) (bytes ++ more) ≡ stop_within (count_by is_lf bytes) (pair_of bytes)
bad_within-more bytes more =
    ap (λ front. stop_within (count_by is_lf front) (pair_of (bytes ++ more))) (take-append_seam bytes more) ∙ same_stop bytes more

-- where bytes are two scripts, no line within them is bad
pub none_within : (bytes more : List ℕ) (pair : Pair) → pair_of bytes ≡ Ok pair → None ≡ bad_within (length bytes) (bytes ++ more)
none_within bytes more pair reads = sym (bad_within-more bytes more ∙ ap (stop_within (count_by is_lf bytes)) reads)

-- where they stop at a line that ends in them, it is the first bad line within them
pub stop_is_within : (bytes more : List ℕ) (lines : ℕ) (stop : PairStop) (found : Option PairStop) → lines ≡ count_by is_lf bytes
    → pair_of bytes ≡ Err stop → found ≡ stop_within lines (Err stop) → found ≡ bad_within (length bytes) (bytes ++ more)
stop_is_within bytes more lines stop found count reads is =
    is
    ∙ ap (λ n. stop_within n (Err stop)) count
    ∙ ap (stop_within (count_by is_lf bytes)) (sym reads)
    ∙ sym (bad_within-more bytes more)
