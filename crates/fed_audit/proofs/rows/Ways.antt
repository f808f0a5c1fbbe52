-- The way to the row of a line, and to the end.
use Rattle.std.proofs.Common.{◌≡◌, ℕ, ◌<◌, ◌≤◌, Bool, true, false, List, [], ◌∷◌, length, Option, Some, None, refl, sym, ap, subst, ◌∙◌}
use Rattle.std.proofs.Common.{arith, true≢false}
use Rattle.std.specs.Prelude.{⊤, is_some, slice_get, nat_le, nat_lt, ◌||◌, if◌then◌else◌}
use Rattle.fed_script.specs.declared.event.Numbered.{Numbered}
use Rattle.std.proofs.lemmas.Bool.Decides.{nat_tests}
use Rattle.std.specs.Map.{values_of}
use Rattle.fed_trace.specs.declared.out.Out.{Out}
use Rattle.fed_trace.specs.Row.{row_of, with_event}
use Rattle.fed_trace.specs.Trace.{Row, Trace}
use Rattle.fed_audit.specs.declared.difference.Difference.{Difference}
use Rattle.fed_audit.specs.declared.own.Rows.{Rows}
use Rattle.fed_audit.specs.Compare.{At, Arrival, Comes, Lacks, arrive, end_lacks, lacks}
use Rattle.fed_audit.specs.Rows.{IsAt, Took, HasArrived, missing_in, rows_after}
use Rattle.fed_audit.specs.Told.{Told, told_by}

le_of : (a b : ℕ) → a ≤ b → nat_le a b ≡ true
le_of a b h = grind (arith, nat_tests)

not_le_of : (a b : ℕ) → b < a → nat_le a b ≡ false
not_le_of a b h = grind (arith, nat_tests)

lt_of : (a b : ℕ) → a < b → nat_lt a b ≡ true
lt_of a b h = grind (arith, nat_tests)

not_lt_of : (a b : ℕ) → b ≤ a → nat_lt a b ≡ false
not_lt_of a b h = grind (arith, nat_tests)

-- ---- a way that is done

-- the row is that of the line, or of one after it
is_come : (line here : ℕ) (left : Told) (rows : List Row) → line ≤ here
    → arrive line here left rows ≡ Comes (record { line = here; left = left; rows = rows })
is_come line here (entry ∷ left) rows low = rw (le_of line here low) refl
is_come line here [] (row ∷ rows) low = rw (le_of line here low) refl
is_come line here [] [] low = refl

abbrev lacks_of : Difference → Option Difference → Arrival
lacks_of other (Some missing) = Lacks missing
lacks_of other None = Lacks other

-- something of it lacks its counterpart
lacking : (line here : ℕ) (left : Told) (rows : List Row) (d : Difference) → here < line → missing_in here left ≡ Some d
    → arrive line here left rows ≡ Lacks d
lacking line here (entry ∷ left) rows d low is = rw (not_le_of line here low) (ap (lacks_of (lacks here entry.1)) is)
lacking line here [] rows d low is = absurd (cc)

-- no event is left up to the line
abbrev pub AreAfter : ℕ → List Numbered → Type 0
AreAfter line [] = ⊤
AreAfter line (n ∷ ns) = line < n.line

pub none_after : (line : ℕ) (ns : List Numbered) → length ns ≡ 0 → AreAfter line ns
none_after line [] is = tt
none_after line (n ∷ ns) is = absurd (omega (arith, is))

pub some_after : (line : ℕ) (ns : List Numbered) (n : Numbered) (ms : List Numbered) → ns ≡ n ∷ ms → line < n.line → AreAfter line ns
some_after line ns n ms is low = subst (AreAfter line) (sym is) low

pub no_events : (ns : List Numbered) → length ns ≡ 0 → ns ≡ []
no_events [] is = refl
no_events (n ∷ ns) is = absurd (omega (arith, is))

either : (b : Bool) (now other : Arrival) → (if b || true then now else other) ≡ now
either true now other = refl
either false now other = refl

none_left : (line here : ℕ) (left : Told) (T : Trace) (ns : List Numbered) → missing_in here left ≡ None → AreAfter line ns
    → arrive line here left (rows_after T ns) ≡ Comes (record { line = here; left = left; rows = rows_after T ns })
none_left line here (entry ∷ left) T ns is after = absurd (cc)
none_left line here [] T [] is after = refl
none_left line here [] T (n ∷ ns) is after =
    rw (lt_of line n.line after) (either (nat_le line here) (Comes (record { line = here; left = []; rows = rows_after T (n ∷ ns) }))
    (arrive line n.line (told_by (row_of T n.line n.event)) (rows_after (with_event T n.line n.event) ns)))

-- ---- one row more

goes : (line here : ℕ) (left : Told) (row : Row) (rows : List Row) → here < line → missing_in here left ≡ None → row.line ≤ line
    → arrive line here left (row ∷ rows) ≡ arrive line row.line (told_by row) rows
goes line here (entry ∷ left) row rows low is up = absurd (cc)
goes line here [] row rows low is up = rw (not_le_of line here low) (rw (not_lt_of line row.line up) refl)

-- ---- the first that lacks its counterpart

abbrev told_of : ℕ → Option Out → Option Difference
told_of line (Some out) = Some (lacks line out)
told_of line None = None

pub one_missing : (line : ℕ) (left : Told) (out : Out) → Some out ≡ slice_get (values_of left) 0
    → missing_in line left ≡ Some (lacks line out)
one_missing line (entry ∷ left) out is = ap (told_of line) (sym is)
one_missing line [] out is = absurd (cc)

pub none_missing : (line : ℕ) (left : Told) → None ≡ slice_get (values_of left) 0 → missing_in line left ≡ None
none_missing line [] is = refl
none_missing line (entry ∷ left) is = absurd (cc)

-- the first of them
pub record Missing (found : Option Difference) (line : ℕ) (left : Told) : Type 0 where
  pub difference : Difference
  pub is : found ≡ Some difference
  pub lacks : missing_in line left ≡ Some difference

pub not_missing : (found : Option Difference) (line : ℕ) (left : Told) (b : Bool) → found ≡ missing_in line left → b ≡ is_some found
    → b ≡ false → missing_in line left ≡ None
not_missing found line [] b is some off = refl
not_missing found line (entry ∷ left) b is some off = absurd (true≢false (sym (some ∙ ap is_some is) ∙ off))

pub is_missing : (found : Option Difference) (line : ℕ) (left : Told) (b : Bool) → found ≡ missing_in line left → b ≡ is_some found
    → b ≡ true → Missing found line left
is_missing found line [] b is some on = absurd (true≢false (sym on ∙ (some ∙ ap is_some is)))
is_missing found line (entry ∷ left) b is some on = record { difference = lacks line entry.1; is = is; lacks = refl }

pub none_left_over : (line : ℕ) (left : Told) → missing_in line left ≡ None → left ≡ []
none_left_over line [] is = refl
none_left_over line (entry ∷ left) is = absurd (cc)

-- ---- in the words of what is kept

-- the way from one place is that from another
pub record Way (rows : Rows) (target : Arrival) (line : ℕ) : Type 0 where
  pub now : At
  pub is : IsAt rows now
  pub same : target ≡ arrive line now.line now.left now.rows

pub way_done : (rows : Rows) (target : Arrival) (line : ℕ) → Way rows target line → line ≤ rows.line → HasArrived rows target None
way_done rows target line w low =
    subst (λ a. HasArrived rows a None)
    (sym (w.same ∙ is_come line w.now.line w.now.left w.now.rows (subst (λ l. line ≤ l) (sym w.is.line) low))) (refl, w.is)

pub way_lacks : (rows : Rows) (target : Arrival) (line : ℕ) (found : Option Difference) (d : Difference) → Way rows target line
    → rows.line < line → found ≡ missing_in rows.line rows.left → found ≡ Some d → HasArrived rows target found
way_lacks rows target line found d w low missing is =
    let here_is = w.is.line in
    subst (λ a. HasArrived rows a found)
    (sym (w.same ∙ lacking line w.now.line w.now.left w.now.rows d (omega (arith, here_is, low))
    (ap (missing_in w.now.line) w.is.left ∙ (ap (λ l. missing_in l rows.left) w.is.line ∙ (sym missing ∙ is))))) is

pub way_ends : (rows : Rows) (target : Arrival) (line : ℕ) → Way rows target line → missing_in rows.line rows.left ≡ None
    → AreAfter line rows.events.now → HasArrived rows target None
way_ends rows target line w missing after =
    subst (λ a. HasArrived rows a None)
    (sym (w.same ∙ (ap (arrive line w.now.line w.now.left) w.is.more
    ∙ (none_left line w.now.line w.now.left w.is.trace rows.events.now
    (ap (missing_in w.now.line) w.is.left ∙ (ap (λ l. missing_in l rows.left) w.is.line ∙ missing)) after
    ∙ ap (λ rs. Comes (record { line = w.now.line; left = w.now.left; rows = rs })) (sym w.is.more)))))
    (refl, w.is)

abbrev first_line : List Row → ℕ
first_line [] = 0
first_line (row ∷ rows) = row.line

pub way_on : (rows new : Rows) (target : Arrival) (line : ℕ) (n : Numbered) (ns : List Numbered) → (w : Way rows target line)
    → rows.line < line → missing_in rows.line rows.left ≡ None → rows.events.now ≡ n ∷ ns → n.line ≤ line → Took new w.now
    → Way new target line
way_on rows new target line n ns w low missing events_are up t =
    let line_is : t.row.line ≡ n.line =
    ap first_line (sym t.all ∙ (w.is.more ∙ ap (rows_after w.is.trace) events_are)) in
    let here_is = w.is.line in
    record {
      now = record { line = t.row.line; left = told_by t.row; rows = t.left };
      is = t.now;
      same =
          w.same
          ∙ (ap (arrive line w.now.line w.now.left) t.all
          ∙ goes line w.now.line w.now.left t.row t.left (omega (arith, here_is, low))
          (ap (missing_in w.now.line) w.is.left ∙ (ap (λ l. missing_in l rows.left) w.is.line ∙ missing))
          (omega (arith, line_is, up)));
    }

-- ---- the way to the end

pub record EndWay (rows : Rows) (target : Option Difference) : Type 0 where
  pub now : At
  pub is : IsAt rows now
  pub same : target ≡ end_lacks now.line now.left now.rows

end_of : (here : ℕ) (left : Told) (rows : List Row) (d : Difference) → missing_in here left ≡ Some d → end_lacks here left rows ≡ Some d
end_of here (entry ∷ left) rows d is = is
end_of here [] rows d is = absurd (cc)

end_on : (here : ℕ) (left : Told) (row : Row) (rows : List Row) → missing_in here left ≡ None
    → end_lacks here left (row ∷ rows) ≡ end_lacks row.line (told_by row) rows
end_on here (entry ∷ left) row rows is = absurd (cc)
end_on here [] row rows is = refl

end_none : (here : ℕ) (left : Told) → missing_in here left ≡ None → end_lacks here left [] ≡ None
end_none here (entry ∷ left) is = absurd (cc)
end_none here [] is = refl

pub end_lacking : (rows : Rows) (target found : Option Difference) (d : Difference) → EndWay rows target
    → found ≡ missing_in rows.line rows.left → found ≡ Some d → found ≡ target
end_lacking rows target found d w missing is =
    is ∙ sym (w.same ∙ end_of w.now.line w.now.left w.now.rows d
    (ap (missing_in w.now.line) w.is.left ∙ (ap (λ l. missing_in l rows.left) w.is.line ∙ (sym missing ∙ is))))

pub end_done : (rows : Rows) (target : Option Difference) → EndWay rows target → missing_in rows.line rows.left ≡ None
    → rows.events.now ≡ [] → None ≡ target
end_done rows target w missing events_are =
    sym (w.same ∙ (ap (end_lacks w.now.line w.now.left) (w.is.more ∙ ap (rows_after w.is.trace) events_are)
    ∙ end_none w.now.line w.now.left
    (ap (missing_in w.now.line) w.is.left ∙ (ap (λ l. missing_in l rows.left) w.is.line ∙ missing))))

pub end_further : (rows new : Rows) (target : Option Difference) → (w : EndWay rows target) → missing_in rows.line rows.left ≡ None
    → Took new w.now → EndWay new target
end_further rows new target w missing t =
    record {
      now = record { line = t.row.line; left = told_by t.row; rows = t.left };
      is = t.now;
      same =
          w.same
          ∙ (ap (end_lacks w.now.line w.now.left) t.all
          ∙ end_on w.now.line w.now.left t.row t.left
          (ap (missing_in w.now.line) w.is.left ∙ (ap (λ l. missing_in l rows.left) w.is.line ∙ missing)));
    }
