-- Which row a record is judged by.
use Rattle.std.proofs.Common.{◌≡◌, ◌≢◌, ℕ, nat_eq, ◌<◌, ◌≤◌, ◌⊎◌, inl, inr, List, [], ◌∷◌, ◌++◌, Option, Some, None, refl, sym, ap, subst}
use Rattle.std.proofs.Common.{◌∙◌, arith}
use Rattle.std.specs.List.{list_any}
use Rattle.std.specs.Map.{lookup}
use Rattle.fed_script.specs.declared.event.Numbered.{Numbered}
use Rattle.fed_script.specs.Script.{Script}
use Rattle.fed_trace.specs.OfScript.{with_events, trace_of}
use Rattle.fed_trace.specs.Row.{row_of, with_event}
use Rattle.fed_trace.specs.Trace.{Row, Trace}
use Rattle.fed_audit.specs.declared.record.Record.{Record}
use Rattle.fed_audit.specs.declared.record.Record.TheVariants.{Request, Token, Answer, Other, End}
use Rattle.fed_audit.specs.declared.seen.Seen.{Seen}
use Rattle.fed_audit.specs.Audit.{HasPlace}
use Rattle.fed_audit.specs.Follow.{Follows, Notes}
use Rattle.fed_audit.specs.Record.{line_of, IsAtMost, AreUpToLine}
use Rattle.fed_audit.specs.Scene.{Scene, IsSceneOf, trace_through}
use Rattle.fed_audit.specs.Walk.{AreAbove, AreFrom, AreUpTo, IsLast, IsReached, Walks, last_line}

-- ---- later rows

record Later (T U : Trace) : Type 0 where
  rows : List Row
  all : U.rows ≡ rows ++ T.rows

shift : (xs ys : List Row) (row : Row) → xs ++ row ∷ ys ≡ (xs ++ row ∷ []) ++ ys
shift [] ys row = refl
shift (x ∷ xs) ys row = ap (λ zs. x ∷ zs) (shift xs ys row)

later_rows : (T : Trace) (ns : List Numbered) → Later T (with_events T ns)
later_rows T [] = record { rows = []; all = refl }
later_rows T (n ∷ ns) =
    let more = later_rows (with_event T n.line n.event) ns in
    record { rows = more.rows ++ row_of T n.line n.event ∷ []; all = more.all ∙ shift more.rows T.rows (row_of T n.line n.event) }

-- ---- the scene of a record at the line of the last event

pub record Scened (script : Script) (seen : Seen) (earlier : List Record) (n : Numbered) : Type 0 where
  pub scene : Scene
  pub follows : Follows seen (trace_through scene)
  pub event : n.event ≡ scene.row.event
  pub is : IsSceneOf script earlier n.line scene
  pub earlier_is : scene.earlier ≡ earlier

scened_by : (script : Script) (seen : Seen) (earlier : List Record) (n : Numbered) (left : List Numbered) (T : Trace) (rows : List Row)
    → T.rows ≡ rows → Follows seen T → T.header ≡ script.header → with_events T left ≡ trace_of script → IsLast (Some n) rows
    → Scened script seen earlier n
scened_by script seen earlier n left T [] is h header all last = absurd last
scened_by script seen earlier n left T (row ∷ before) is h header all last =
    let more = later_rows T left in
    record {
      scene = record { header = T.header; row = row; before = before; earlier = earlier };
      follows = subst (λ rows. Follows seen (record { header = T.header; rows = rows })) is h;
      event = sym last.1;
      is = record {
        header = header;
        later = more.rows;
        rows = sym (ap (λ (U : Trace). U.rows) all) ∙ (more.all ∙ ap (λ rs. more.rows ++ rs) is);
        is_line = last.0;
        records = refl;
      };
      earlier_is = refl;
    }

pub scened : (script : Script) (seen : Seen) (earlier : List Record) (n : Numbered) (left : List Numbered) → Walks script seen (Some n) left
    → Scened script seen earlier n
scened script seen earlier n left w =
    scened_by script seen earlier n left w.trace w.trace.rows refl w.follows w.header w.all w.is_last

-- ---- a record whose line is that of no event

pub NoneAt : ℕ → List Row → Type 0
NoneAt line [] = Unit {0}
NoneAt line (row ∷ rows) = (row.line ≢ line) × NoneAt line rows

pub none_below : (line top : ℕ) (rows : List Row) → top < line → AreUpTo top rows → NoneAt line rows
unfolding NoneAt
none_below line top [] h u = tt
none_below line top (row ∷ rows) h u =
    let low = u.0 in (λ is. omega (arith, h, low, is), none_below line top rows h u.1)

none_left : (line : ℕ) (T : Trace) (ns : List Numbered) → AreAbove line ns → NoneAt line T.rows → NoneAt line (with_events T ns).rows
unfolding NoneAt
none_left line T [] h none = none
none_left line T (n ∷ ns) h none =
    let up = h.0 in none_left line (with_event T n.line n.event) ns h.1 (λ is. omega (arith, up, is), none)

pub none_there : (line : ℕ) (later before : List Row) (row : Row) → NoneAt line (later ++ row ∷ before) → row.line ≡ line → ⊥
unfolding NoneAt
none_there line [] before row none is = none.0 is
none_there line (x ∷ later) before row none is = none_there line later before row none.1 is

pub no_place : (script : Script) (seen : Seen) (earlier : List Record) (last : Option Numbered) (left : List Numbered) (r : Record)
    (line : ℕ)
    → Walks script seen last left → last_line last < line → AreAbove line left → line_of r ≡ Some line
    → (s : Scene) → HasPlace script earlier r s → ⊥
no_place script seen earlier last left r line w below above at s place =
    let both : Some place.line ≡ Some line = sym place.is_line ∙ at in
    let same : place.line ≡ line = cc in
    none_there line place.scene.later s.before s.row
    (subst (NoneAt line) place.scene.rows
    (subst (λ (U : Trace). NoneAt line U.rows) w.all
    (none_left line w.trace left above (none_below line (last_line last) w.trace.rows below w.up_to))))
    (place.scene.is_line ∙ same)

-- ---- a record below an earlier one

reached_low : (line low : ℕ) (records : List Record) → IsReached low records → AreUpToLine line records → low ≤ line
reached_low line low [] h u = absurd h
reached_low line low (r ∷ records) (inl is) u = subst (IsAtMost line) is u.0
reached_low line low (r ∷ records) (inr more) u = reached_low line low records more u.1

pub too_low : (script : Script) (earlier : List Record) (low : ℕ) (r : Record) (line : ℕ) → AreFrom low earlier → line < low
    → line_of r ≡ Some line → (s : Scene) → HasPlace script earlier r s → ⊥
too_low script earlier low r line from h at s place = go from.reached
  where
    both : Some place.line ≡ Some line
    both = sym place.is_line ∙ at

    same : place.line ≡ line
    same = let e = both in cc

    go : (low ≡ 0) ⊎ IsReached low earlier → ⊥
    go (inl zero_is) = omega (arith, h, zero_is)
    go (inr reached) =
        let low_is = reached_low place.line low earlier reached place.rises in
        omega (arith, h, low_is, same)

-- ---- more records

up_more : (a b : ℕ) (records : List Record) → a ≤ b → AreUpToLine a records → AreUpToLine b records
up_more a b [] h u = tt
up_more a b (r ∷ records) h u = (go (line_of r) u.0, up_more a b records h u.1)
  where
    go : (o : Option ℕ) → IsAtMost a o → IsAtMost b o
    go None u = tt
    go (Some l) u = omega (arith, h, u)

pub from_more : (low line : ℕ) (r : Record) (earlier : List Record) → AreFrom low earlier → low ≤ line → line_of r ≡ Some line
    → AreFrom line (r ∷ earlier)
from_more low line r earlier from h at =
    record {
      most = (subst (IsAtMost line) (sym at) (omega arith), up_more low line earlier h from.most);
      reached = inr (inl at);
    }

pub from_end : (low : ℕ) (r : Record) (earlier : List Record) → AreFrom low earlier → line_of r ≡ None → AreFrom low (r ∷ earlier)
from_end low r earlier from at =
    record { most = (subst (IsAtMost low) (sym at) tt, from.most); reached = go from.reached }
  where
    go : (low ≡ 0) ⊎ IsReached low earlier → (low ≡ 0) ⊎ IsReached low (r ∷ earlier)
    go (inl is) = inl is
    go (inr reached) = inr (inr reached)

pub placed : (script : Script) (seen : Seen) (earlier : List Record) (n : Numbered) (low : ℕ) (r : Record)
    → (x : Scened script seen earlier n)
    → AreFrom low earlier → low ≤ n.line → line_of r ≡ Some n.line → HasPlace script earlier r x.scene
placed script seen earlier n low r x from h at =
    record { line = n.line; is_line = at; scene = x.is; rises = up_more low n.line earlier h from.most }

-- ---- the end

pub end_is : (r : Record) → line_of r ≡ None → r ≡ End
end_is End at = refl
end_is (Request line call provider kind bytes) at = absurd (cc)
end_is (Token line call provider token page auto) at = absurd (cc)
end_is (Answer line call) at = absurd (cc)
end_is (Other line) at = absurd (cc)

pub no_event : (script : Script) (seen : Seen) (earlier : List Record) (left : List Numbered) (r : Record) (line : ℕ)
    → Walks script seen None left → AreAbove line left → line_of r ≡ Some line
    → (s : Scene) → HasPlace script earlier r s → ⊥
unfolding NoneAt
no_event script seen earlier left r line w above at s place =
    let both : Some place.line ≡ Some line = sym place.is_line ∙ at in
    let same : place.line ≡ line = cc in
    none_there line place.scene.later s.before s.row
    (subst (NoneAt line) place.scene.rows
    (subst (λ (U : Trace). NoneAt line U.rows) w.all
    (none_left line w.trace left above (subst (NoneAt line) (sym w.is_last) tt))))
    (place.scene.is_line ∙ same)

pub not_end : (r : Record) (line : ℕ) → line_of r ≡ Some line → r ≢ End
not_end r line at is = let never : Some line ≡ None = sym at ∙ ap line_of is in absurd (cc)

pub notes_moved : (seen new : Seen) (earlier : List Record) → new.asked ≡ seen.asked → new.answered ≡ seen.answered → Notes seen earlier
    → Notes new earlier
notes_moved seen new earlier asked answered n =
    record {
      asked = λ q. ap (lookup (nat_eq q)) asked ∙ n.asked q;
      once = n.once;
      answered = λ q. ap (list_any (nat_eq q)) answered ∙ n.answered q;
    }
