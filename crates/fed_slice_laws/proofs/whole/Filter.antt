-- A slice does what its part of the whole does.
use Rattle.std.proofs.Common.{◌≡◌, ℕ, Bool, true, false, cond, List, [], ◌∷◌, filter, refl, sym, ap, ap₂, subst, ◌∙◌}
use Rattle.std.specs.List.{AllByRecursion}
use Rattle.fed_script.specs.declared.event.Header.{Header}
use Rattle.fed_script.specs.declared.event.Numbered.{Numbered}
use Rattle.fed_trace.specs.OfScript.{start, with_events, trace_of}
use Rattle.fed_trace.specs.Row.{with_event, row_of}
use Rattle.fed_trace.specs.Trace.{Row, Trace}
use Rattle.fed_slice.specs.Part.{Part, has_event}
use Rattle.fed_slice.specs.Closure.{is_loaded}
use Rattle.fed_slice.specs.Slice.{part_of, in_slice}
use Rattle.fed_slice_laws.specs.Laws.{unnumbered, done_in, SliceIsFilter}
use Rattle.fed_slice_laws.proofs.looks.Looks.{SamePart}
use Rattle.fed_slice_laws.proofs.rows.Same.{EventFits, effects_same}
use Rattle.fed_slice_laws.proofs.rows.Grow.{grow_both, grow_left}
use Rattle.fed_slice_laws.proofs.whole.Fit.{all_fit}

module _ (p : Part) (loaded : ℕ → Bool) where
  abbrev own : Row → Bool
  own row = has_event p row.event

  abbrev Done : Trace → Trace → Type 0
  Done T U = done_in U.rows ≡ done_in (filter own T.rows)

  -- the walk over further events, from any two traces of which the part has the same
  abbrev Walks : List Numbered → Type 0
  Walks ns =
      (T U : Trace) → SamePart p loaded T U → Done T U → (ms : List Numbered)
      → unnumbered ms ≡ unnumbered (filter (λ n. has_event p n.event) ns) → Done (with_events T ns) (with_events U ms)

  walk : (ns : List Numbered) → AllByRecursion (λ n. EventFits p loaded n.event) ns → Walks ns
  walk [] fit T U h done [] same = done
  walk [] fit T U h done (m ∷ ms) same = absurd (cc)
  walk (n ∷ ns) fit T U h done ms same = by (walk ns fit.1) (has_event p n.event) refl ms same
    where
      rest : List Numbered
      rest = filter (λ n. has_event p n.event) ns

      by : Walks ns → (b : Bool) → has_event p n.event ≡ b → (ms : List Numbered) → unnumbered ms ≡ unnumbered (cond b (n ∷ rest) rest)
          → Done (with_events T (n ∷ ns)) (with_events U ms)
      by further false out ms same =
          further (with_event T n.line n.event) U (grow_left p loaded T U h n.line n.event fit.0 out)
          (done ∙ sym (ap (λ b. done_in (cond b (row_of T n.line n.event ∷ filter own T.rows) (filter own T.rows))) out))
          ms same
      by further true inside [] same = absurd (cc)
      by further true inside (m ∷ ms) same =
          let head : m.event ≡ n.event = cc in
          let tail : unnumbered ms ≡ unnumbered rest = cc in
          let both = grow_both p loaded T U h n.line m.line n.event fit.0 inside in
          subst (λ e. Done (with_events T (n ∷ ns)) (with_events (with_event U m.line e) ms)) (sym head)
          (further (with_event T n.line n.event) (with_event U m.line n.event) both
          (ap₂ (λ x xs. x ∷ xs) (sym (effects_same p loaded T U h n.event fit.0 inside)) done
          ∙ sym (ap (λ b. done_in (cond b (row_of T n.line n.event ∷ filter own T.rows) (filter own T.rows))) inside))
          ms tail)

begin_same : (p : Part) (loaded : ℕ → Bool) (header : Header) → header.rules ≡ p.rules → SamePart p loaded (start header) (start header)
begin_same p loaded header rules =
    record { rules = rules; header = refl; seen = refl; known = λ q own. refl; fits = tt; fits' = tt }

pub slice_is_filter_lem : SliceIsFilter
slice_is_filter_lem s w parties read closed slice =
    let p = part_of s parties in
    let loaded = is_loaded s.events in
    subst (λ header. done_in (with_events (start header) w.events).rows
    ≡ done_in (filter (λ row. in_slice s parties row.event) (trace_of s).rows))
    (sym slice.header)
    (walk p loaded s.events (all_fit s parties closed read) (start s.header) (start s.header) (begin_same p loaded s.header refl) refl
    w.events slice.events)
