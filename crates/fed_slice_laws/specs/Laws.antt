-- A slice does what its part of the whole does.
use Rattle.std.specs.Prelude.{◌≡◌, ℕ, List, filter, map}
use Rattle.fed_script.specs.declared.event.Event.{Event}
use Rattle.fed_script.specs.declared.event.Numbered.{Numbered}
use Rattle.fed_script.specs.Script.{Script, IsRead}
use Rattle.fed_trace.specs.Effect.{Effect}
use Rattle.fed_trace.specs.OfScript.{trace_of}
use Rattle.fed_trace.specs.Trace.{Row}
use Rattle.fed_slice.specs.Closure.{IsClosed, IsClosure}
use Rattle.fed_slice.specs.Slice.{in_slice, slice_of}

-- the events of numbered ones, whatever their lines
abbrev pub unnumbered : List Numbered → List Event
unnumbered events = map (λ n. n.event) events

-- the script has the header of the whole and the events of its slice by these parties, whatever their lines
pub record IsSlice (s : Script) (parties : List (List ℕ)) (w : Script) : Type 0 where
  pub header : w.header ≡ s.header
  pub events : unnumbered w.events ≡ unnumbered (slice_of s parties)

-- what rows do, the newest first
abbrev pub done_in : List Row → List (List Effect)
done_in rows = map (λ row. row.effects) rows

-- each event of the slice w does what it does in the whole s: the same effects, all of them, in the same order
abbrev pub DoesAsWhole : Script → List (List ℕ) → Script → Type 0
DoesAsWhole s parties w = done_in (trace_of w).rows ≡ done_in (filter (λ row. in_slice s parties row.event) (trace_of s).rows)

-- so does each slice by closed parties
abbrev pub SliceIsFilter : Type 0
SliceIsFilter = (s w : Script) (parties : List (List ℕ)) → IsRead s → IsClosed s parties → IsSlice s parties w → DoesAsWhole s parties w

-- and a slice is readable
abbrev pub SliceIsRead : Type 0
SliceIsRead = (s w : Script) (parties : List (List ℕ)) → IsRead s → IsSlice s parties w → IsRead w

-- a party has one closure
abbrev pub OneClosure : Type 0
OneClosure = (s : Script) (name : List ℕ) (a b : List (List ℕ)) → IsClosure s name a → IsClosure s name b → a ≡ b
