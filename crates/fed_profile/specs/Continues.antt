-- What is saved goes on as the session itself.
use Rattle.std.specs.Prelude.{◌≡◌, ℕ, List, [], ◌∷◌, ◌++◌, flat_map, Ok}
use Rattle.std.specs.List.{AllZip}
use Rattle.fed_script.specs.declared.event.Event.{Event}
use Rattle.fed_script.specs.declared.event.Header.{Header}
use Rattle.fed_script.specs.declared.event.Numbered.{Numbered}
use Rattle.fed_script.specs.Line.{header_of, event_named}
use Rattle.fed_session.specs.declared.view.View.{View}
use Rattle.fed_session.specs.Session.{Shows}
use Rattle.fed_trace.specs.Known.{is_begun}
use Rattle.fed_trace.specs.OfScript.{start, with_events}
use Rattle.fed_trace.specs.Row.{IsRun}
use Rattle.fed_trace.specs.Trace.{Trace}
use Rattle.fed_profile.specs.declared.state.Saved.TheVariants.{Lines}
use Rattle.fed_profile.specs.Save.{Saves}
use Rattle.fed_profile.specs.Saved.{GoOn, does_after, events_of}

abbrev pub with_ends : List (List ℕ) → List ℕ
with_ends lines = flat_map (λ line. line ++ 10 ∷ []) lines

-- the text is lines, each with LF: a header, and lines that name these events; there may be any number of them
pub record ReadAs (text : List ℕ) (header : Header) (events : List Event) : Type 0 where
  pub first : List ℕ
  pub lines : List (List ℕ)
  pub text_is : text ≡ with_ends (first ∷ lines)
  pub header_is : header_of first ≡ Ok header
  pub events_are : AllZip (λ line event. event_named line ≡ Ok event) lines events

-- After the lines of the text, further events that name no call of the session, and do not turn its time back, do what they would have
-- done in it.
pub record Continues (T : Trace) (text : List ℕ) : Type 0 where
  pub header : Header
  pub events : List Event
  pub read : ReadAs text header events
  pub goes_on : (saved x y : List Numbered) → events_of saved ≡ events → events_of x ≡ events_of y → GoOn (is_begun T) T x
      → does_after T x ≡ does_after (with_events (start header) saved) y

-- the lines of a session that stands for a trace
abbrev pub SavedContinues : Type 0
SavedContinues =
    (T : Trace) (view : View) (text : List ℕ)
    → IsRun T.header T.rows → Shows view T → Saves view T.header.rules (Lines text) → Continues T text
