-- A session takes the lines of a script.
use Rattle.std.proofs.Common.{◌≡◌, ◌∙◌, ℕ, ◌<◌, false, nat_eq, List, [], Some, None, refl, ap, arith}
use Rattle.std.proofs.KnownBytes.{Appends-nil}
use Rattle.std.specs.Io.KnownBytes.{Appends}
use Rattle.std.specs.List.{list_any}
use Rattle.std.specs.Prelude.{Option}
use Rattle.fed_io.specs.Io.{AppendsFront}
use Rattle.fed_script.specs.declared.event.Event.{Event}
use Rattle.fed_script.specs.declared.event.Event.TheVariants as events
use Rattle.fed_script.specs.declared.event.Header.{Header}
use Rattle.fed_script.specs.declared.event.Line.TheVariants as found
use Rattle.fed_script.specs.Reader.{LineMayFollow, used_by}
use Rattle.fed_script.specs.Used.{UsedState, unused, used_after, IsUnused, HasProviders, HasKnownStatus}
use Rattle.fed_session.specs.Session.{State, Stands, IsFresh}
use Rattle.fed_trace.proofs.runs.Untaken.{untaken_after}
use Rattle.fed_trace.specs.OfScript.{start}
use Rattle.fed_trace.specs.Row.{with_event}
use Rattle.fed_trace.specs.Trace.{Trace}
use Rattle.fed_run.specs.Told.{Told, StandsAt, At, tell, event_text, line_text}

-- what was never used was never taken
abbrev Untaken : State → UsedState → Type 0
Untaken s used = (call : ℕ) → list_any (nat_eq call) used.calls ≡ false → list_any (nat_eq call) s.tabs.taken ≡ false

fresh_by : (s : State) (used : UsedState) (event : Event) → Untaken s used → IsUnused used event → IsFresh s event
fresh_by s used (events.Get page call options) untaken unused = untaken call unused
fresh_by s used (events.Disconnect page call config client hint) untaken unused = untaken call unused
fresh_by s used (events.Prevent page) untaken unused = tt
fresh_by s used (events.Have have) untaken unused = tt
fresh_by s used (events.At time) untaken unused = tt
fresh_by s used (events.Load page url raw) untaken unused = tt
fresh_by s used (events.ClosePage page) untaken unused = tt
fresh_by s used (events.Abort call) untaken unused = tt
fresh_by s used (events.Reply call provider kind raw) untaken unused = tt
fresh_by s used (events.Choose call provider account) untaken unused = tt
fresh_by s used (events.GoOn call) untaken unused = tt
fresh_by s used (events.Cancel call) untaken unused = tt
fresh_by s used (events.SignIn call) untaken unused = tt
fresh_by s used (events.ShutWindow call) untaken unused = tt
fresh_by s used (events.IdpClose page) untaken unused = tt
fresh_by s used (events.SetStatus page status) untaken unused = tt

-- what a session asks of an event that it takes
pub record MayTake (s : State) (event : Event) : Type 0 where
  pub few : s.steps < 1000000
  pub fresh : IsFresh s event
  pub providers : HasProviders event
  pub status : HasKnownStatus event

pub may_take : (used : Option UsedState) (s : State) (trace : Option Trace) (n : ℕ) (event : Event) → At used (Some s) trace
    → LineMayFollow used (found.Event n event) → MayTake s event
may_take (Some used) s (Some T) n event at follows = record {
  few = let steps = at.stands.steps in let count = at.count in let few = follows.few in omega (arith, steps, count, few);
  fresh = fresh_by s used event (λ call h. ap (list_any (nat_eq call)) at.stands.taken ∙ at.fresh call h) follows.once;
  providers = follows.provider;
  status = follows.status;
}
may_take (Some used) s None n event at follows = absurd at
may_take None s trace n event at follows = absurd at

-- an event more
pub event_taken : (used : UsedState) (s s' : State) (T : Trace) (n : ℕ) (event : Event) → StandsAt used s T
    → Stands s' (with_event T n event)
    → StandsAt (used_after event used) s' (with_event T n event)
event_taken used s s' T n event at stands = record {
  stands = stands;
  count = let count = at.count in omega (arith, count);
  fresh = untaken_after T n event used at.fresh;
}

pub after_event : (used : Option UsedState) (t : Told) (s s' : State) (taken taken' : Option (List ℕ)) (n : ℕ) (event : Event)
    → At used (Some s) t.trace → LineMayFollow used (found.Event n event)
    → ((T : Trace) → Stands s T → Stands s' (with_event T n event) × Appends taken taken' (event_text T n event))
    → At (used_by (found.Event n event) used) (Some s') (tell t (found.Event n event)).trace
    × Appends taken taken' (line_text t.trace (found.Event n event))
after_event used t s s' taken taken' n event at follows takes = by used t.trace at follows
  where
    by : (used : Option UsedState) (trace : Option Trace) → At used (Some s) trace → LineMayFollow used (found.Event n event)
        → At (used_by (found.Event n event) used) (Some s') (tell (record { trace = trace; bad = t.bad }) (found.Event n event)).trace
        × Appends taken taken' (line_text trace (found.Event n event))
    by (Some used) (Some T) at follows = let so = takes T at.stands in (event_taken used s s' T n event at so.0, so.1)
    by (Some used) None at follows = absurd at
    by None trace at follows = absurd at

-- what is so of an event's records is so of those of its line
pub of_event : (P : List ℕ → Type 0) (used : Option UsedState) (t : Told) (s : State) (n : ℕ) (event : Event)
    → At used (Some s) t.trace → ((T : Trace) → Stands s T → P (event_text T n event)) → P (line_text t.trace (found.Event n event))
of_event P used t s n event at takes = by used t.trace at
  where
    by : (used : Option UsedState) (trace : Option Trace) → At used (Some s) trace → P (line_text trace (found.Event n event))
    by (Some used) (Some T) at = takes T at.stands
    by (Some used) None at = absurd at
    by None trace at = absurd at

-- without a session no event follows
pub no_session : (used : Option UsedState) (trace : Option Trace) (n : ℕ) (event : Event) → At used None trace
    → LineMayFollow used (found.Event n event) → ⊥
no_session None trace n event at follows = follows
no_session (Some used) trace n event at follows = at

-- the header
pub after_head : (used : Option UsedState) (t : Told) (session session' : Option State) (n : ℕ) (header : Header)
    → At used session t.trace → LineMayFollow used (found.Head n header)
    → At (Some (unused header.now)) session' (Some (start header))
    → At (used_by (found.Head n header) used) session' (tell t (found.Head n header)).trace
after_head used t session session' n header at follows begun = by used session t.trace at follows
  where
    by : (used : Option UsedState) (session : Option State) (trace : Option Trace) → At used session trace
        → LineMayFollow used (found.Head n header)
        → At (Some (unused header.now)) session' (tell (record { trace = trace; bad = t.bad }) (found.Head n header)).trace
    by None None None at follows = begun
    by None None (Some T) at follows = absurd at
    by None (Some s) trace at follows = absurd at
    by (Some used) session trace at follows = absurd follows

-- it says nothing
pub stops_head : (trace : Option Trace) (n : ℕ) (header : Header) (taken : Option (List ℕ))
    → AppendsFront taken taken (line_text trace (found.Head n header))
stops_head None n header taken = ([], ([], refl), Appends-nil taken)
stops_head (Some T) n header taken = ([], ([], refl), Appends-nil taken)

pub begins : (session : State) (header : Header) → Stands session (start header) → StandsAt (unused header.now) session (start header)
begins session header stands = record { stands = stands; count = refl; fresh = λ call h. refl }
