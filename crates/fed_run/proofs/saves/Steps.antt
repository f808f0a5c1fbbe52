-- A session takes the events of a script, one after the other.
use Rattle.std.proofs.Common.{◌≡◌, ℕ, ◌+◌, ◌<◌, ◌≤◌, List, ◌∷◌, length, drop, drop-cons, add-one, get_or}
use Rattle.std.proofs.Common.{refl, sym, ap₂, subst, ◌∙◌, arith}
use Rattle.std.proofs.lemmas.List.{drop_all}
use Rattle.fed_script.specs.declared.event.Numbered.{Numbered}
use Rattle.fed_script.specs.Script.{Script, IsRead, AreRead}
use Rattle.fed_script.specs.Used.{UsedState, unused, used_after}
use Rattle.fed_session.specs.Session.{State, Stands}
use Rattle.fed_trace.specs.OfScript.{start, with_events, trace_of}
use Rattle.fed_trace.specs.Row.{with_event}
use Rattle.fed_trace.specs.Trace.{Trace, begun}
use Rattle.fed_trace.proofs.runs.Untaken.{IsUntaken, untaken_after}
use Rattle.fed_twin.proofs.compared.Compare.{MayStep, fresh}

-- The session is at a trace; with the events that are left it is the whole one, and each of them may follow.
pub record GoesOn (session : State) (left : List Numbered) (whole : Trace) : Type 0 where
  pub trace : Trace
  pub used : UsedState
  pub stands : Stands session trace
  pub count : used.events ≡ length trace.rows
  pub untaken : IsUntaken used.calls (begun trace.rows)
  pub read : AreRead used left
  pub same : with_events trace left ≡ whole

-- before the first event
pub begins : (script : Script) (session : State) → Stands session (start script.header) → IsRead script
    → GoesOn session script.events (trace_of script)
begins script session stands read =
    record {
      trace = start script.header;
      used = unused script.header.now;
      stands = stands;
      count = refl;
      untaken = λ call h. refl;
      read = read;
      same = refl;
    }

-- the next event is the first of those that are left
pub at_next : {session : State} {whole : Trace} (events : List Numbered) (i : ℕ) (n : Numbered) → i < length events
    → n ≡ get_or events i n → GoesOn session (drop i events) whole → GoesOn session (n ∷ drop (i + 1) events) whole
at_next {session = session} {whole = whole} events i n here item h =
    let left : drop i events ≡ n ∷ drop (i + 1) events =
    drop-cons events i n here ∙ ap₂ (λ x k. x ∷ drop k events) (sym item) (sym (add-one i)) in
    subst (λ ns. GoesOn session ns whole) left h

-- a step may be taken at it
pub may_step : {session : State} {whole : Trace} {n : Numbered} {ns : List Numbered} → GoesOn session (n ∷ ns) whole
    → MayStep session n.event
may_step {session = session} {n = n} h =
    let may = h.read.0 in
    let steps = h.stands.steps in
    let few = may.few in
    let count = h.count in
    record {
      few = omega (arith, steps, few, count);
      fresh = fresh session h.trace h.used n.event h.stands h.untaken may.once;
      provider = may.provider;
      status = may.status;
    }

-- an event more
pub goes_on : {session session' : State} {whole : Trace} {n : Numbered} {ns : List Numbered} → GoesOn session (n ∷ ns) whole
    → ((T : Trace) → Stands session T → Stands session' (with_event T n.line n.event)) → GoesOn session' ns whole
goes_on {n = n} h taken =
    record {
      trace = with_event h.trace n.line n.event;
      used = used_after n.event h.used;
      stands = taken h.trace h.stands;
      count = let count = h.count in omega (arith, count);
      untaken = untaken_after h.trace n.line n.event h.used h.untaken;
      read = h.read.1;
      same = h.same;
    }

-- after the last event
pub at_end : {session : State} {whole : Trace} (events : List Numbered) (i : ℕ) → length events ≤ i
    → GoesOn session (drop i events) whole → Stands session whole
at_end {session = session} {whole = whole} events i over h =
    let last = subst (λ ns. GoesOn session ns whole) (drop_all i events over) h in
    subst (λ T. Stands session T) last.same last.stands
