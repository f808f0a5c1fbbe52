-- Events are taken one after the other.
use Rattle.std.proofs.Common.{◌≡◌, ℕ, ◌<◌, ◌≤◌, nat_eq, List, [], ◌∷◌, length, Option, Some, None, refl, ap, ◌∙◌, arith}
use Rattle.std.specs.List.{list_any}
use Rattle.fed_script.specs.declared.event.Event.{Event}
use Rattle.fed_script.specs.declared.event.Event.TheVariants as events
use Rattle.fed_script.specs.declared.event.Numbered.{Numbered}
use Rattle.fed_script.specs.Script.{Script, IsRead}
use Rattle.fed_script.specs.Used.{UsedState, unused, used_after, IsUnused, HasProviders, HasKnownStatus}
use Rattle.fed_session.specs.Session.{State, Stands, IsFresh}
use Rattle.fed_trace.specs.OfScript.{start}
use Rattle.fed_trace.specs.Row.{with_event}
use Rattle.fed_trace.specs.Trace.{Row, Trace, begun}
use Rattle.fed_trace.proofs.runs.Untaken.{untaken_after}
use Rattle.fed_audit.specs.declared.seen.Seen.{Seen}
use Rattle.fed_audit.specs.Follow.{Follows}
use Rattle.fed_audit.specs.Walk.{AreAbove, AreRising, AreUpTo, IsRising, IsUntaken, Walks, last_line}

fresh : (session : State) (T : Trace) (used : UsedState) (event : Event) → Stands session T → IsUntaken used.calls (begun T.rows)
    → IsUnused used event → IsFresh session event
fresh session T used (events.Get page call options) stands untaken unused =
    ap (list_any (nat_eq call)) stands.taken ∙ untaken call unused
fresh session T used (events.Disconnect page call config client hint) stands untaken unused =
    ap (list_any (nat_eq call)) stands.taken ∙ untaken call unused
fresh session T used (events.Have have) stands untaken unused = tt
fresh session T used (events.At time) stands untaken unused = tt
fresh session T used (events.Load page url raw) stands untaken unused = tt
fresh session T used (events.ClosePage page) stands untaken unused = tt
fresh session T used (events.Abort call) stands untaken unused = tt
fresh session T used (events.GoOn call) stands untaken unused = tt
fresh session T used (events.Cancel call) stands untaken unused = tt
fresh session T used (events.SignIn call) stands untaken unused = tt
fresh session T used (events.ShutWindow call) stands untaken unused = tt
fresh session T used (events.IdpClose page) stands untaken unused = tt
fresh session T used (events.Reply call place kind raw) stands untaken unused = tt
fresh session T used (events.Choose call place id) stands untaken unused = tt
fresh session T used (events.Prevent page) stands untaken unused = tt
fresh session T used (events.SetStatus page status) stands untaken unused = tt

-- what a step asks of the session
pub record MayTake (seen : Seen) (event : Event) : Type 0 where
  pub few : seen.session.steps < 1000000
  pub taken : seen.taken < 1000000
  pub fresh : IsFresh seen.session event
  pub provider : HasProviders event
  pub status : HasKnownStatus event

pub may_take : (script : Script) (seen : Seen) (last : Option Numbered) (n : Numbered) (ns : List Numbered)
    → Walks script seen last (n ∷ ns) → MayTake seen n.event
may_take script seen last n ns w =
    let may = w.read.0 in
    let steps = w.follows.stands.steps in
    let taken = w.follows.taken in
    let count = w.count in
    let few = may.few in
    record {
      few = omega (arith, steps, count, few);
      taken = omega (arith, taken, count, few);
      fresh = fresh seen.session w.trace w.used n.event w.follows.stands w.untaken may.once;
      provider = may.provider;
      status = may.status;
    }

below : (a b : ℕ) (rows : List Row) → a ≤ b → AreUpTo a rows → AreUpTo b rows
below a b [] h u = tt
below a b (row ∷ rows) h u = let low = u.0 in (omega (arith, h, low), below a b rows h u.1)

pub walks_on : (script : Script) (seen new : Seen) (last : Option Numbered) (n : Numbered) (ns : List Numbered)
    → (w : Walks script seen last (n ∷ ns)) → Follows new (with_event w.trace n.line n.event) → Walks script new (Some n) ns
walks_on script seen new last n ns w h =
    let up = w.above.0 in
    record {
      trace = with_event w.trace n.line n.event;
      follows = h;
      header = w.header;
      all = w.all;
      used = used_after n.event w.used;
      untaken = untaken_after w.trace n.line n.event w.used w.untaken;
      count = let count = w.count in omega (arith, count);
      read = w.read.1;
      is_last = (refl, refl);
      up_to = (omega arith, below (last_line last) n.line w.trace.rows (omega (arith, up)) w.up_to);
      above = w.rising.0;
      rising = w.rising.1;
    }

-- at the start
pub walks_first : (script : Script) (seen : Seen) → IsRead script → IsRising script → Follows seen (start script.header)
    → Walks script seen None script.events
walks_first script seen read rising h =
    record {
      trace = start script.header;
      follows = h;
      header = refl;
      all = refl;
      used = unused script.header.now;
      untaken = λ call unused. refl;
      count = refl;
      read = read;
      is_last = refl;
      up_to = tt;
      above = rising.0;
      rising = rising.1;
    }

-- lines that rise above one that is above a line are above it
pub all_above : (line : ℕ) (n : Numbered) (ns : List Numbered) → line < n.line → AreRising (n ∷ ns) → AreAbove line (n ∷ ns)
all_above line n ns h rising = (h, go line n.line ns h rising.0)
  where
    go : (a b : ℕ) (ns : List Numbered) → a < b → AreAbove b ns → AreAbove a ns
    go a b [] h u = tt
    go a b (m ∷ ns) h u = let up = u.0 in (omega (arith, h, up), go a b ns h u.1)

pub none_above : (line : ℕ) (ns : List Numbered) → length ns ≡ 0 → AreAbove line ns
none_above line [] is = tt
none_above line (n ∷ ns) is = absurd (omega (arith, is))

-- the same relation for a seen of which only the records changed
pub walks_same : (script : Script) (seen new : Seen) (last : Option Numbered) (left : List Numbered)
    → ((T : Trace) → Follows seen T → Follows new T) → Walks script seen last left → Walks script new last left
walks_same script seen new last left same w =
    record {
      trace = w.trace;
      follows = same w.trace w.follows;
      header = w.header;
      all = w.all;
      used = w.used;
      untaken = w.untaken;
      count = w.count;
      read = w.read;
      is_last = w.is_last;
      up_to = w.up_to;
      above = w.above;
      rising = w.rising;
    }
