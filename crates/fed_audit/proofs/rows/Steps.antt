-- The event of the next row is taken.
use Rattle.std.proofs.Common.{◌≡◌, ◌<◌, nat_eq, List, [], ◌∷◌, ◌++◌, refl, sym, ap, subst, ◌∙◌, arith, append-nil}
use Rattle.std.specs.Prelude.{reverse}
use Rattle.std.proofs.lemmas.List.{append_assoc, reverse-append}
use Rattle.std.specs.List.{list_any}
use Rattle.fed_script.specs.declared.event.Event.{Event}
use Rattle.fed_script.specs.declared.event.Event.TheVariants as events
use Rattle.fed_script.specs.declared.event.Numbered.{Numbered}
use Rattle.fed_script.specs.Script.{Script, IsRead, AreRead}
use Rattle.fed_script.specs.Used.{UsedState, unused, used_after, IsUnused, HasProviders, HasKnownStatus}
use Rattle.fed_session.specs.Session.{State, Stands, IsFresh}
use Rattle.fed_trace.specs.declared.out.Out.{Out}
use Rattle.fed_trace.specs.OfScript.{start, with_events}
use Rattle.fed_trace.specs.Records.{records}
use Rattle.fed_trace.specs.Row.{row_of, with_event}
use Rattle.fed_trace.specs.Trace.{Trace, begun}
use Rattle.fed_trace.proofs.runs.Untaken.{untaken_after}
use Rattle.fed_audit.specs.declared.own.Rows.{Rows}
use Rattle.fed_audit.specs.Compare.{At, before}
use Rattle.fed_audit.specs.Rows.{IsAt, Took, rows_after}
use Rattle.fed_audit.specs.Told.{told_after}
use Rattle.fed_audit.specs.Walk.{IsUntaken}

fresh : (session : State) (T : Trace) (used : UsedState) (event : Event) → Stands session T → IsUntaken used.calls (begun T.rows)
    → IsUnused used event → IsFresh session event
fresh session T used (events.Get page call options) stands untaken unused =
    ap (list_any (nat_eq call)) stands.taken ∙ untaken call unused
fresh session T used (events.Disconnect page call config client hint) stands untaken unused =
    ap (list_any (nat_eq call)) stands.taken ∙ untaken call unused
fresh session T used (events.Have have) stands untaken unused = tt
fresh session T used (events.At time) stands untaken unused = tt
fresh session T used (events.Load page url raw) stands untaken unused = tt
fresh session T used (events.ClosePage page) stands untaken unused = tt
fresh session T used (events.Abort call) stands untaken unused = tt
fresh session T used (events.GoOn call) stands untaken unused = tt
fresh session T used (events.Cancel call) stands untaken unused = tt
fresh session T used (events.SignIn call) stands untaken unused = tt
fresh session T used (events.ShutWindow call) stands untaken unused = tt
fresh session T used (events.IdpClose page) stands untaken unused = tt
fresh session T used (events.Reply call place kind raw) stands untaken unused = tt
fresh session T used (events.Choose call place id) stands untaken unused = tt
fresh session T used (events.Prevent page) stands untaken unused = tt
fresh session T used (events.SetStatus page status) stands untaken unused = tt

-- what a step asks of the session
pub record MayStep (session : State) (event : Event) : Type 0 where
  pub few : session.steps < 1000000
  pub fresh : IsFresh session event
  pub provider : HasProviders event
  pub status : HasKnownStatus event

pub may_step : (rows : Rows) (at : At) (n : Numbered) (ns : List Numbered) → IsAt rows at → rows.events.now ≡ n ∷ ns
    → MayStep rows.session n.event
may_step rows at n ns h is =
    let read : AreRead h.used (n ∷ ns) = subst (AreRead h.used) is h.read in
    let may = read.0 in
    let steps = h.stands.steps in
    let count = h.count in
    let few = may.few in
    record {
      few = omega (arith, steps, count, few);
      fresh = fresh rows.session h.trace h.used n.event h.stands h.untaken may.once;
      provider = may.provider;
      status = may.status;
    }

pub took : (old new : Rows) (at : At) (n : Numbered) (ns : List Numbered) (outs : List Out) → (h : IsAt old at) → old.events.now ≡ n ∷ ns
    → outs ≡ records (row_of h.trace n.line n.event) → Stands new.session (with_event h.trace n.line n.event)
    → new.line ≡ n.line → new.events.now ≡ ns → new.left ≡ told_after outs []
    → Took new at
took old new at n ns outs h is outs_are stands line_is events_are left_is =
    let read : AreRead h.used (n ∷ ns) = subst (AreRead h.used) is h.read in
    record {
      row = row_of h.trace n.line n.event;
      left = rows_after (with_event h.trace n.line n.event) ns;
      all = h.more ∙ ap (rows_after h.trace) is;
      now = record {
        trace = with_event h.trace n.line n.event;
        stands = stands;
        line = sym line_is;
        left = sym (left_is ∙ ap (λ os. told_after os []) outs_are);
        more = ap (rows_after (with_event h.trace n.line n.event)) (sym events_are);
        used = used_after n.event h.used;
        untaken = untaken_after h.trace n.line n.event h.used h.untaken;
        count = let count = h.count in omega (arith, count);
        read = subst (AreRead (used_after n.event h.used)) (sym events_are) read.1;
      };
    }

-- ---- before the first row

reversed : (T : Trace) (ns : List Numbered) → reverse (with_events T ns).rows ≡ reverse T.rows ++ rows_after T ns
reversed T [] = sym (append-nil (reverse T.rows))
reversed T (n ∷ ns) =
    reversed (with_event T n.line n.event) ns
    ∙ (ap (λ rs. rs ++ rows_after (with_event T n.line n.event) ns) (reverse-append (row_of T n.line n.event ∷ []) T.rows)
    ∙ append_assoc (reverse T.rows) (row_of T n.line n.event ∷ []) (rows_after (with_event T n.line n.event) ns))

pub at_start : (script : Script) (rows : Rows) → IsRead script → Stands rows.session (start script.header) → rows.line ≡ 0
    → rows.events.now ≡ script.events → rows.left ≡ [] → IsAt rows (before script)
at_start script rows read stands line_is events_are left_is =
    record {
      trace = start script.header;
      stands = stands;
      line = sym line_is;
      left = sym left_is;
      more = reversed (start script.header) script.events ∙ ap (rows_after (start script.header)) (sym events_are);
      used = unused script.header.now;
      untaken = λ call unused. refl;
      count = refl;
      read = subst (AreRead (unused script.header.now)) (sym events_are) read;
    }
