-- What stands of a call, as to the causes of a request for a token, holds after every row.
use Rattle.std.proofs.Common.{◌≡◌, ℕ, true, false, List, [], ◌∷◌, Option, Some, None, refl, sym, ap, subst, ◌∙◌}
use Rattle.fed_call.specs.Facts.{Facts}
use Rattle.fed_script.specs.declared.event.Event.{Event}
use Rattle.fed_script.specs.declared.event.Header.{Header}
use Rattle.fed_trace.specs.Known.{input_to, is_begun, facts_at}
use Rattle.fed_trace.specs.Row.{row_of, with_event, IsNew, IsRun}
use Rattle.fed_trace.specs.Trace.{Row, Trace}
use Rattle.fed_laws.proofs.pending.Asked.{invariant, row_is}
use Rattle.fed_laws.proofs.pending.Resumed.{GoesAgain, found_resumed, goes_again}
use Rattle.fed_laws.proofs.pending.Stood.{Invariant, not_some}
use Rattle.fed_trace.proofs.happens.First as starts
use Rattle.fed_trace.proofs.happens.Gets.{facts_same, facts_ended, others_after}
use Rattle.fed_trace.proofs.happens.Taken.{Meets, facts_taken}
use Rattle.fed_trace.proofs.happens.Ends.{Happens, Left, Ends, Started, Took, Resumed, Resumes, Leaves, Starts, Takes}
use Rattle.fed_trace.proofs.happens.Happens.{happens}
use Rattle.fed_laws.proofs.causes.Cause.{Caused, caused_left, caused_started, unheard}
use Rattle.fed_laws.proofs.causes.Come.{all_on, unsaid_left}
use Rattle.fed_laws.proofs.causes.Dialog.{caused_then}
use Rattle.fed_laws.proofs.causes.First.{Unheard}
use Rattle.fed_laws.proofs.turns.Way.{is_first}
use Rattle.fed_laws.specs.Laws.{GatheringAwaits, OfRuns}

-- the call asks for its accounts again
caused_resumed : (T : Trace) (line : ℕ) (event : Event) (call : ℕ) (f' : Facts) → (r : Resumes T event call) → Caused T call r.facts
    → facts_at (with_event T line event) call ≡ Some f' → Caused (with_event T line event) call f'
caused_resumed T line event call f' r c is =
    subst (Caused (with_event T line event) call) then.is
    (record {
      come = λ at.
          all_on T.rows call r.facts.options r.facts.progress (row_of T line event)
          (λ n q. unsaid_left T line event call n q (ap (input_to call) r.is_event) r.drops) (c.come (ap is_first r.at_window));
      awaits = λ at. c.awaits (ap is_first r.at_window);
      choosing = λ at. let no : false ≡ true = sym (ap is_first at) ∙ then.first in absurd (cc);
      prompting = λ at. let no : false ≡ true = sym (ap is_first at) ∙ then.first in absurd (cc);
    })
  where
    then : GoesAgain r.facts f'
    then = goes_again T line event call f' r is

-- ---- every row

caused_by_row : (T : Trace) (line : ℕ) (event : Event) (call : ℕ) (f' : Facts)
    → (is_begun T call ≡ false → Unheard T.rows call)
    → IsNew T.rows event → Invariant T call → ((f : Facts) → facts_at T call ≡ Some f → Caused T call f)
    → facts_at (with_event T line event) call ≡ Some f' → Caused (with_event T line event) call f'
caused_by_row T line event call f' nothing new h caused is = go (happens T event call)
  where
    by_left : Leaves T event call → Caused (with_event T line event) call f'
    by_left l =
        let found : facts_at T call ≡ Some f' = sym (facts_same T line event call l.quiet.stage l.quiet.begins_none l.same) ∙ is in
        caused_left T line event call f' (h.stood f' found) l (caused f' found)

    by_started : Starts T event call → Caused (with_event T line event) call f'
    by_started s =
        let fresh : is_begun T call ≡ false =
        subst (λ c. is_begun T c
        ≡ false) s.is_call (starts.is_first T event s.begun.page s.begun.call s.begun.options new s.is_event).fresh in
        caused_started T line event call f' new (nothing fresh) s is

    by_taken : (t : Takes T event call) → (o : Option Facts) → facts_at T call ≡ o → Caused (with_event T line event) call f'
    by_taken t None found = not_some (facts_at (with_event T line event) call) f' (others_after T line event call t found) is
    by_taken t (Some f) found =
        let m : Meets T event call f = record { takes = t; found = found } in
        caused_then T line event call f f'
        (record {
          meets = m;
          stood = h.stood f found;
          caused = caused f found;
          now = sym (facts_taken T line event call f m) ∙ is;
        })

    go : Happens T event call → Caused (with_event T line event) call f'
    go (Left l) = by_left l
    go (Ends e) =
        not_some (facts_at (with_event T line event) call) f'
        (facts_ended T line event call e.stage e.begins_none) is
    go (Started s) = by_started s
    go (Took t) = by_taken t (facts_at T call) refl
    go (Resumed r) = caused_resumed T line event call f' r (caused r.facts (found_resumed T event call r)) is

pub caused : (header : Header) (rows : List Row) (call : ℕ) → IsRun header rows → (f : Facts)
    → facts_at (record { header = header; rows = rows }) call ≡ Some f
    → Caused (record { header = header; rows = rows }) call f
caused header [] call run f is = absurd (cc)
caused header (row ∷ rows) call run f is =
    let T : Trace = record { header = header; rows = rows } in
    let same = row_is T row run.0 in
    subst (λ r. Caused (record { header = header; rows = r ∷ rows }) call f) (sym same)
    (caused_by_row T row.line row.event call f (unheard header rows call run.2) run.1 (invariant header rows call run.2)
    (caused header rows call run.2)
    (subst (λ r. facts_at (record { header = header; rows = r ∷ rows }) call ≡ Some f) same is))

pub gathering_awaits_lem : OfRuns GatheringAwaits
gathering_awaits_lem T run call f found at = (caused T.header T.rows call run f found).awaits (ap is_first at)
