-- A get that is pending had no result.
use Rattle.std.proofs.Common.{◌≡◌, ℕ, true, false, List, [], ◌∷◌, ◌++◌, map, Option, Some, None, refl, sym, ap, ap₂}
use Rattle.std.proofs.Common.{subst, ◌∙◌}
use Rattle.std.specs.Prelude.{option_and_then, unwrap_or}
use Rattle.std.specs.List.{filter_map, list_any}
use Rattle.fed_origin.specs.declared.stage.Stage.TheVariants.{Ended}
use Rattle.fed_status.specs.Shared.{World}
use Rattle.fed_consent.specs.declared.table.finish.Finish.{Finish}
use Rattle.fed_consent.specs.Outcomes as outcomes
use Rattle.fed_consent.specs.Outcomes.{Outcome}
use Rattle.fed_call.specs.Facts.{Facts, at_stage, with_input}
use Rattle.fed_script.specs.declared.event.Event.{Event}
use Rattle.fed_script.specs.declared.event.Header.{Header}
use Rattle.fed_trace.specs.Begun.{Begun, CallOptions, ToGet, ToDisconnect, kind_asked}
use Rattle.fed_trace.specs.Call.{first_row, fresh, get_facts}
use Rattle.fed_trace.specs.Call as calls
use Rattle.fed_trace.specs.Known.{facts_at, is_begun, world_at}
use Rattle.fed_trace.specs.OfCall.{given}
use Rattle.fed_trace.specs.Row.{IsNew, IsRun, cookies_with, effects_of, outcome_effects, with_event}
use Rattle.fed_trace.specs.Trace.{Row, Trace, all_said}
use Rattle.fed_trace.proofs.happens.Ends.{Happens, Left, Ends, Started, Took, Resumed, Starts, Takes}
use Rattle.fed_trace.proofs.happens.First.{FirstTurn, FailsFirst, ReadsFirst, GathersFirst, first_turn, is_first, known_begun}
use Rattle.fed_trace.proofs.happens.Gets.{facts_ended, facts_same, others_after}
use Rattle.fed_trace.proofs.happens.Happens.{happens}
use Rattle.fed_trace.proofs.happens.Says.{finish_of, outcome_gives}
use Rattle.fed_trace.proofs.happens.Taken.{Meets, facts_taken, outcome_of}
use Rattle.fed_laws.proofs.causes.Cause.{started_begun}
use Rattle.fed_laws.proofs.pending.Asked.{row_is}
use Rattle.fed_laws.proofs.pending.Resumed.{found_resumed}
use Rattle.fed_laws.proofs.pending.Stood.{not_some, unbegun_before}
use Rattle.fed_laws.proofs.pending.Taken.{gives_at}
use Rattle.fed_laws.proofs.turns.Turn.{Turn, Asks, Gives, Goes, turn_at}

-- the results of a call, in their order
abbrev pub results : ℕ → List Row → List (ℕ × Finish)
results call rows = all_said (given call) rows

pub record Unanswered (T : Trace) (call : ℕ) : Type 0 where
  pub unbegun : is_begun T call ≡ false → results call T.rows ≡ []
  pub going : (f : Facts) → facts_at T call ≡ Some f → results call T.rows ≡ []

none_more : (T : Trace) (line : ℕ) (event : Event) (call : ℕ) → results call T.rows ≡ [] → filter_map (given call) (effects_of T event) ≡ []
    → results call (with_event T line event).rows ≡ []
none_more T line event call before now = ap₂ (λ (a b : List (ℕ × Finish)). a ++ b) before now

over : (world : World) (b : Begun) (options : CallOptions)
    → option_and_then get_facts (calls.at_stage Ended (fresh world b.call b.page b.origin options)) ≡ None
over world b (ToGet options) = refl
over world b (ToDisconnect options) = refl

step : (T : Trace) (line : ℕ) (event : Event) (call : ℕ) → IsNew T.rows event → Unanswered T call
    → Unanswered (with_event T line event) call
step T line event call new h = go (happens T event call)
  where
    keeps : filter_map (given call) (effects_of T event) ≡ []
        → ((f : Facts) → facts_at (with_event T line event) call ≡ Some f → results call (with_event T line event).rows ≡ [])
        → Unanswered (with_event T line event) call
    keeps none going =
        record {
          unbegun = λ fresh. none_more T line event call (h.unbegun (unbegun_before T line event call fresh)) none;
          going = going;
        }

    started : (s : Starts T event call) → FirstTurn (first_row (world_at T) s.busy s.begun.origin s.begun.options)
        → is_begun T s.begun.call ≡ false
        → (f : Facts) → facts_at (with_event T line event) call ≡ Some f → results call (with_event T line event).rows ≡ []
    started s turn unbegun f is = under turn
      where
        o : Outcome
        o = first_row (world_at T) s.busy s.begun.origin s.begun.options

        none : filter_map finish_of o.effects ≡ [] → results call (with_event T line event).rows ≡ []
        none gives =
            none_more T line event call (h.unbegun (subst (λ c. is_begun T c ≡ false) s.is_call unbegun))
            (ap (filter_map (given call)) s.effects
            ∙ (ap (λ c. filter_map (given c) (outcome_effects (world_at T) (cookies_with T) (kind_asked s.begun.options) s.begun.call
            s.begun.page o)) (sym s.is_call)
            ∙ (outcome_gives (world_at T) (cookies_with T) (kind_asked s.begun.options) s.begun.call s.begun.page o
            ∙ ap (map (λ x. (s.begun.page, x))) gives)))

        under : FirstTurn o → results call (with_event T line event).rows ≡ []
        under (FailsFirst failure ended asks gives) =
            not_some (facts_at (with_event T line event) call) f
            (subst (λ c. facts_at (with_event T line event) c ≡ None) s.is_call
            (ap (option_and_then get_facts) (known_begun T line event s.begun o Ended s.effects ended)
            ∙ over (world_at T) s.begun s.begun.options)) is
        under (ReadsFirst reading asks gives) = none gives
        under (GathersFirst gathering asks gives) = none gives

    turned : (g : Facts) → (m : Meets T event call g) → Turn (world_at T) g m.takes.input (outcome_of T g m.takes.input)
        → (f : Facts) → facts_at (with_event T line event) call ≡ Some f → results call (with_event T line event).rows ≡ []
    turned g m (Asks a) f is =
        none_more T line event call (h.going g m.found) (gives_at T event call g m ∙ ap (map (λ x. (g.page, x))) a.is.gives)
    turned g m (Goes asks gives leaves back) f is =
        none_more T line event call (h.going g m.found) (gives_at T event call g m ∙ ap (map (λ x. (g.page, x))) gives)
    turned g m (Gives finish ended asks gives token) f is =
        let o = outcome_of T g m.takes.input in
        not_some (facts_at (with_event T line event) call) f
        (facts_taken T line event call g m
        ∙ ap (λ st. at_stage (unwrap_or st g.stage) (with_input (world_at T) (list_any outcomes.is_ignored o.effects) m.takes.input g))
        ended) is

    taken : (t : Takes T event call) → (k : Option Facts) → facts_at T call ≡ k → (f : Facts)
        → facts_at (with_event T line event) call ≡ Some f → results call (with_event T line event).rows ≡ []
    taken t None found f is = not_some (facts_at (with_event T line event) call) f (others_after T line event call t found) is
    taken t (Some g) found f is = turned g (record { takes = t; found = found }) (turn_at (world_at T) g t.input) f is

    go : Happens T event call → Unanswered (with_event T line event) call
    go (Left l) =
        keeps l.quiet.gives (λ f is. none_more T line event call
        (h.going f (sym (facts_same T line event call l.quiet.stage l.quiet.begins_none l.same) ∙ is)) l.quiet.gives)
    go (Ends e) =
        keeps e.gives (λ f is. not_some (facts_at (with_event T line event) call) f (facts_ended T line event call e.stage e.begins_none)
        is)
    go (Resumed r) = keeps r.gives (λ f is. none_more T line event call (h.going r.facts (found_resumed T event call r)) r.gives)
    go (Started s) =
        let first = is_first T event s.begun.page s.begun.call s.begun.options new s.is_event in
        record {
          unbegun = λ fresh. let no : true ≡ false = sym (started_begun T line event call s) ∙ fresh in absurd (cc);
          going = started s (first_turn (world_at T) s.busy s.begun.origin s.begun.options first.some) first.fresh;
        }
    go (Took t) =
        record {
          unbegun = λ fresh. let no : true ≡ false = sym t.begun ∙ unbegun_before T line event call fresh in absurd (cc);
          going = taken t (facts_at T call) refl;
        }

pub unanswered : (header : Header) (rows : List Row) (call : ℕ) → IsRun header rows
    → Unanswered (record { header = header; rows = rows }) call
unanswered header [] call run = record { unbegun = λ new. refl; going = λ f is. absurd (cc) }
unanswered header (row ∷ rows) call run =
    let T : Trace = record { header = header; rows = rows } in
    subst (λ r. Unanswered (record { header = header; rows = r ∷ rows }) call) (sym (row_is T row run.0))
    (step T row.line row.event call run.1 (unanswered header rows call run.2))
