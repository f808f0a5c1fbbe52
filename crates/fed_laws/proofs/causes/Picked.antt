-- The account for which a call asked for a token is of a provider of the call.
use Rattle.std.proofs.Common.{◌≡◌, ℕ, List, [], ◌∷◌, Option, Some, None, refl, sym, ap, subst, ◌∙◌, inl, inr}
use Rattle.std.specs.Prelude.{unwrap_or}
use Rattle.std.specs.List.{list_any}
use Rattle.fed_origin.specs.declared.stage.Stage.{Stage}
use Rattle.fed_origin.specs.declared.stage.Stage.TheVariants.{Reading, Gathering, Asserting, Ended}
use Rattle.fed_consent.specs.Outcomes as outcomes
use Rattle.fed_consent.specs.Outcomes.{Outcome}
use Rattle.fed_consent.specs.declared.table.input.Input.{Input}
use Rattle.fed_call.specs.Accounts.{Offered, provider_at}
use Rattle.fed_call.specs.Facts.{Facts, at_stage, facts_after}
use Rattle.fed_script.specs.declared.event.Event.{Event}
use Rattle.fed_script.specs.declared.event.Header.{Header}
use Rattle.std.specs.Prelude.{option_and_then}
use Rattle.fed_call.specs.Facts.{fresh}
use Rattle.fed_trace.specs.Begun.{CallOptions, ToGet, ToDisconnect}
use Rattle.fed_trace.specs.Call.{get_facts, first_row}
use Rattle.fed_trace.specs.Call as first
use Rattle.fed_trace.proofs.happens.First.{FirstTurn, FailsFirst, ReadsFirst, GathersFirst, HasSome, first_turn, known_begun}
use Rattle.fed_trace.proofs.happens.First as starts
use Rattle.fed_trace.proofs.happens.Ends.{Starts}
use Rattle.fed_trace.specs.Known.{world_at, facts_at}
use Rattle.fed_trace.specs.Row.{with_event, IsNew, IsRun}
use Rattle.fed_trace.specs.Trace.{Row, Trace}
use Rattle.fed_trace.proofs.known.Facts.{same_options}
use Rattle.fed_trace.proofs.happens.Gets.{facts_same, facts_ended, others_after}
use Rattle.fed_trace.proofs.happens.Taken.{Meets, facts_taken, outcome_of}
use Rattle.fed_trace.proofs.happens.Ends.{Happens, Left, Ends, Started, Took, Resumed, Takes}
use Rattle.fed_trace.proofs.happens.Happens.{happens}
use Rattle.fed_laws.proofs.pending.Asked.{invariant, row_is}
use Rattle.fed_laws.proofs.pending.Resumed.{goes_again}
use Rattle.fed_laws.proofs.pending.Stood.{Invariant, Stood, not_some}
use Rattle.fed_laws.proofs.pending.Taken.{IgnoresOrEnds, after_by, ends_asserting}
use Rattle.fed_laws.proofs.causes.Agreed.{AskingStep, known_now}
use Rattle.fed_laws.proofs.causes.Cause.{Caused}
use Rattle.fed_laws.proofs.causes.Caused.{caused}
use Rattle.fed_laws.proofs.turns.Turn.{Turn, Asks, Gives, Goes, picks_asked, told, turn_at}

-- what is picked where a token was asked for
abbrev pub Provided : Facts → Type 0
Provided f = f.stage ≡ Asserting → (x : Offered) → f.picked ≡ Some x → provider_at x.place f.options ≡ Some x.options

module _ (T : Trace) (line : ℕ) (event : Event) (call : ℕ) (f f' : Facts) (m : Meets T event call f) (s : Stood T call f)
    (c : Caused T call f) (before : Provided f)
    (now : facts_after (world_at T) f m.takes.input (outcome_of T f m.takes.input) ≡ Some f') where
  abbrev input : Input
  input = m.takes.input

  abbrev o : Outcome
  o = outcome_of T f input

  is_then : f' ≡ record (told (world_at T) f input o) { stage = unwrap_or o.stage f.stage }
  is_then = let after = after_by (unwrap_or o.stage f.stage) (told (world_at T) f input o) f' now in after.is

  options_then : f'.options ≡ f.options
  options_then =
      ap (λ g. g.options) is_then ∙ same_options (world_at T) (list_any outcomes.is_ignored o.effects) input f

  provided_then : Provided f'
  provided_then at x picked = go (turn_at (world_at T) f input)
    where
      over : {A : Type 0} → o.stage ≡ Some Ended → A
      over ended =
          not_some (facts_after (world_at T) f input o) f'
          (ap (λ st. at_stage (unwrap_or st f.stage) (told (world_at T) f input o)) ended) now

      back_to : f.stage ≡ Asserting → IgnoresOrEnds o → provider_at x.place f'.options ≡ Some x.options
      back_to was (inl ignores) =
          ap (provider_at x.place) options_then
          ∙ before was x (sym (ap (λ g. g.picked) is_then ∙ ap (λ y. (told (world_at T) f input y).picked) ignores.1) ∙ picked)
      back_to was (inr ended) = over ended

      go : Turn (world_at T) f input o → provider_at x.place f'.options ≡ Some x.options
      go (Asks a) =
          let both : Some x ≡ Some a.offered =
          sym picked ∙ ap (λ g. g.picked) is_then ∙ picks_asked (world_at T) f input o a in
          let same : x ≡ a.offered = cc in
          let asking : AskingStep T event call f = record { meets = m; stood = s; caused = c; asks = a } in
          ap (provider_at x.place) options_then
          ∙ subst (λ y. provider_at y.place f.options ≡ Some y.options) (sym same) (known_now T event call f asking).has
      go (Gives finish ended asks gives token) = over ended
      go (Goes asks gives leaves back) =
          let was = back (sym (ap (λ g. g.stage) is_then) ∙ at) in back_to was (ends_asserting (world_at T) f input was)

-- a call that begins asked for no token
provided_started : (T : Trace) (line : ℕ) (event : Event) (call : ℕ) (f' : Facts) → IsNew T.rows event → Starts T event call
    → facts_at (with_event T line event) call ≡ Some f' → Provided f'
provided_started T line event call f' new s is = go (first_turn (world_at T) s.busy s.begun.origin s.begun.options some_of)
  where
    o : Outcome
    o = first_row (world_at T) s.busy s.begun.origin s.begun.options

    some_of : HasSome s.begun.options
    some_of = (starts.is_first T event s.begun.page s.begun.call s.begun.options new s.is_event).some

    is_own : facts_at (with_event T line event) s.begun.call ≡ Some f'
    is_own = subst (λ c. facts_at (with_event T line event) c ≡ Some f') (sym s.is_call) is

    by : (stage : Stage) → o.stage ≡ Some stage → (options : CallOptions) → s.begun.options ≡ options
        → option_and_then get_facts (first.at_stage stage (first.fresh (world_at T) s.begun.call s.begun.page s.begun.origin options))
        ≡ Some f'
    by stage at options asked =
        ap (λ x. option_and_then get_facts (first.at_stage stage (first.fresh (world_at T) s.begun.call s.begun.page s.begun.origin x)))
        (sym asked)
        ∙ ap (option_and_then get_facts) (sym (known_begun T line event s.begun o stage s.effects at)) ∙ is_own

    reads : (options : CallOptions) → s.begun.options ≡ options → o.stage ≡ Some Reading → Provided f'
    reads (ToGet options) asked reading at =
        let whole : Some (fresh (world_at T) s.begun.call s.begun.page s.begun.origin options)
        ≡ Some f' = by Reading reading (ToGet options) asked in
        let same : fresh (world_at T) s.begun.call s.begun.page s.begun.origin options ≡ f' = cc in
        let no : Reading ≡ Asserting = ap (λ g. g.stage) same ∙ at in
        absurd (cc)
    reads (ToDisconnect options) asked reading at =
        let no : None ≡ Some f' = by Reading reading (ToDisconnect options) asked in absurd (cc)

    gathers : (options : CallOptions) → s.begun.options ≡ options → o.stage ≡ Some Gathering → Provided f'
    gathers (ToGet options) asked gathering at =
        let whole : Some (record (fresh (world_at T) s.begun.call s.begun.page s.begun.origin options) { stage = Gathering }) ≡ Some f' =
        by Gathering gathering (ToGet options) asked in
        let same : record (fresh (world_at T) s.begun.call s.begun.page s.begun.origin options) { stage = Gathering } ≡ f' = cc in
        let no : Gathering ≡ Asserting = ap (λ g. g.stage) same ∙ at in
        absurd (cc)
    gathers (ToDisconnect options) asked gathering at =
        let no : None ≡ Some f' = by Gathering gathering (ToDisconnect options) asked in absurd (cc)

    ends : (options : CallOptions) → s.begun.options ≡ options → o.stage ≡ Some Ended → Provided f'
    ends (ToGet options) asked ended at = let no : None ≡ Some f' = by Ended ended (ToGet options) asked in absurd (cc)
    ends (ToDisconnect options) asked ended at = let no : None ≡ Some f' = by Ended ended (ToDisconnect options) asked in absurd (cc)

    go : FirstTurn o → Provided f'
    go (FailsFirst failure ended asks gives) = ends s.begun.options refl ended
    go (ReadsFirst reading asks gives) = reads s.begun.options refl reading
    go (GathersFirst gathering asks gives) = gathers s.begun.options refl gathering

provided_by_row : (T : Trace) (line : ℕ) (event : Event) (call : ℕ) (f' : Facts) → Invariant T call
    → ((f : Facts) → facts_at T call ≡ Some f → Caused T call f) → ((f : Facts) → facts_at T call ≡ Some f → Provided f)
    → IsNew T.rows event
    → facts_at (with_event T line event) call ≡ Some f' → Provided f'
provided_by_row T line event call f' h caused provided new is = go (happens T event call)
  where
    taken : (t : Takes T event call) → (o : Option Facts) → facts_at T call ≡ o → Provided f'
    taken t None found = not_some (facts_at (with_event T line event) call) f' (others_after T line event call t found) is
    taken t (Some f) found =
        let m : Meets T event call f = record { takes = t; found = found } in
        provided_then T line event call f f' m (h.stood f found) (caused f found) (provided f found)
        (sym (facts_taken T line event call f m) ∙ is)

    go : Happens T event call → Provided f'
    go (Left l) = provided f' (sym (facts_same T line event call l.quiet.stage l.quiet.begins_none l.same) ∙ is)
    go (Ends e) = not_some (facts_at (with_event T line event) call) f' (facts_ended T line event call e.stage e.begins_none) is
    go (Started s) = provided_started T line event call f' new s is
    go (Took t) = taken t (facts_at T call) refl
    go (Resumed r) = λ at x picked.
        let again = goes_again T line event call f' r is in
        absurd (again.later (ap (λ g. g.stage) again.is ∙ at))

pub provided : (header : Header) (rows : List Row) (call : ℕ) → IsRun header rows → (f : Facts)
    → facts_at (record { header = header; rows = rows }) call ≡ Some f → Provided f
provided header [] call run f is = absurd (cc)
provided header (row ∷ rows) call run f is =
    let T : Trace = record { header = header; rows = rows } in
    provided_by_row T row.line row.event call f (invariant header rows call run.2) (caused header rows call run.2)
    (provided header rows call run.2) run.1
    (subst (λ r. facts_at (record { header = header; rows = r ∷ rows }) call ≡ Some f) (row_is T row run.0) is)
