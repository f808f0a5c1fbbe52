-- What stands of a call that asks for its accounts again, since a page of its provider said that the user has signed in.
use Rattle.std.proofs.Common.{true, ◌≡◌, ℕ, false, ◌⊎◌, inl, inr, [], Option, Some, None, refl, sym, ap, subst, ◌∙◌}
use Rattle.std.specs.Prelude.{option_and_then, unwrap_or}
use Rattle.fed_origin.specs.declared.stage.Stage.{Stage}
use Rattle.fed_origin.specs.declared.stage.Stage.TheVariants.{Listing, Window, Asserting}
use Rattle.fed_provider.specs.declared.config.Config.{Config}
use Rattle.fed_consent.specs.Outcomes.{only_place}
use Rattle.fed_call.specs.Facts.{Facts, at_stage, config_at}
use Rattle.fed_call.specs.WindowRows.{asks_again}
use Rattle.fed_script.specs.declared.event.Event.{Event}
use Rattle.fed_trace.specs.Call.{get_facts}
use Rattle.fed_trace.specs.Known.{facts_at}
use Rattle.fed_trace.specs.OfCall.{assertions, replaces}
use Rattle.fed_trace.specs.Row.{with_event}
use Rattle.fed_trace.specs.Trace.{Trace}
use Rattle.fed_trace.proofs.happens.Ends.{Resumes}
use Rattle.fed_trace.proofs.happens.Gets.{facts_resumed}
use Rattle.fed_laws.proofs.pending.Stood.{Invariant, Stood, asks_same, invariant_by, stood_on}
use Rattle.fed_laws.proofs.turns.Turn.{is_open}
use Rattle.fed_laws.proofs.turns.Way.{is_first}

-- it was in Window
pub found_resumed : (T : Trace) (event : Event) (call : ℕ) → (r : Resumes T event call) → facts_at T call ≡ Some r.facts
found_resumed T event call r = ap (option_and_then get_facts) r.found

pub stage_resumed : (T : Trace) (event : Event) (call : ℕ) (f : Facts) → (r : Resumes T event call) → facts_at T call ≡ Some f
    → f.stage ≡ Window
stage_resumed T event call f r found =
    let both : Some f ≡ Some r.facts = sym found ∙ found_resumed T event call r in
    let same : f ≡ r.facts = cc in
    ap (λ g. g.stage) same ∙ r.at_window

-- all else that is known of it stays, and it comes neither to a dialog nor to its token
pub record GoesAgain (f f' : Facts) : Type 0 where
  pub stage : Stage
  pub is : record f { stage = stage } ≡ f'
  pub closed : is_open stage ≡ false
  pub first : is_first stage ≡ true
  pub later : stage ≡ Asserting → ⊥

pub goes_again : (T : Trace) (line : ℕ) (event : Event) (call : ℕ) (f' : Facts) → (r : Resumes T event call)
    → facts_at (with_event T line event) call ≡ Some f' → GoesAgain r.facts f'
goes_again T line event call f' r is = go (config_at only_place r.facts) (sym (facts_resumed T line event call r) ∙ is)
  where
    go : (config : Option Config) → at_stage (unwrap_or (asks_again only_place config).stage Window) r.facts ≡ Some f'
        → GoesAgain r.facts f'
    go None whole = let same : record r.facts { stage = Window } ≡ f' = cc in
        record { stage = Window; is = same; closed = refl; first = refl; later = λ h. cc }
    go (Some config) whole = let same : record r.facts { stage = Listing } ≡ f' = cc in
        record { stage = Listing; is = same; closed = refl; first = refl; later = λ h. cc }

pub when_resumed : (T : Trace) (line : ℕ) (event : Event) (call : ℕ) → Invariant T call → Resumes T event call
    → Invariant (with_event T line event) call
when_resumed T line event call h r =
    invariant_by T line event call h r.asks
    (λ f' is. let then = goes_again T line event call f' r is in
    subst (Stood (with_event T line event) call) then.is
    (stood_on T line event call r.facts (record r.facts { stage = then.stage }) s (ap (replaces r.facts.page) r.is_event) r.pending
    r.begins_none r.gives refl refl refl refl (inl (asks_same T line event call r.asks ∙ first s.asks))
    (λ at. absurd (then.later at))))
  where
    s : Stood T call r.facts
    s = h.stood r.facts (found_resumed T event call r)

    first : (assertions call T.rows ≡ []) ⊎ (r.facts.stage ≡ Asserting) → assertions call T.rows ≡ []
    first (inl none) = none
    first (inr at) = let no : Window ≡ Asserting = sym r.at_window ∙ at in absurd (cc)
