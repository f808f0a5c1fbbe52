-- The walk of the twin test over two lists of events.
use Rattle.std.proofs.Common.{◌≡◌, ℕ, ◌+◌, ◌≤◌, ◌<◌, ◌↔◌, List, [], ◌∷◌, length, Option, Some, None}
use Rattle.std.proofs.Common.{Result, Ok, Err, IfOk, refl, sym, ap}
use Rattle.std.proofs.Common.{subst, ◌∙◌, arith}
use Rattle.fed_suffix.specs.Rule.{RuleSet}
use Rattle.fed_script.specs.declared.event.Event.{Event}
use Rattle.fed_script.specs.declared.event.Header.{Header}
use Rattle.fed_script.specs.declared.event.Numbered.{Numbered}
use Rattle.fed_script.specs.Script.{Script, IsRead, AreRead}
use Rattle.fed_script.specs.Used.{UsedState, unused, used_after}
use Rattle.fed_twin.specs.declared.fault.TwinClause.{TwinClause}
use Rattle.fed_twin.specs.declared.fault.TwinClause.TheVariants as clauses
use Rattle.fed_twin.specs.declared.fault.TwinFault.{TwinFault}
use Rattle.fed_twin.specs.Clauses.{SameHeaders, known_by, Gathers, named_after, BreaksFirst}
use Rattle.fed_twin.specs.Fault.{FoundFrom, TwinFrom, AgreesWith, named_with, TwinFaultOf}
use Rattle.fed_twin.specs.Origins.{Named, nobody}
use Rattle.fed_twin.specs.Providers.{Providers}
use Rattle.fed_twin.specs.Script.{kept_events}
use Rattle.fed_twin.specs.Twin.{SharesLoad, origin_named, both_named, providers_of, Twin}
use Rattle.fed_twin.proofs.twins.Fault.{in_turn_twins, twins_have_only_none}
use Rattle.fed_twin.proofs.twins.Party.{shares_by, same_providers_by}
use Rattle.fed_twin.proofs.twins.Origins.{Pair, NamesStandFor, nobody_named, agrees_if_named, names_if_named}

-- ---- how many events there are

few_events : (used : UsedState) (ns : List Numbered) → used.events ≤ 1000000 → AreRead used ns → used.events + length ns ≤ 1000000
few_events used [] few read = omega (arith, few)
few_events used (n ∷ ns) few read =
    let now : used.events < 1000000 = read.0.few in
    let further : (used.events + 1) + length ns ≤ 1000000 = few_events (used_after n.event used) ns (omega (arith, now)) read.1 in
    omega (arith, further)

pub few_in_script : (s : Script) → IsRead s → length s.events ≤ 1000000
few_in_script s read = let few = few_events (unused s.header.now) s.events (omega arith) read in omega (arith, few)

-- ---- the walk

-- What is found of the events that are left, and of what was named before, is found of all events.
pub record Walks (p : Providers) (es fs : List Event) (n : Named) (event : ℕ) (left right : List Event) : Type 0 where
  pub before : List Pair
  pub stand : NamesStandFor before n
  pub found : (found : Option TwinFault) → FoundFrom p before event left right found → FoundFrom p [] 1 es fs found
  pub twins : TwinFrom p before left right → TwinFrom p [] es fs

pub walk_begins : {p : Providers} {es fs : List Event} {n : Named} → n ≡ nobody → Walks p es fs n 1 es fs
walk_begins {p} {es} {fs} {n} none =
    subst (λ x. Walks p es fs x 1 es fs) (sym none)
    (record { before = []; stand = nobody_named; found = λ found h. h; twins = λ h. h })

-- two events that break no clause
walk_step : {p : Providers} {es fs : List Event} {n : Named} {event : ℕ} (e f : Event) (left right : List Event)
    → Walks p es fs n event (e ∷ left) (f ∷ right) → BreaksFirst p n e f None
    → Walks p es fs (named_after n e f) (event + 1) left right
walk_step e f left right w h =
    let both = both_named (origin_named e) (origin_named f) in
    let agrees = (agrees_if_named w.before _ w.stand both).0 h.3 in
    record {
      before = named_with w.before e f;
      stand = names_if_named w.before _ w.stand both agrees;
      found = λ found k. w.found found (
        λ wrong. absurd (wrong h.0),
        λ a wrong. absurd (wrong h.1),
        λ a b wrong. absurd (wrong h.2),
        λ a b c wrong. absurd (wrong agrees),
        λ a b c d. k,
      );
      twins = λ k. w.twins (h.0, h.1, h.2, agrees, k);
    }

pub walk_goes_on : {p : Providers} {es fs : List Event} {n n' : Named} {event : ℕ} {e f : Event} {left right more others : List Event}
    → Walks p es fs n event left right → left ≡ e ∷ more → right ≡ f ∷ others → BreaksFirst p n e f None
    → n' ≡ named_after n e f → Walks p es fs n' (event + 1) more others
walk_goes_on {p} {es} {fs} {n} {n'} {event} {e} {f} {left} {right} {more} {others} w l r h is =
    subst (λ x. Walks p es fs x (event + 1) more others) (sym is)
    (walk_step e f more others
    (subst (λ x. Walks p es fs n event x (f ∷ others)) l (subst (λ x. Walks p es fs n event left x) r w)) h)

-- two events that break a clause
pub walk_stops : {p : Providers} {es fs : List Event} {n : Named} {event : ℕ} {e f : Event} {left right more others : List Event}
    (clause : TwinClause) → Walks p es fs n event left right → left ≡ e ∷ more → right ≡ f ∷ others
    → BreaksFirst p n e f (Some clause) → FoundFrom p [] 1 es fs (Some (record { clause = clause; event = event }))
walk_stops {p} {es} {fs} {n} {event} {e} {f} {left} {right} {more} {others} clause w l r h =
    w.found (Some (record { clause = clause; event = event }))
    (subst (λ x. FoundFrom p w.before event x right (Some (record { clause = clause; event = event }))) (sym l)
    (subst (λ x. FoundFrom p w.before event (e ∷ more) x (Some (record { clause = clause; event = event }))) (sym r) (go clause h)))
  where
    go : (clause : TwinClause) → BreaksFirst p n e f (Some clause)
        → FoundFrom p w.before event (e ∷ more) (f ∷ others) (Some (record { clause = clause; event = event }))
    go clauses.Header h = absurd h
    go clauses.Kind h = (λ a. refl, λ a. absurd (h a), λ a. absurd (h a), λ a. absurd (h a), λ a. absurd (h a))
    go clauses.Member h = (
      λ wrong. absurd (wrong h.0),
      λ a b. refl,
      λ a b. absurd (h.1 b),
      λ a b. absurd (h.1 b),
      λ a b. absurd (h.1 b),
    )
    go clauses.Load h = (
      λ wrong. absurd (wrong h.0),
      λ a wrong. absurd (wrong h.1),
      λ a b c. refl,
      λ a b c. absurd (h.2 c),
      λ a b c. absurd (h.2 c),
    )
    go clauses.Origins h =
        let both = both_named (origin_named e) (origin_named f) in
        let differs = λ (agrees : AgreesWith w.before e f). h.3 ((agrees_if_named w.before n w.stand both).1 agrees) in (
          λ wrong. absurd (wrong h.0),
          λ a wrong. absurd (wrong h.1),
          λ a b wrong. absurd (wrong h.2),
          λ a b c d. refl,
          λ a b c d. absurd (differs d),
        )
    go clauses.Count h = absurd h

-- ---- other providers of whom the same is true

-- two lists of parties of which the clause on loads says the same
abbrev AgreeOnLoads : Providers → Providers → Type 0
AgreeOnLoads p q = (e f : Event) → SharesLoad p e f ↔ SharesLoad q e f

found_by : (p q : Providers) → AgreeOnLoads p q → (before : List Pair) (n : ℕ) (es fs : List Event) (found : Option TwinFault)
    → FoundFrom p before n es fs found → FoundFrom q before n es fs found
found_by p q same before n [] [] found h = h
found_by p q same before n [] (f ∷ fs) found h = h
found_by p q same before n (e ∷ es) [] found h = h
found_by p q same before n (e ∷ es) (f ∷ fs) found h = (
  h.0,
  h.1,
  λ a b wrong. h.2 a b (λ c. wrong ((same e f).0 c)),
  λ a b c. h.3 a b ((same e f).1 c),
  λ a b c d. found_by p q same (named_with before e f) (n + 1) es fs found (h.4 a b ((same e f).1 c) d),
)

twins_by : (p q : Providers) → AgreeOnLoads p q → (before : List Pair) (es fs : List Event) → TwinFrom p before es fs
    → TwinFrom q before es fs
twins_by p q same before [] [] h = h
twins_by p q same before [] (f ∷ fs) h = h
twins_by p q same before (e ∷ es) [] h = h
twins_by p q same before (e ∷ es) (f ∷ fs) h =
    (h.0, h.1, (same e f).0 h.2, h.3, twins_by p q same (named_with before e f) es fs h.4)

-- ---- the whole test

by_parties : (a b : Script) (rules : RuleSet) (keys : List (List ℕ)) → rules ≡ a.header.rules
    → Gathers [] (providers_of a b).parties keys → AgreeOnLoads (known_by rules keys) (providers_of a b)
by_parties a b rules keys is g e f =
    let same = same_providers_by (providers_of a b) rules keys is g in (
      shares_by (known_by rules keys) (providers_of a b) same e f,
      shares_by (providers_of a b) (known_by rules keys) (λ host. sym (same host)) e f,
    )

-- what is said of a result of the test
pub record IsTested (a b : Script) (found : Option TwinFault) : Type 0 where
  pub fault : TwinFaultOf a b found
  pub twins : (found ≡ None) ↔ Twin a b

-- what is found by the parties that were gathered is found by those of the two scripts
tested_by : (a b : Script) (rules : RuleSet) (keys : List (List ℕ)) (found : Option TwinFault) → SameHeaders a.header b.header
    → rules ≡ a.header.rules → Gathers [] (providers_of a b).parties keys
    → FoundFrom (known_by rules keys) [] 1 (kept_events a.events) (kept_events b.events) found
    → (found ≡ None → TwinFrom (known_by rules keys) [] (kept_events a.events) (kept_events b.events)) → IsTested a b found
tested_by a b rules keys found same is g h turns = record {
  fault = fault;
  twins = (
    λ none. in_turn_twins a b same.0 same.1 (twins_by (known_by rules keys) p by [] es fs (turns none)),
    λ twin. twins_have_only_none a b found twin fault,
  );
}
  where
    p : Providers
    p = providers_of a b

    es : List Event
    es = kept_events a.events

    fs : List Event
    fs = kept_events b.events

    by : AgreeOnLoads (known_by rules keys) p
    by = by_parties a b rules keys is g

    fault : TwinFaultOf a b found
    fault = record {
      header = λ wrong. absurd (wrong same);
      events = λ now rules_same. found_by (known_by rules keys) p by [] 1 es fs found h;
    }

-- headers and events as they are looked up, and a result if there was memory
pub tested : {E : Type 0} {first second own : Header} {ns ms : List Numbered} {keys : List (List ℕ)} (a b : Script)
    (result : Result (Option TwinFault) E) → first ≡ a.header → second ≡ b.header → own ≡ a.header → ns ≡ a.events → ms ≡ b.events
    → SameHeaders first second → Gathers [] (providers_of a b).parties keys
    → IfOk result (FoundFrom (known_by own.rules keys) [] 1 (kept_events ns) (kept_events ms))
    → IfOk result (λ found. found ≡ None → TwinFrom (known_by own.rules keys) [] (kept_events ns) (kept_events ms))
    → IfOk result (IsTested a b)
tested a b (Err e) is_first is_second is_own is_ns is_ms same g h turns = tt
tested {own = own} {ns = ns} {ms = ms} {keys = keys} a b (Ok found) is_first is_second is_own is_ns is_ms same g h turns =
    tested_by a b own.rules keys found headers (ap (λ x. x.rules) is_own) g
    (subst (λ x. FoundFrom p [] 1 (kept_events x) (kept_events b.events) found) is_ns
    (subst (λ x. FoundFrom p [] 1 (kept_events ns) (kept_events x) found) is_ms h))
    (λ none. subst (λ x. TwinFrom p [] (kept_events x) (kept_events b.events)) is_ns
    (subst (λ x. TwinFrom p [] (kept_events ns) (kept_events x)) is_ms (turns none)))
  where
    p : Providers
    p = known_by own.rules keys

    headers : SameHeaders a.header b.header
    headers = (
      sym (ap (λ x. x.now) is_first) ∙ same.0 ∙ ap (λ x. x.now) is_second,
      sym (ap (λ x. x.rules) is_first) ∙ same.1 ∙ ap (λ x. x.rules) is_second,
    )
