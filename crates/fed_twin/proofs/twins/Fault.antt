-- The twin test finds nothing of twins, and nothing else.
use Rattle.std.proofs.Common.{◌≡◌, ℕ, suc, ◌+◌, ◌⊎◌, inl, inr, List, [], ◌∷◌, ◌++◌, zip, length, Option, Some}
use Rattle.std.proofs.Common.{None, IfSome, option_to_list}
use Rattle.std.proofs.Common.{refl, ap, arith}
use Rattle.std.specs.List.{AllByRecursion, cons_option}
use Rattle.fed_origin.specs.declared.origin.Origin.{Origin}
use Rattle.fed_script.specs.declared.event.Event.{Event}
use Rattle.fed_script.specs.Script.{Script}
use Rattle.fed_twin.specs.declared.fault.TwinFault.{TwinFault}
use Rattle.fed_twin.specs.Fault.{FoundFrom, TwinFrom, AgreesWith, named_with, TwinFaultOf}
use Rattle.fed_twin.specs.Origins.{Agree}
use Rattle.fed_twin.specs.Script.{kept_events}
use Rattle.fed_twin.specs.Providers.{Providers}
use Rattle.fed_twin.specs.Twin.{SharesMembers, SharesLoad, kind_of, origin_named, both_named, origins_named, providers_of, pairs_of, Twin}
use Rattle.fed_twin.proofs.twins.Origins.{InTurn, turn_by_turn, all_nothing, at_once}

-- of twins the test finds nothing
nothing_from : (p : Providers) (before : List (Origin × Origin)) (n : ℕ) (es fs : List Event) → length es ≡ length fs
    → AllByRecursion (λ x. kind_of x.0 ≡ kind_of x.1) (zip es fs) → AllByRecursion (λ x. SharesMembers x.0 x.1) (zip es fs)
    → AllByRecursion (λ x. SharesLoad p x.0 x.1) (zip es fs) → InTurn before (origins_named (zip es fs))
    → FoundFrom p before n es fs None
nothing_from p before n [] [] count kind member load turns = refl
nothing_from p before n [] (f ∷ fs) count kind member load turns = absurd (omega (arith, count))
nothing_from p before n (e ∷ es) [] count kind member load turns = absurd (omega (arith, count))
nothing_from p before n (e ∷ es) (f ∷ fs) count kind member load turns = (
  λ not_so. absurd (not_so kind.0),
  λ k not_so. absurd (not_so member.0),
  λ k m not_so. absurd (not_so load.0),
  λ k m l not_so. absurd (not_so (agrees (both_named (origin_named e) (origin_named f)) turns)),
  λ k m l agree. nothing_from p (named_with before e f) (n + 1) es fs (omega (arith, count)) kind.1 member.1 load.1
      (later (both_named (origin_named e) (origin_named f)) turns),
)
  where
    agrees : (o : Option (Origin × Origin)) → InTurn before (cons_option o (origins_named (zip es fs)))
        → IfSome o (λ o. AllByRecursion (Agree o) before)
    agrees None h = tt
    agrees (Some o) h = h.0

    later : (o : Option (Origin × Origin)) → InTurn before (cons_option o (origins_named (zip es fs)))
        → InTurn (option_to_list o ++ before) (origins_named (zip es fs))
    later None h = h
    later (Some o) h = h.1

pub twins_have_none : (a b : Script) → Twin a b → TwinFaultOf a b None
twins_have_none a b twin =
    record {
      header = λ not_so. absurd (not_so (twin.now, twin.rules));
      events =
          λ now rules. nothing_from (providers_of a b) [] 1 (kept_events a.events)
          (kept_events b.events) twin.count twin.kind twin.member twin.load
          (turn_by_turn [] (origins_named (pairs_of a b)) (all_nothing (origins_named (pairs_of a b))) twin.origins);
    }

-- ---- the other way, where each clause is decided, as the code does

abbrev pub Decided : Type 0 → Type 0
Decided P = P ⊎ ¬ P

pub record Decisions (p : Providers) : Type 0 where
  pub kind : (e f : Event) → Decided (kind_of e ≡ kind_of f)
  pub member : (e f : Event) → Decided (SharesMembers e f)
  pub load : (e f : Event) → Decided (SharesLoad p e f)
  pub origins : (before : List (Origin × Origin)) (e f : Event) → Decided (AgreesWith before e f)

-- what holds of events of which the test finds nothing
record AllHold (p : Providers) (before : List (Origin × Origin)) (es fs : List Event) : Type 0 where
  count : length es ≡ length fs
  kind : AllByRecursion (λ x. kind_of x.0 ≡ kind_of x.1) (zip es fs)
  member : AllByRecursion (λ x. SharesMembers x.0 x.1) (zip es fs)
  load : AllByRecursion (λ x. SharesLoad p x.0 x.1) (zip es fs)
  turns : InTurn before (origins_named (zip es fs))

none_holds : (p : Providers) → Decisions p → (before : List (Origin × Origin)) (n : ℕ) (es fs : List Event)
    → FoundFrom p before n es fs None → AllHold p before es fs
none_holds p d before n [] [] h = record { count = refl; kind = tt; member = tt; load = tt; turns = tt }
none_holds p d before n [] (f ∷ fs) h = absurd (cc)
none_holds p d before n (e ∷ es) [] h = absurd (cc)
none_holds p d before n (e ∷ es) (f ∷ fs) h =
    go (d.kind e f) (d.member e f) (d.load e f)
    (d.origins before e f) (λ k m l o. none_holds p d (named_with before e f) (n + 1) es fs (h.4 k m l o))
  where
    front : (o : Option (Origin × Origin)) → IfSome o (λ o. AllByRecursion (Agree o) before)
        → InTurn (option_to_list o ++ before) (origins_named (zip es fs))
        → InTurn before (cons_option o (origins_named (zip es fs)))
    front None a t = t
    front (Some o) a t = (a, t)

    go : Decided (kind_of e ≡ kind_of f) → Decided (SharesMembers e f) → Decided (SharesLoad p e f)
        → Decided (AgreesWith before e f)
        → (kind_of e ≡ kind_of f → SharesMembers e f → SharesLoad p e f → AgreesWith before e f → AllHold p
        (named_with before e f) es fs)
        → AllHold p before (e ∷ es) (f ∷ fs)
    go (inr not_so) dm dl do_ rest = absurd (let wrong = h.0 not_so in cc)
    go (inl k) (inr not_so) dl do_ rest = absurd (let wrong = h.1 k not_so in cc)
    go (inl k) (inl m) (inr not_so) do_ rest = absurd (let wrong = h.2 k m not_so in cc)
    go (inl k) (inl m) (inl l) (inr not_so) rest = absurd (let wrong = h.3 k m l not_so in cc)
    go (inl k) (inl m) (inl l) (inl o) rest =
        let more = rest k m l o in
        record {
          count = ap suc more.count;
          kind = (k, more.kind);
          member = (m, more.member);
          load = (l, more.load);
          turns = front (both_named (origin_named e) (origin_named f)) o more.turns;
        }

pub none_means_twins : (a b : Script) → Decisions (providers_of a b)
    → Decided ((a.header.now ≡ b.header.now) × (a.header.rules ≡ b.header.rules))
    → TwinFaultOf a b None → Twin a b
none_means_twins a b d (inr not_so) h = absurd (let wrong = h.header not_so in cc)
none_means_twins a b d (inl same) h =
    let all = none_holds (providers_of a b) d [] 1 (kept_events a.events) (kept_events b.events) (h.events same.0 same.1) in
    record {
      now = same.0;
      rules = same.1;
      kind = all.kind;
      member = all.member;
      load = all.load;
      origins = (at_once [] (origins_named (pairs_of a b)) all.turns).1;
      count = all.count;
    }

-- ---- clauses that hold in turn

turn_agrees : (before rest : List (Origin × Origin)) (o : Option (Origin × Origin)) → InTurn before (cons_option o rest)
    → IfSome o (λ o. AllByRecursion (Agree o) before)
turn_agrees before rest None h = tt
turn_agrees before rest (Some o) h = h.0

turn_later : (before rest : List (Origin × Origin)) (o : Option (Origin × Origin)) → InTurn before (cons_option o rest)
    → InTurn (option_to_list o ++ before) rest
turn_later before rest None h = h
turn_later before rest (Some o) h = h.1

turn_front : (before rest : List (Origin × Origin)) (o : Option (Origin × Origin)) → IfSome o (λ o. AllByRecursion (Agree o) before)
    → InTurn (option_to_list o ++ before) rest → InTurn before (cons_option o rest)
turn_front before rest None a t = t
turn_front before rest (Some o) a t = (a, t)

-- clauses that hold of all events hold in turn
holds_in_turn : (p : Providers) (before : List (Origin × Origin)) (es fs : List Event) → AllHold p before es fs
    → TwinFrom p before es fs
holds_in_turn p before [] [] h = tt
holds_in_turn p before [] (f ∷ fs) h = absurd (omega (arith, h.count))
holds_in_turn p before (e ∷ es) [] h = absurd (omega (arith, h.count))
holds_in_turn p before (e ∷ es) (f ∷ fs) h = (
  h.kind.0,
  h.member.0,
  h.load.0,
  turn_agrees before (origins_named (zip es fs)) (both_named (origin_named e) (origin_named f)) h.turns,
  holds_in_turn p (named_with before e f) es fs
      (record {
        count = omega (arith, h.count);
        kind = h.kind.1;
        member = h.member.1;
        load = h.load.1;
        turns = turn_later before (origins_named (zip es fs)) (both_named (origin_named e) (origin_named f)) h.turns;
      }),
)

-- and the other way
in_turn_holds : (p : Providers) (before : List (Origin × Origin)) (es fs : List Event) → TwinFrom p before es fs
    → AllHold p before es fs
in_turn_holds p before [] [] h = record { count = refl; kind = tt; member = tt; load = tt; turns = tt }
in_turn_holds p before [] (f ∷ fs) h = absurd h
in_turn_holds p before (e ∷ es) [] h = absurd h
in_turn_holds p before (e ∷ es) (f ∷ fs) h =
    let more = in_turn_holds p (named_with before e f) es fs h.4 in
    record {
      count = ap suc more.count;
      kind = (h.0, more.kind);
      member = (h.1, more.member);
      load = (h.2, more.load);
      turns = turn_front before (origins_named (zip es fs)) (both_named (origin_named e) (origin_named f)) h.3 more.turns;
    }

pub twins_in_turn : (a b : Script) → Twin a b → TwinFrom (providers_of a b) [] (kept_events a.events) (kept_events b.events)
twins_in_turn a b twin =
    holds_in_turn (providers_of a b) [] (kept_events a.events) (kept_events b.events)
    (record {
      count = twin.count;
      kind = twin.kind;
      member = twin.member;
      load = twin.load;
      turns = turn_by_turn [] (origins_named (pairs_of a b)) (all_nothing (origins_named (pairs_of a b))) twin.origins;
    })

pub in_turn_twins : (a b : Script) → a.header.now ≡ b.header.now → a.header.rules ≡ b.header.rules
    → TwinFrom (providers_of a b) [] (kept_events a.events) (kept_events b.events) → Twin a b
in_turn_twins a b now same h =
    let all = in_turn_holds (providers_of a b) [] (kept_events a.events) (kept_events b.events) h in
    record {
      now = now;
      rules = same;
      kind = all.kind;
      member = all.member;
      load = all.load;
      origins = (at_once [] (origins_named (pairs_of a b)) all.turns).1;
      count = all.count;
    }

-- where all clauses hold in turn, nothing else is found than nothing
only_nothing : (p : Providers) (before : List (Origin × Origin)) (n : ℕ) (es fs : List Event) (found : Option TwinFault)
    → TwinFrom p before es fs → FoundFrom p before n es fs found → found ≡ None
only_nothing p before n [] [] found h k = k
only_nothing p before n [] (f ∷ fs) found h k = absurd h
only_nothing p before n (e ∷ es) [] found h k = absurd h
only_nothing p before n (e ∷ es) (f ∷ fs) found h k =
    only_nothing p (named_with before e f) (n + 1) es fs found h.4 (k.4 h.0 h.1 h.2 h.3)

pub twins_have_only_none : (a b : Script) (found : Option TwinFault) → Twin a b → TwinFaultOf a b found → found ≡ None
twins_have_only_none a b found twin fault =
    only_nothing (providers_of a b) [] 1 (kept_events a.events) (kept_events b.events) found (twins_in_turn a b twin)
    (fault.events twin.now twin.rules)
