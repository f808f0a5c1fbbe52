-- The first clause of the twin test that fails.
use Rattle.std.specs.Prelude.{◌≡◌, ℕ, ◌+◌, List, [], ◌∷◌, ◌++◌, codes, Option, Some, None, IfSome, option_to_list, ⊤}
use Rattle.std.specs.List.{AllByRecursion}
use Rattle.fed_origin.specs.declared.origin.Origin.{Origin}
use Rattle.fed_script.specs.declared.event.Event.{Event}
use Rattle.fed_script.specs.Script.{Script}
use Rattle.fed_twin.specs.declared.fault.TwinClause.{TwinClause}
use Rattle.fed_twin.specs.declared.fault.TwinClause.TheVariants.{Header, Kind, Member, Load, Origins, Count}
use Rattle.fed_twin.specs.declared.fault.TwinFault.{TwinFault}
use Rattle.fed_twin.specs.Origins.{Agree}
use Rattle.fed_twin.specs.Script.{kept_events}
use Rattle.fed_twin.specs.Providers.{Providers}
use Rattle.fed_twin.specs.Twin.{SharesMembers, SharesLoad, kind_of, origin_named, both_named, providers_of}

-- the word for a clause
abbrev pub clause_text : TwinClause → List ℕ
clause_text Header = codes "header"
clause_text Kind = codes "kind"
clause_text Member = codes "member"
clause_text Load = codes "load"
clause_text Origins = codes "origins"
clause_text Count = codes "count"

-- the clause fails at the kept event of this number, from 1; at 0 for the headers
abbrev fault : TwinClause → ℕ → Option TwinFault
fault clause event = Some (record { clause = clause; event = event })

-- the two origins agree with each pair that was named before
abbrev pub AgreesWith : List (Origin × Origin) → Event → Event → Type 0
AgreesWith before e f = IfSome (both_named (origin_named e) (origin_named f)) (λ o. AllByRecursion (Agree o) before)

-- the pairs that were named, with those of these two events
abbrev pub named_with : List (Origin × Origin) → Event → Event → List (Origin × Origin)
named_with before e f = option_to_list (both_named (origin_named e) (origin_named f)) ++ before

-- what the test finds from the kept events of this number on
abbrev pub FoundFrom : Providers → List (Origin × Origin) → ℕ → List Event → List Event → Option TwinFault → Type 0
FoundFrom p before n [] [] found = found ≡ None
FoundFrom p before n [] (f ∷ fs) found = found ≡ fault Count n
FoundFrom p before n (e ∷ es) [] found = found ≡ fault Count n
FoundFrom p before n (e ∷ es) (f ∷ fs) found =
    (¬ (kind_of e ≡ kind_of f) → found ≡ fault Kind n)
    × (kind_of e ≡ kind_of f → ¬ SharesMembers e f → found ≡ fault Member n)
    × (kind_of e ≡ kind_of f → SharesMembers e f → ¬ SharesLoad p e f → found ≡ fault Load n)
    × (kind_of e ≡ kind_of f → SharesMembers e f → SharesLoad p e f → ¬ AgreesWith before e f → found ≡ fault Origins n)
    × (kind_of e ≡ kind_of f → SharesMembers e f → SharesLoad p e f → AgreesWith before e f → FoundFrom p
    (named_with before e f) (n + 1) es fs found)

-- what the twin test of two scripts finds: the first clause that fails and its event, or nothing
pub record TwinFaultOf (a b : Script) (found : Option TwinFault) : Type 0 where
  pub header : ¬ ((a.header.now ≡ b.header.now) × (a.header.rules ≡ b.header.rules)) → found ≡ fault Header 0
  pub events : a.header.now ≡ b.header.now → a.header.rules ≡ b.header.rules
      → FoundFrom (providers_of a b) [] 1 (kept_events a.events) (kept_events b.events) found

-- all clauses hold of the pairs of events from here on, and there are as many in both lists
abbrev pub TwinFrom : Providers → List (Origin × Origin) → List Event → List Event → Type 0
TwinFrom p before [] [] = ⊤
TwinFrom p before [] (f ∷ fs) = ⊥
TwinFrom p before (e ∷ es) [] = ⊥
TwinFrom p before (e ∷ es) (f ∷ fs) =
    (kind_of e ≡ kind_of f) × SharesMembers e f × SharesLoad p e f × AgreesWith before e f
    × TwinFrom p (named_with before e f) es fs
