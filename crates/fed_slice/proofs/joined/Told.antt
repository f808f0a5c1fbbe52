-- What is told of the names.
use Rattle.std.proofs.Common.{◌≡◌, ℕ, zero, suc, ◌+◌, ◌<◌, ◌≤◌, Bool, true, false, cond, List, [], ◌∷◌, ◌++◌, drop, get_or, length, map}
use Rattle.std.proofs.Common.{subst, refl, sym, ap, ap₂, ◌∙◌, append_assoc, append-nil, arith}
use Rattle.std.proofs.lemmas.List.{at_drop_more, at_drop_all}
use Rattle.std.specs.Prelude.{bytes_eq, slice_index_or, Result, Ok, Err, IfOk}
use Rattle.std.specs.List.{AllByRecursion, IsDistinct}
use Rattle.fed_script.specs.Script.{Script}
use Rattle.fed_slice.specs.Sets.{AreParents, Respects, SameSets, IsSetOf}
use Rattle.fed_slice.specs.Linked.{Pair, Links, Linked, Enters, Tells, TellsParties, LinksMore, AreLoaded, Among, Here, There, pairs}
use Rattle.fed_slice.specs.Linked.{pairs_of, is_number}
use Rattle.fed_slice.specs.Linked.{chosen, by_number, name_at}
use Rattle.fed_slice.specs.Closure.{is_loaded, IsLeastClosed}
use Rattle.fed_suffix.specs.Rule.{RuleSet}
use Rattle.fed_script.specs.declared.event.Numbered.{Numbered}
use Rattle.fed_slice.proofs.joined.Linked.{linked_entered}
use Rattle.fed_slice.proofs.joined.Least.{links_tell_lem}

pub ok_map : {A E : Type 0} {P Q : A → Type 0} (r : Result A E) → ((a : A) → P a → Q a) → IfOk r P → IfOk r Q
ok_map (Ok a) f h = f a h
ok_map (Err e) f h = tt

-- the same sets, told otherwise
linked_sets : (ps : List Pair) (s : Links) (parents : List ℕ) → Linked ps s → SameSets s.parents parents → AreParents parents
    → length parents ≡ length s.parents → Linked ps (record s { parents = parents })
linked_sets ps s parents h same are len =
    record {
      len = len ∙ h.len;
      parents = are;
      within = h.within;
      anchored = h.anchored;
      holds = λ test r p at.
          let a = h.holds test (same.less (by_number s.names test) r) p at in
          record { first = a.first; found = a.found; same = a.same };
      owes = λ test one. same.more (by_number s.names test) (h.owes test one);
    }

pub tells_lem : (old new s : Links) (name : List ℕ) (id root : ℕ) (parents : List ℕ) (told : List Bool)
    → Enters old new name id → new ≡ s → IsDistinct bytes_eq s.names → SameSets s.parents parents → AreParents parents
    → length parents ≡ length s.parents → ((test : ℕ → Bool) → Respects test parents → test root ≡ test id) → root < length parents
    → IsSetOf parents root told → Tells old (record s { parents = parents }) name told
tells_lem old new s name id root parents told e is distinct same are len joined within set script h =
    links_tell_lem script (record s { parents = parents }) name id root told
    (linked_sets (pairs script) s parents (subst (Linked (pairs script)) is (linked_entered (pairs script) old new name id e h)) same
    are len)
    distinct (subst (λ s. id < length s.names) is e.within) (subst (λ s. name_at s.names id ≡ name) is e.named) joined within set

-- nothing was linked
pub linked_none : Linked [] (record { names = []; parents = []; anchors = [] })
linked_none =
    record {
      len = refl;
      parents = λ k lt. absurd (omega (arith, lt));
      within = λ page first found. absurd (cc);
      anchored = λ page first found. absurd (cc);
      holds = λ test r p at. absurd (nothing p at refl);
      owes = λ test one k lt. absurd (omega (arith, lt));
    }
  where
    nothing : (p : Pair) {qs : List Pair} → Among p qs → qs ≡ [] → ⊥
    nothing p (Here ps) is = cc
    nothing p (There r ps at) is = cc

pub links_all : (s : Script) (events : List Numbered) (rules : RuleSet) (numbers : List ℕ) (linked : Links)
    → events ≡ s.events → rules ≡ s.header.rules → AreLoaded events numbers
    → LinksMore (pairs_of rules (is_number numbers) events) (record { names = []; parents = []; anchors = [] }) linked
    → Linked (pairs s) linked
links_all s events rules numbers linked same_events same_rules loaded more =
    subst (λ l. Linked l linked)
    (ap (λ f. pairs_of rules f events) (λ i page. loaded page i)
    ∙ ap (λ es. pairs_of rules (is_loaded es) es) same_events ∙ ap (λ r. pairs_of r (is_loaded s.events) s.events) same_rules)
    (more [] linked_none)

-- ---- copies of the names that are told

chosen_all : (P : List ℕ → Type 0) (names : List (List ℕ)) (told : List Bool) → AllByRecursion P names
    → AllByRecursion P (chosen names told)
chosen_all P [] told h = tt
chosen_all P (name ∷ names) [] h = tt
chosen_all P (name ∷ names) (true ∷ told) h = (h.0, chosen_all P names told h.1)
chosen_all P (name ∷ names) (false ∷ told) h = chosen_all P names told h.1

chosen_distinct : (names : List (List ℕ)) (told : List Bool) → IsDistinct bytes_eq names → IsDistinct bytes_eq (chosen names told)
unfolding IsDistinct
chosen_distinct [] told d = tt
chosen_distinct (name ∷ names) [] d = tt
chosen_distinct (name ∷ names) (true ∷ told) d =
    (chosen_all (λ y. bytes_eq name y ≡ false) names told d.0, chosen_distinct names told d.1)
chosen_distinct (name ∷ names) (false ∷ told) d = chosen_distinct names told d.1

pub tells_parties : (old new : Links) (name : List ℕ) (told : List Bool) (parties : List (List ℕ)) → Tells old new name told
    → IsDistinct bytes_eq new.names → parties ≡ chosen new.names told → TellsParties old name parties
tells_parties old new name told parties tells distinct is s linked =
    record {
      least = subst (IsLeastClosed s name) (sym is) (tells s linked);
      distinct = subst (IsDistinct bytes_eq) (sym is) (chosen_distinct new.names told distinct);
    }

none_chosen : (names : List (List ℕ)) → chosen names [] ≡ []
none_chosen [] = refl
none_chosen (name ∷ names) = refl

-- one name more
chosen_step : (name : List ℕ) (names : List (List ℕ)) (told : List Bool) (i : ℕ)
    → chosen (name ∷ names) (drop i told) ≡ cond (slice_index_or told i false) (name ∷ []) [] ++ chosen names (drop (i + 1) told)
chosen_step name names [] zero = sym (none_chosen names)
chosen_step name names [] (suc i) =
    let next : suc i + 1 ≡ suc (i + 1) = omega arith in
    sym (none_chosen names) ∙ sym (ap (λ k. chosen names (drop k [])) next)
chosen_step name names (true ∷ told) zero = refl
chosen_step name names (false ∷ told) zero = refl
chosen_step name names (b ∷ told) (suc i) =
    let next : suc i + 1 ≡ suc (i + 1) = omega arith in
    chosen_step name names told i
    ∙ sym (ap (λ k. cond (slice_index_or told i false) (name ∷ []) [] ++ chosen names (drop k (b ∷ told))) next)

pub copied : {V : Type 0} (items : V → List ℕ) (names : List V) (told : List Bool) (i : ℕ) (n : V) (name : List ℕ) (inside : Bool)
    (old new whole : List (List ℕ)) → i < length names → n ≡ get_or names i n → name ≡ items n → inside ≡ slice_index_or told i false
    → new ≡ old ++ cond inside (name ∷ []) [] → old ++ chosen (map items (drop i names)) (drop i told) ≡ whole
    → new ++ chosen (map items (drop (i + 1) names)) (drop (i + 1) told) ≡ whole
copied items names told i n name inside old new whole lt item of_item of_told put is =
    let rest = chosen (map items (drop (i + 1) names)) (drop (i + 1) told) in
    ap (λ l. l ++ rest) put ∙ append_assoc old (cond inside (name ∷ []) []) rest
    ∙ ap (λ l. old ++ l)
    (ap₂ (λ b x. cond b (x ∷ []) [] ++ rest) of_told (of_item ∙ ap items item)
    ∙ sym (chosen_step (items (get_or names i n)) (map items (drop (i + 1) names)) told i)
    ∙ sym (at_drop_more (λ l. chosen (map items l) (drop i told)) names i n lt))
    ∙ is

pub all_copied : {V : Type 0} (items : V → List ℕ) (names : List V) (told : List Bool) (i : ℕ) (copies whole : List (List ℕ))
    → length names ≤ i → copies ++ chosen (map items (drop i names)) (drop i told) ≡ whole → copies ≡ whole
all_copied items names told i copies whole over is =
    sym (append-nil copies)
    ∙ sym (ap (λ l. copies ++ l) (at_drop_all (λ l. chosen (map items l) (drop i told)) names i over))
    ∙ is
