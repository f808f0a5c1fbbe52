-- The id of a permission, as permissions come and go.
use Rattle.std.proofs.Common.{◌≡◌, ℕ, Bool, true, false, cond, not, ◌||◌, nat_eq, List, [], ◌∷◌, ◌++◌, filter, is_some}
use Rattle.std.proofs.Common.{Option, Some, None, arith, eq-eqb, refl, sym, ap, subst, ◌∙◌}
use Rattle.std.specs.Cmp.{IsEquivalence}
use Rattle.std.specs.List.{AllByRecursion, IsDistinct, list_any}
use Rattle.std.specs.Map.{keys_of, values_of, lookup, remove_entry}
use Rattle.std.specs.Option.{option_or}
use Rattle.std.proofs.lemmas.Bool.{ne_eqb}
use Rattle.std.proofs.lemmas.Map.{lookup-remove_entry}
use Rattle.std.proofs.lemmas.Map.Made.{IsDistinct-keys_filter}
use Rattle.indexmap.specs.IndexSet.{remove_key}
use Rattle.fed_entries.proofs.slots.Lists.{removed_is_filter}
use Rattle.fed_origin.specs.declared.status.Triple.{Triple}
use Rattle.fed_origin.specs.Status.{same_triple}
use Rattle.fed_status.specs.Table.{id_at, AreBelow}
use Rattle.fed_status.proofs.lists.Same.{same_triple_self}
use Rattle.fed_status.proofs.numbers.Equal.{same_number_is, number_laws}

some_one : {A : Type 0} (x y : A) → Some x ≡ Some y → x ≡ y
some_one x y e = cc

-- a key that is found is not one that is apart from all
pub apart_key : {K V : Type 0} (same : K → K → Bool) (laws : IsEquivalence same) (first key : K) (es : List (K × V))
    → AllByRecursion (λ k. same first k ≡ false) (keys_of es) → is_some (lookup (same key) es) ≡ true → same key first ≡ false
apart_key same laws first key [] all there = cc
apart_key {K} {V} same laws first key (e ∷ es) all there = pick (same key e.0) refl there (λ h. apart_key same laws first key es all.1 h)
  where
    pick : (b : Bool) → same key e.0 ≡ b → is_some (cond b (Some e.1) (lookup (same key) es)) ≡ true
        → (is_some (lookup (same key) es) ≡ true → same key first ≡ false) → same key first ≡ false
    pick true t h later = laws.congr key e.0 first t ∙ laws.symm e.0 first ∙ all.0
    pick false t h later = later h

module _ (test : Triple → Bool) where
  pub id_some : (es : List (ℕ × Triple)) → is_some (id_at test es) ≡ list_any test (values_of es)
  id_some [] = refl
  id_some (e ∷ es) = by (test e.1) (id_some es)
    where
      by : (b : Bool) → is_some (id_at test es) ≡ list_any test (values_of es)
          → is_some (cond b (Some e.0) (id_at test es)) ≡ (b || list_any test (values_of es))
      by true h = refl
      by false h = h

  -- one that is put last is found last
  pub id_last : (es : List (ℕ × Triple)) (id : ℕ) (triple : Triple)
      → id_at test (es ++ (id, triple) ∷ []) ≡ option_or (id_at test es) (cond (test triple) (Some id) None)
  id_last [] id triple = refl
  id_last (e ∷ es) id triple = by (test e.1) (id_last es id triple)
    where
      by : (b : Bool) → id_at test (es ++ (id, triple) ∷ []) ≡ option_or (id_at test es) (cond (test triple) (Some id) None)
          → cond b (Some e.0) (id_at test (es ++ (id, triple) ∷ []))
          ≡ option_or (cond b (Some e.0) (id_at test es)) (cond (test triple) (Some id) None)
      by true h = refl
      by false h = h

  -- what is found stands, and passes
  pub stands : (id : ℕ) (es : List (ℕ × Triple)) → id_at test es ≡ Some id → IsDistinct nat_eq (keys_of es)
      → (triple : Triple) × (lookup (nat_eq id) es ≡ Some triple) × (test triple ≡ true)
  unfolding IsDistinct
  stands id [] e d = cc
  stands id (first ∷ es) e d = pick (test first.1) refl e (λ f. stands id es f d.1)
    where
      pick : (b : Bool) → test first.1 ≡ b → cond b (Some first.0) (id_at test es) ≡ Some id
          → (id_at test es ≡ Some id → (triple : Triple) × (lookup (nat_eq id) es ≡ Some triple) × (test triple ≡ true))
          → (triple : Triple) × (cond (nat_eq id first.0) (Some first.1) (lookup (nat_eq id) es) ≡ Some triple) × (test triple ≡ true)
      pick true t f later = (
        first.1,
        ap (λ b. cond b (Some first.1) (lookup (nat_eq id) es)) (eq-eqb id first.0 (sym (some_one first.0 id f))),
        t,
      )
      pick false t f later =
          let rest = later f in (
            rest.0,
            ap (λ b. cond b (Some first.1) (lookup (nat_eq id) es))
                (apart_key nat_eq number_laws first.0 id es d.0 (ap is_some rest.1)) ∙ rest.1,
            rest.2,
          )

  -- with its id the first permission that passes goes
  pub removed : (id : ℕ) (es : List (ℕ × Triple)) → id_at test es ≡ Some id → IsDistinct nat_eq (keys_of es)
      → values_of (remove_entry (nat_eq id) es) ≡ remove_key test (values_of es)
  unfolding IsDistinct
  removed id [] e d = refl
  removed id (first ∷ es) e d = pick (test first.1) e (λ f. removed id es f d.1)
    where
      pick : (b : Bool) → cond b (Some first.0) (id_at test es) ≡ Some id
          → (id_at test es ≡ Some id → values_of (remove_entry (nat_eq id) es) ≡ remove_key test (values_of es))
          → values_of (cond (nat_eq id first.0) es (first ∷ remove_entry (nat_eq id) es))
          ≡ cond b (values_of es) (first.1 ∷ remove_key test (values_of es))
      pick true f later =
          ap (λ b. values_of (cond b es (first ∷ remove_entry (nat_eq id) es))) (eq-eqb id first.0 (sym (some_one first.0 id f)))
      pick false f later =
          ap (λ b. values_of (cond b es (first ∷ remove_entry (nat_eq id) es)))
          (apart_key nat_eq number_laws first.0 id es d.0 (ap is_some (stands id es f d.1).1))
          ∙ ap (λ vs. first.1 ∷ vs) (later f)

  -- one that does not pass goes, and the others are found as before
  pub id_other : (id : ℕ) (triple : Triple) (es : List (ℕ × Triple)) → lookup (nat_eq id) es ≡ Some triple → test triple ≡ false
      → id_at test (remove_entry (nat_eq id) es) ≡ id_at test es
  id_other id triple [] e f = refl
  id_other id triple (first ∷ es) e f = pick (nat_eq id first.0) e (λ g. id_other id triple es g f)
    where
      pick : (b : Bool) → cond b (Some first.1) (lookup (nat_eq id) es) ≡ Some triple
          → (lookup (nat_eq id) es ≡ Some triple → id_at test (remove_entry (nat_eq id) es) ≡ id_at test es)
          → id_at test (cond b es (first ∷ remove_entry (nat_eq id) es)) ≡ cond (test first.1) (Some first.0) (id_at test es)
      pick true g later =
          sym (ap (λ b. cond b (Some first.0) (id_at test es)) (ap test (some_one first.1 triple g) ∙ f))
      pick false g later = ap (λ o. cond (test first.1) (Some first.0) o) (later g)

  -- one that stands and passes is among the permissions
  any_among : (id : ℕ) (triple : Triple) (es : List (ℕ × Triple)) → lookup (nat_eq id) es ≡ Some triple → test triple ≡ true
      → list_any test (values_of es) ≡ true
  any_among id triple [] e t = cc
  any_among id triple (first ∷ es) e t = pick (nat_eq id first.0) e (λ g. any_among id triple es g t)
    where
      or_true : (a : Bool) → (a || true) ≡ true
      or_true true = refl
      or_true false = refl

      pick : (b : Bool) → cond b (Some first.1) (lookup (nat_eq id) es) ≡ Some triple
          → (lookup (nat_eq id) es ≡ Some triple → list_any test (values_of es) ≡ true)
          → (test first.1 || list_any test (values_of es)) ≡ true
      pick true g later = ap (λ b. b || list_any test (values_of es)) (ap test (some_one first.1 triple g) ∙ t)
      pick false g later = ap (λ b. test first.1 || b) (later g) ∙ or_true (test first.1)

  -- ---- those of a kind go

  pub id_kept : (gone : Triple → Bool) → ((t : Triple) → test t ≡ true → gone t ≡ false) → (es : List (ℕ × Triple))
      → id_at test (filter (λ e. not (gone e.1)) es) ≡ id_at test es
  id_kept gone apart [] = refl
  id_kept gone apart (e ∷ es) = pick (gone e.1) (test e.1) refl refl (id_kept gone apart es)
    where
      left : List (ℕ × Triple)
      left = filter (λ d. not (gone d.1)) es

      pick : (a b : Bool) → gone e.1 ≡ a → test e.1 ≡ b → id_at test left ≡ id_at test es
          → id_at test (cond (not a) (e ∷ left) left) ≡ cond b (Some e.0) (id_at test es)
      pick true true t u h =
          let wrong : true ≡ false = sym t ∙ apart e.1 u in
          cc
      pick true false t u h = h
      pick false b t u h = ap (λ c. cond c (Some e.0) (id_at test left)) u ∙ ap (λ o. cond b (Some e.0) o) h

  pub id_gone : (gone : Triple → Bool) → ((t : Triple) → test t ≡ true → gone t ≡ true) → (es : List (ℕ × Triple))
      → id_at test (filter (λ e. not (gone e.1)) es) ≡ None
  id_gone gone within [] = refl
  id_gone gone within (e ∷ es) = pick (gone e.1) (test e.1) refl refl (id_gone gone within es)
    where
      left : List (ℕ × Triple)
      left = filter (λ d. not (gone d.1)) es

      pick : (a b : Bool) → gone e.1 ≡ a → test e.1 ≡ b → id_at test left ≡ None
          → id_at test (cond (not a) (e ∷ left) left) ≡ None
      pick true b t u h = h
      pick false true t u h =
          let wrong : true ≡ false = sym (within e.1 u) ∙ t in
          cc
      pick false false t u h = ap (λ c. cond c (Some e.0) (id_at test left)) u ∙ h

pub id_same : (p q : Triple → Bool) (es : List (ℕ × Triple)) → AllByRecursion (λ e. p e.1 ≡ q e.1) es → id_at p es ≡ id_at q es
id_same p q [] all = refl
id_same p q (e ∷ es) all = ap (λ b. cond b (Some e.0) (id_at p es)) all.0 ∙ ap (λ o. cond (q e.1) (Some e.0) o) (id_same p q es all.1)

-- one whose kind does not go stays
pub lookup_kept : (gone : Triple → Bool) (id : ℕ) (triple : Triple) (es : List (ℕ × Triple)) → lookup (nat_eq id) es ≡ Some triple
    → gone triple ≡ false → lookup (nat_eq id) (filter (λ e. not (gone e.1)) es) ≡ lookup (nat_eq id) es
lookup_kept gone id triple [] e f = refl
lookup_kept gone id triple (first ∷ es) e f =
    pick (nat_eq id first.0) (gone first.1) refl refl e (λ g. lookup_kept gone id triple es g f)
  where
    left : List (ℕ × Triple)
    left = filter (λ d. not (gone d.1)) es

    pick : (a b : Bool) → nat_eq id first.0 ≡ a → gone first.1 ≡ b → cond a (Some first.1) (lookup (nat_eq id) es) ≡ Some triple
        → (lookup (nat_eq id) es ≡ Some triple → lookup (nat_eq id) left ≡ lookup (nat_eq id) es)
        → lookup (nat_eq id) (cond (not b) (first ∷ left) left) ≡ cond a (Some first.1) (lookup (nat_eq id) es)
    pick true true t u g later =
        let wrong : true ≡ false = sym u ∙ ap gone (some_one first.1 triple g) ∙ f in
        cc
    pick true false t u g later = ap (λ b. cond b (Some first.1) (lookup (nat_eq id) left)) t
    pick false true t u g later = later g
    pick false false t u g later = ap (λ b. cond b (Some first.1) (lookup (nat_eq id) left)) t ∙ later g

-- one that is put last leaves those that stand
pub lookup_last : (id : ℕ) (last : ℕ × Triple) (es : List (ℕ × Triple)) → is_some (lookup (nat_eq id) es) ≡ true
    → lookup (nat_eq id) (es ++ last ∷ []) ≡ lookup (nat_eq id) es
lookup_last id last [] there = cc
lookup_last id last (e ∷ es) there = by (nat_eq id e.0) there (λ h. lookup_last id last es h)
  where
    by : (b : Bool) → is_some (cond b (Some e.1) (lookup (nat_eq id) es)) ≡ true
        → (is_some (lookup (nat_eq id) es) ≡ true → lookup (nat_eq id) (es ++ last ∷ []) ≡ lookup (nat_eq id) es)
        → cond b (Some e.1) (lookup (nat_eq id) (es ++ last ∷ [])) ≡ cond b (Some e.1) (lookup (nat_eq id) es)
    by true h later = refl
    by false h later = later h

-- ---- ids that are apart

pub none_at : (next : ℕ) (es : List (ℕ × Triple)) → AreBelow next es → lookup (nat_eq next) es ≡ None
none_at next [] all = refl
none_at next (e ∷ es) all =
    ap (λ b. cond b (Some e.1) (lookup (nat_eq next) es)) (ne_eqb next e.0 (λ is. omega (arith, all.0))) ∙ none_at next es all.1

-- the one that was put last is found
pub last_at : (id : ℕ) (triple : Triple) (es : List (ℕ × Triple)) → lookup (nat_eq id) es ≡ None
    → lookup (nat_eq id) (es ++ (id, triple) ∷ []) ≡ Some triple
last_at id triple [] absent = ap (λ b. cond b (Some triple) None) (eq-eqb id id refl)
last_at id triple (e ∷ es) absent = by (nat_eq id e.0) absent (λ h. last_at id triple es h)
  where
    by : (b : Bool) → cond b (Some e.1) (lookup (nat_eq id) es) ≡ None
        → (lookup (nat_eq id) es ≡ None → lookup (nat_eq id) (es ++ (id, triple) ∷ []) ≡ Some triple)
        → cond b (Some e.1) (lookup (nat_eq id) (es ++ (id, triple) ∷ [])) ≡ Some triple
    by true h later = cc
    by false h later = later h

-- and goes again
pub last_goes : (id : ℕ) (triple : Triple) (es : List (ℕ × Triple)) → lookup (nat_eq id) es ≡ None
    → remove_entry (nat_eq id) (es ++ (id, triple) ∷ []) ≡ es
last_goes id triple [] absent = ap (λ b. cond b [] ((id, triple) ∷ [])) (eq-eqb id id refl)
last_goes id triple (e ∷ es) absent = by (nat_eq id e.0) absent (λ h. last_goes id triple es h)
  where
    by : (b : Bool) → cond b (Some e.1) (lookup (nat_eq id) es) ≡ None
        → (lookup (nat_eq id) es ≡ None → remove_entry (nat_eq id) (es ++ (id, triple) ∷ []) ≡ es)
        → cond b (es ++ (id, triple) ∷ []) (e ∷ remove_entry (nat_eq id) (es ++ (id, triple) ∷ [])) ≡ e ∷ es
    by true h later = cc
    by false h later = ap (λ l. e ∷ l) (later h)

pub lookup_removed : (id other : ℕ) (es : List (ℕ × Triple)) → IsDistinct nat_eq (keys_of es)
    → lookup (nat_eq other) (remove_entry (nat_eq id) es) ≡ cond (nat_eq id other) None (lookup (nat_eq other) es)
lookup_removed id other es d = lookup-remove_entry number_laws (nat_eq id) (λ x y e. number_laws.congr id x y e) other es d

pub apart_removed : (id : ℕ) (es : List (ℕ × Triple)) → IsDistinct nat_eq (keys_of es)
    → IsDistinct nat_eq (keys_of (remove_entry (nat_eq id) es))
apart_removed id es d =
    subst (λ l. IsDistinct nat_eq (keys_of l)) (sym (removed_is_filter nat_eq number_laws id es d))
    (IsDistinct-keys_filter nat_eq (λ e. not (nat_eq id e.0)) es d)

keys_all : (id : ℕ) (test : ℕ × Triple → Bool) (es : List (ℕ × Triple)) → AllByRecursion (λ k. nat_eq id k ≡ false) (keys_of es)
    → AllByRecursion (λ k. nat_eq id k ≡ false) (keys_of (filter test es))
keys_all id test [] all = tt
keys_all id test (e ∷ es) all = pick (test e) (keys_all id test es all.1)
  where
    pick : (b : Bool) → AllByRecursion (λ k. nat_eq id k ≡ false) (keys_of (filter test es))
        → AllByRecursion (λ k. nat_eq id k ≡ false) (keys_of (cond b (e ∷ filter test es) (filter test es)))
    pick true h = (all.0, h)
    pick false h = h

pub apart_filtered : (test : ℕ × Triple → Bool) (es : List (ℕ × Triple)) → IsDistinct nat_eq (keys_of es)
    → IsDistinct nat_eq (keys_of (filter test es))
unfolding IsDistinct
apart_filtered test [] d = tt
apart_filtered test (e ∷ es) d = pick (test e) (apart_filtered test es d.1)
  where
    pick : (b : Bool) → IsDistinct nat_eq (keys_of (filter test es))
        → IsDistinct nat_eq (keys_of (cond b (e ∷ filter test es) (filter test es)))
    pick true h = (keys_all e.0 test es d.0, h)
    pick false h = h

-- ---- permissions that are apart

not_among : (triple : Triple) (id : ℕ) (same : Triple) (es : List (ℕ × Triple)) → lookup (nat_eq id) es ≡ Some same
    → AllByRecursion (λ t. same_triple triple t ≡ false) (values_of es) → same_triple triple same ≡ false
not_among triple id same [] e all = cc
not_among triple id same (first ∷ es) e all = pick (nat_eq id first.0) e (λ g. not_among triple id same es g all.1)
  where
    pick : (b : Bool) → cond b (Some first.1) (lookup (nat_eq id) es) ≡ Some same
        → (lookup (nat_eq id) es ≡ Some same → same_triple triple same ≡ false) → same_triple triple same ≡ false
    pick true g later = ap (same_triple triple) (sym (some_one first.1 same g)) ∙ all.0
    pick false g later = later g

-- a permission stands under one id
pub one_id : (i j : ℕ) (triple : Triple) (es : List (ℕ × Triple)) → lookup (nat_eq i) es ≡ Some triple
    → lookup (nat_eq j) es ≡ Some triple → IsDistinct same_triple (values_of es) → i ≡ j
unfolding IsDistinct
one_id i j triple [] e f d = cc
one_id i j triple (first ∷ es) e f d =
    pick (nat_eq i first.0) (nat_eq j first.0) refl refl e f (λ g h. one_id i j triple es g h d.1)
  where
    wrong : (id : ℕ) → first.1 ≡ triple → lookup (nat_eq id) es ≡ Some triple → true ≡ false
    wrong id is there =
        sym (same_triple_self triple) ∙ ap (λ t. same_triple t triple) (sym is) ∙ not_among first.1 id triple es there d.0

    pick : (a b : Bool) → nat_eq i first.0 ≡ a → nat_eq j first.0 ≡ b
        → cond a (Some first.1) (lookup (nat_eq i) es) ≡ Some triple
        → cond b (Some first.1) (lookup (nat_eq j) es) ≡ Some triple
        → (lookup (nat_eq i) es ≡ Some triple → lookup (nat_eq j) es ≡ Some triple → i ≡ j) → i ≡ j
    pick true true t u g h later = same_number_is i first.0 t ∙ sym (same_number_is j first.0 u)
    pick true false t u g h later = let w : true ≡ false = wrong j (some_one first.1 triple g) h in cc
    pick false true t u g h later = let w : true ≡ false = wrong i (some_one first.1 triple h) g in cc
    pick false false t u g h later = later g h

module _ (test : Triple → Bool) (once : (a b : Triple) → test a ≡ true → test b ≡ true → a ≡ b) where
  -- one that stands and passes is found
  pub own : (id : ℕ) (triple : Triple) (es : List (ℕ × Triple)) → lookup (nat_eq id) es ≡ Some triple → test triple ≡ true
      → IsDistinct nat_eq (keys_of es) → IsDistinct same_triple (values_of es) → id_at test es ≡ Some id
  own id triple es there passes apart distinct = by (id_at test es) refl
    where
      by : (o : Option ℕ) → id_at test es ≡ o → id_at test es ≡ Some id
      by None e =
          let wrong : true ≡ false = sym (any_among test id triple es there passes) ∙ sym (id_some test es) ∙ ap is_some e in
          cc
      by (Some other) e =
          let found = stands test other es e apart in
          let is : other ≡ id =
          one_id other id triple es (found.1 ∙ ap (λ t. Some t) (once found.0 triple found.2 passes)) there distinct in
          e ∙ ap (λ n. Some n) is

  -- and once it has gone there is none
  pub none_left : (id : ℕ) (triple : Triple) (es : List (ℕ × Triple)) → lookup (nat_eq id) es ≡ Some triple → test triple ≡ true
      → IsDistinct nat_eq (keys_of es) → IsDistinct same_triple (values_of es)
      → id_at test (remove_entry (nat_eq id) es) ≡ None
  none_left id triple es there passes apart distinct = by (id_at test (remove_entry (nat_eq id) es)) refl
    where
      by : (o : Option ℕ) → id_at test (remove_entry (nat_eq id) es) ≡ o → id_at test (remove_entry (nat_eq id) es) ≡ None
      by None e = e
      by (Some other) e =
          let found = stands test other (remove_entry (nat_eq id) es) e (apart_removed id es apart) in
          pick (nat_eq id other) refl (sym (lookup_removed id other es apart) ∙ found.1
          ∙ ap (λ t. Some t) (once found.0 triple found.2 passes))
        where
          pick : (b : Bool) → nat_eq id other ≡ b → cond b None (lookup (nat_eq other) es) ≡ Some triple
              → id_at test (remove_entry (nat_eq id) es) ≡ None
          pick true t f = cc
          pick false t f =
              let wrong : true ≡ false = sym (eq-eqb id other (one_id id other triple es there f distinct)) ∙ t in
              cc

-- ---- no permission stands twice

without_all : (triple : Triple) (test : ℕ → Bool) (es : List (ℕ × Triple))
    → AllByRecursion (λ t. same_triple triple t ≡ false) (values_of es)
    → AllByRecursion (λ t. same_triple triple t ≡ false) (values_of (remove_entry test es))
without_all triple test [] all = tt
without_all triple test (e ∷ es) all = pick (test e.0) (without_all triple test es all.1)
  where
    pick : (b : Bool) → AllByRecursion (λ t. same_triple triple t ≡ false) (values_of (remove_entry test es))
        → AllByRecursion (λ t. same_triple triple t ≡ false) (values_of (cond b es (e ∷ remove_entry test es)))
    pick true h = all.1
    pick false h = (all.0, h)

pub distinct_removed : (test : ℕ → Bool) (es : List (ℕ × Triple)) → IsDistinct same_triple (values_of es)
    → IsDistinct same_triple (values_of (remove_entry test es))
unfolding IsDistinct
distinct_removed test [] d = tt
distinct_removed test (e ∷ es) d = pick (test e.0) (distinct_removed test es d.1)
  where
    pick : (b : Bool) → IsDistinct same_triple (values_of (remove_entry test es))
        → IsDistinct same_triple (values_of (cond b es (e ∷ remove_entry test es)))
    pick true h = d.1
    pick false h = (without_all e.1 test es d.0, h)

filtered_all : (triple : Triple) (test : ℕ × Triple → Bool) (es : List (ℕ × Triple))
    → AllByRecursion (λ t. same_triple triple t ≡ false) (values_of es)
    → AllByRecursion (λ t. same_triple triple t ≡ false) (values_of (filter test es))
filtered_all triple test [] all = tt
filtered_all triple test (e ∷ es) all = pick (test e) (filtered_all triple test es all.1)
  where
    pick : (b : Bool) → AllByRecursion (λ t. same_triple triple t ≡ false) (values_of (filter test es))
        → AllByRecursion (λ t. same_triple triple t ≡ false) (values_of (cond b (e ∷ filter test es) (filter test es)))
    pick true h = (all.0, h)
    pick false h = h

pub distinct_filtered : (test : ℕ × Triple → Bool) (es : List (ℕ × Triple)) → IsDistinct same_triple (values_of es)
    → IsDistinct same_triple (values_of (filter test es))
unfolding IsDistinct
distinct_filtered test [] d = tt
distinct_filtered test (e ∷ es) d = pick (test e) (distinct_filtered test es d.1)
  where
    pick : (b : Bool) → IsDistinct same_triple (values_of (filter test es))
        → IsDistinct same_triple (values_of (cond b (e ∷ filter test es) (filter test es)))
    pick true h = (filtered_all e.1 test es d.0, h)
    pick false h = h

pub last_value : (es : List (ℕ × Triple)) (e : ℕ × Triple) → values_of (es ++ e ∷ []) ≡ values_of es ++ e.1 ∷ []
last_value [] e = refl
last_value (x ∷ es) e = ap (λ l. x.1 ∷ l) (last_value es e)

pub distinct_last_triple : (triple : Triple) (ts : List Triple) → list_any (same_triple triple) ts ≡ false
    → ((a b : Triple) → same_triple a b ≡ same_triple b a) → IsDistinct same_triple ts → IsDistinct same_triple (ts ++ triple ∷ [])
unfolding IsDistinct
distinct_last_triple triple [] none flips d = (tt, tt)
distinct_last_triple triple (t ∷ ts) none flips d =
    pick (same_triple triple t) refl none (λ f. distinct_last_triple triple ts f flips d.1)
  where
    last : same_triple t triple ≡ false → (us : List Triple) → AllByRecursion (λ u. same_triple t u ≡ false) us
        → AllByRecursion (λ u. same_triple t u ≡ false) (us ++ triple ∷ [])
    last apart [] all = (apart, tt)
    last apart (u ∷ us) all = (all.0, last apart us all.1)

    pick : (b : Bool) → same_triple triple t ≡ b → (b || list_any (same_triple triple) ts) ≡ false
        → (list_any (same_triple triple) ts ≡ false → IsDistinct same_triple (ts ++ triple ∷ []))
        → AllByRecursion (λ u. same_triple t u ≡ false) (ts ++ triple ∷ []) × IsDistinct same_triple (ts ++ triple ∷ [])
    pick true e f later = cc
    pick false e f later = (last (flips t triple ∙ e) ts d.0, later f)
