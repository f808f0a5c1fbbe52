-- What is found and taken by ids is what is found and taken by the permissions.
use Rattle.std.proofs.Common.{◌≡◌, ◌<◌, ◌+◌, ℕ, Bool, true, false, cond, not, ◌&&◌, ◌||◌, nat_eq, bytes_eq, List, [], ◌∷◌, ◌++◌, filter}
use Rattle.std.proofs.Common.{slice_get, is_some, Option, Some, None, arith, refl, sym, ap, subst, ◌∙◌}
use Rattle.std.specs.List.{AllByRecursion, IsDistinct, list_any}
use Rattle.std.specs.Map.{keys_of, values_of, lookup, remove_entry}
use Rattle.std.specs.Option.{option_map_or, option_or}
use Rattle.indexmap.specs.IndexMap.{insert_entry}
use Rattle.indexmap.specs.IndexSet.{remove_key}
use Rattle.fed_entries.proofs.slots.Lists.{distinct_last, insert_new}
use Rattle.fed_origin.specs.declared.origin.Origin.{Origin}
use Rattle.fed_origin.specs.declared.status.Triple.{Triple}
use Rattle.fed_origin.specs.Status.{same_triple}
use Rattle.fed_status.specs.declared.accounts.PairAccounts.{PairAccounts}
use Rattle.fed_status.specs.declared.names.Names.{Names}
use Rattle.fed_status.specs.declared.names.Pair.{Pair}
use Rattle.fed_status.specs.declared.table.Table.{Table}
use Rattle.fed_status.specs.Kept.{has_triple, with_triple, without_triple, is_of_pair, has_pair, without_pair, HasDistinctTriples}
use Rattle.fed_status.specs.Names.{same_pair, pair_of, is_numbered, is_for, HasNumbers, Grows}
use Rattle.fed_status.specs.Pairs.{id_of, id_in, ids_in, ids_of, ids_held, AreApart, ListsNew, ListsLess, ListsSame, ListsNone}
use Rattle.fed_status.specs.Table.{IsTable, AreBelow, AreListed, id_at, triples_of, without_ids}
use Rattle.fed_status.proofs.lists.Entries.{each, none_passes, each_put_last, each_removed, each_filtered}
use Rattle.fed_status.proofs.lists.Same.{same_triple_flips}
use Rattle.fed_status.proofs.numbers.Equal.{account_laws, number_laws, pair_laws, same_account_is, same_number_is, same_pair_is}
use Rattle.fed_status.proofs.numbers.Found.{apart_filtered, apart_removed, distinct_filtered, distinct_last_triple, distinct_removed, id_gone, id_kept}
use Rattle.fed_status.proofs.numbers.Found.{id_last, id_other, id_same, id_some, last_at, last_goes, last_value, lookup_kept}
use Rattle.fed_status.proofs.numbers.Found.{lookup_last, lookup_removed, none_at, none_left, removed, stands}
use Rattle.fed_status.proofs.numbers.Listed.{ids_none, ids_first, stable_of}
use Rattle.fed_status.proofs.numbers.Origins.{both, for_agrees, for_one, is_its_pair, pair_absent, pair_agrees, pair_is, stay_numbered}
use Rattle.fed_status.proofs.numbers.Origins.{triple_absent}
use Rattle.fed_status.proofs.numbers.Removed.{pair_goes}

-- the table without permissions
pub empty_is_table : (table : Table) → table.kept ≡ [] → table.pairs.entries ≡ [] → IsTable table
unfolding IsDistinct
empty_is_table table no_entries no_pairs = record {
  numbered = rw no_entries tt;
  listed = λ pair account. rw (no_entries, no_pairs) refl;
  below = rw no_entries tt;
  apart = rw no_entries tt;
  distinct = rw no_entries tt;
}

-- ---- lists of permissions of which none passes

none_taken : (test : Triple → Bool) (ts : List Triple) → list_any test ts ≡ false → remove_key test ts ≡ ts
none_taken test [] none = refl
none_taken test (t ∷ ts) none = pick (test t) none (λ h. none_taken test ts h)
  where
    pick : (b : Bool) → (b || list_any test ts) ≡ false → (list_any test ts ≡ false → remove_key test ts ≡ ts)
        → cond b ts (t ∷ remove_key test ts) ≡ t ∷ ts
    pick true h later = cc
    pick false h later = ap (λ l. t ∷ l) (later h)

none_dropped : (test : Triple → Bool) (ts : List Triple) → list_any test ts ≡ false → filter (λ t. not (test t)) ts ≡ ts
none_dropped test [] none = refl
none_dropped test (t ∷ ts) none = pick (test t) none (λ h. none_dropped test ts h)
  where
    left : List Triple
    left = filter (λ u. not (test u)) ts

    pick : (b : Bool) → (b || list_any test ts) ≡ false → (list_any test ts ≡ false → left ≡ ts)
        → cond (not b) (t ∷ left) left ≡ t ∷ ts
    pick true h later = cc
    pick false h later = ap (λ l. t ∷ l) (later h)

-- values that are left by tests that agree
values_filtered : (p q : Triple → Bool) (es : List (ℕ × Triple)) → AllByRecursion (λ e. p e.1 ≡ q e.1) es
    → values_of (filter (λ e. not (p e.1)) es) ≡ filter (λ t. not (q t)) (values_of es)
values_filtered p q [] all = refl
values_filtered p q (e ∷ es) all =
    ap (λ b. values_of (cond (not b) (e ∷ filter (λ d. not (p d.1)) es) (filter (λ d. not (p d.1)) es))) all.0
    ∙ by (q e.1) (values_filtered p q es all.1)
  where
    by : (b : Bool) → values_of (filter (λ d. not (p d.1)) es) ≡ filter (λ t. not (q t)) (values_of es)
        → values_of (cond (not b) (e ∷ filter (λ d. not (p d.1)) es) (filter (λ d. not (p d.1)) es))
        ≡ cond (not b) (e.1 ∷ filter (λ t. not (q t)) (values_of es)) (filter (λ t. not (q t)) (values_of es))
    by true h = h
    by false h = ap (λ l. e.1 ∷ l) h

any_same : (p q : Triple → Bool) (es : List (ℕ × Triple)) → AllByRecursion (λ e. p e.1 ≡ q e.1) es
    → list_any p (values_of es) ≡ list_any q (values_of es)
any_same p q [] all = refl
any_same p q (e ∷ es) all =
    ap (λ b. b || list_any p (values_of es)) all.0 ∙ ap (λ b. q e.1 || b) (any_same p q es all.1)

-- ---- tests of pairs and accounts

or_none : (a b : Bool) → (a || b) ≡ false → (a ≡ false) × (b ≡ false)
or_none false b e = (refl, e)
or_none true b e = cc

none_numbered : (names : Names) (pair : Pair) (ts : List Triple) → ((account : List ℕ) → list_any (is_for names pair account) ts ≡ false)
    → list_any (is_numbered names pair) ts ≡ false
none_numbered names pair [] none = refl
none_numbered names pair (t ∷ ts) none =
    ap (λ b. b || list_any (is_numbered names pair) ts)
    (first (is_numbered names pair t) (bytes_eq t.account t.account) (account_laws.refl t.account) (or_none _ _ (none t.account)).0)
    ∙ none_numbered names pair ts (λ account. (or_none _ _ (none account)).1)
  where
    first : (a b : Bool) → b ≡ true → (a && b) ≡ false → a ≡ false
    first false b e f = refl
    first true b e f = let wrong : true ≡ false = sym e ∙ f in cc

some_numbered : (names : Names) (pair : Pair) (account : List ℕ) (ts : List Triple)
    → list_any (is_for names pair account) ts ≡ true → list_any (is_numbered names pair) ts ≡ true
some_numbered names pair account [] some = some
some_numbered names pair account (t ∷ ts) some =
    by (is_numbered names pair t) (bytes_eq account t.account) some (λ h. some_numbered names pair account ts h)
  where
    by : (a b : Bool) → ((a && b) || list_any (is_for names pair account) ts) ≡ true
        → (list_any (is_for names pair account) ts ≡ true → list_any (is_numbered names pair) ts ≡ true)
        → (a || list_any (is_numbered names pair) ts) ≡ true
    by true b e later = refl
    by false b e later = later e

module _ (table : Table) (h : IsTable table) where
  -- ---- what is found

  agrees : (triple : Triple) (pair : Pair) → pair_of table.names triple.page triple.provider ≡ Some pair
      → id_of table.kept table.pairs.entries pair triple.account ≡ id_at (same_triple triple) table.kept
  agrees triple pair e =
      h.listed pair triple.account
      ∙ id_same (is_for table.names pair triple.account) (same_triple triple) table.kept
      (each (for_agrees table.names triple pair e) table.kept h.numbered)

  pub found : (triple : Triple) (pair : Pair) → pair_of table.names triple.page triple.provider ≡ Some pair
      → is_some (id_of table.kept table.pairs.entries pair triple.account) ≡ has_triple (triples_of table) triple
  found triple pair e = ap is_some (agrees triple pair e) ∙ id_some (same_triple triple) table.kept

  pub not_found : (triple : Triple) → pair_of table.names triple.page triple.provider ≡ None
      → has_triple (triples_of table) triple ≡ false
  not_found triple e =
      none_passes (same_triple triple) table.kept (each (triple_absent table.names triple e) table.kept h.numbered)

  pub present : (triple : Triple) (pair : Pair) → pair_of table.names triple.page triple.provider ≡ Some pair
      → is_some (id_of table.kept table.pairs.entries pair triple.account) ≡ true
      → triples_of table ≡ with_triple (triples_of table) triple
  present triple pair e there =
      let has : has_triple (triples_of table) triple ≡ true = sym (found triple pair e) ∙ there in
      rw has refl

  -- a pair has an id exactly where it has a permission
  any_of : (pair : Pair) (o : Option PairAccounts) → lookup (same_pair pair) table.pairs.entries ≡ o
      → is_some (slice_get (ids_in o) 0) ≡ list_any (is_numbered table.names pair) (triples_of table)
  any_of pair o e = by o e
    where
      listed : (account : List ℕ) (o : Option PairAccounts) → lookup (same_pair pair) table.pairs.entries ≡ o
          → is_some (id_in table.kept o account) ≡ list_any (is_for table.names pair account) (triples_of table)
      listed account o e =
          ap (λ o. is_some (id_in table.kept o account)) (sym e) ∙ ap is_some (h.listed pair account)
          ∙ id_some (is_for table.names pair account) table.kept

      held_by : (held : PairAccounts) → lookup (same_pair pair) table.pairs.entries ≡ Some held → (ids : List ℕ) → ids_held held ≡ ids
          → is_some (slice_get ids 0) ≡ list_any (is_numbered table.names pair) (triples_of table)
      held_by held e [] f =
          sym (none_numbered table.names pair (triples_of table)
          (λ account. sym (listed account (Some held) e) ∙ ap is_some (ids_none table.kept held f account)))
      held_by held e (id ∷ rest) f =
          let first = ids_first table.kept held id rest f in
          sym (some_numbered table.names pair first.0 (triples_of table)
          (sym (listed first.0 (Some held) e) ∙ ap is_some first.1))

      by : (o : Option PairAccounts) → lookup (same_pair pair) table.pairs.entries ≡ o
          → is_some (slice_get (ids_in o) 0) ≡ list_any (is_numbered table.names pair) (triples_of table)
      by None e =
          sym (none_numbered table.names pair (triples_of table) (λ account. sym (listed account None e)))
      by (Some held) e =
          ap (λ ids. is_some (slice_get ids 0)) (refl {a = ids_held held}) ∙ held_by held e (ids_held held) refl

  pub pair_found : (page provider : Origin) (pair : Pair) → pair_of table.names page provider ≡ Some pair
      → is_some (slice_get (ids_of table.pairs.entries pair) 0) ≡ has_pair (triples_of table) page provider
  pair_found page provider pair e =
      any_of pair (lookup (same_pair pair) table.pairs.entries) refl
      ∙ any_same (is_numbered table.names pair) (is_of_pair page provider) table.kept
      (each (pair_agrees table.names page provider pair e) table.kept h.numbered)

  pub no_pair_found : (page provider : Origin) → pair_of table.names page provider ≡ None
      → has_pair (triples_of table) page provider ≡ false
  no_pair_found page provider e = none_passes (is_of_pair page provider) table.kept (each
      (pair_absent table.names page provider e) table.kept h.numbered)

  -- ---- what goes

  pub one_removed : (triple : Triple) (pair : Pair) (id : ℕ) → pair_of table.names triple.page triple.provider ≡ Some pair
      → id_of table.kept table.pairs.entries pair triple.account ≡ Some id
      → values_of (remove_entry (nat_eq id) table.kept) ≡ without_triple (triples_of table) triple
  one_removed triple pair id e there =
      removed (same_triple triple) id table.kept (sym (agrees triple pair e) ∙ there) h.apart

  pub none_there : (triple : Triple) (pair : Pair) → pair_of table.names triple.page triple.provider ≡ Some pair
      → id_of table.kept table.pairs.entries pair triple.account ≡ None
      → without_triple (triples_of table) triple ≡ triples_of table
  none_there triple pair e absent =
      none_taken (same_triple triple) (triples_of table) (sym (found triple pair e) ∙ ap is_some absent)

  pub not_removed : (triple : Triple) → pair_of table.names triple.page triple.provider ≡ None
      → without_triple (triples_of table) triple ≡ triples_of table
  not_removed triple e = none_taken (same_triple triple) (triples_of table) (not_found triple e)

  pub pair_removed : (page provider : Origin) (pair : Pair) (held : PairAccounts) → pair_of table.names page provider ≡ Some pair
      → lookup (same_pair pair) table.pairs.entries ≡ Some held → AreApart held
      → values_of (without_ids (ids_held held) table.kept) ≡ without_pair (triples_of table) page provider
  pair_removed page provider pair held e there once =
      ap values_of (pair_goes table.names table.kept table.pairs.entries h.listed h.apart h.distinct pair held there once)
      ∙ values_filtered (is_numbered table.names pair) (is_of_pair page provider) table.kept
      (each (pair_agrees table.names page provider pair e) table.kept h.numbered)

  pub no_ids_removed : (page provider : Origin) (pair : Pair) → pair_of table.names page provider ≡ Some pair
      → lookup (same_pair pair) table.pairs.entries ≡ None
      → without_pair (triples_of table) page provider ≡ triples_of table
  no_ids_removed page provider pair e absent =
      none_dropped (is_of_pair page provider) (triples_of table)
      (sym (pair_found page provider pair e) ∙ ap (λ o. is_some (slice_get (ids_in o) 0)) absent)

  pub no_pair_removed : (page provider : Origin) → pair_of table.names page provider ≡ None
      → without_pair (triples_of table) page provider ≡ triples_of table
  no_pair_removed page provider e = none_dropped (is_of_pair page provider) (triples_of table) (no_pair_found page provider e)

  -- ---- the table with more names, and with other lists that say the same

  pub with_names : (names : Names) → Grows table.names names
      → IsTable (record { names = names; kept = table.kept; pairs = table.pairs; next = table.next })
  with_names names grows =
      record {
        numbered = each (λ e has. ap is_some (stay_numbered table.names names grows e has) ∙ has) table.kept h.numbered;
        listed = λ pair account. h.listed pair account
            ∙ id_same (is_for table.names pair account) (is_for names pair account) table.kept
            (each (λ e has. ap (λ o. option_map_or (same_pair pair) o false && bytes_eq account e.1.account)
            (sym (stay_numbered table.names names grows e has))) table.kept h.numbered);
        below = h.below;
        apart = h.apart;
        distinct = h.distinct;
      }

  pub undone : (new : Table) → new.names ≡ table.names → new.kept ≡ table.kept → new.next ≡ table.next
      → ListsSame table.pairs.entries new.pairs.entries → IsTable new
  undone new names kept next same = record {
    numbered = subst (λ es. AllByRecursion (HasNumbers new.names) es) (sym kept)
        (subst (λ ns. AllByRecursion (HasNumbers ns) table.kept) (sym names) h.numbered);
    listed = subst (λ es. AreListed new.names es new.pairs.entries) (sym kept)
        (subst (λ ns. AreListed ns table.kept new.pairs.entries) (sym names)
        (λ pair account. same table.kept pair account ∙ h.listed pair account));
    below = subst (λ es. AreBelow new.next es) (sym kept) (subst (λ n. AreBelow n table.kept) (sym next) h.below);
    apart = subst (λ es. IsDistinct nat_eq (keys_of es)) (sym kept) h.apart;
    distinct = subst (λ es. HasDistinctTriples (values_of es)) (sym kept) h.distinct;
  }

  -- ---- one more

  pub fresh : lookup (nat_eq table.next) table.kept ≡ None
  fresh = none_at table.next table.kept h.below

  pub goes_last : (triple : Triple) → insert_entry nat_eq table.kept table.next triple ≡ table.kept ++ (table.next, triple) ∷ []
  goes_last triple = sym (insert_new nat_eq table.next triple table.kept fresh)

  pub goes_again : (triple : Triple) → remove_entry (nat_eq table.next) (insert_entry nat_eq table.kept table.next triple) ≡ table.kept
  goes_again triple =
      ap (remove_entry (nat_eq table.next)) (goes_last triple) ∙ last_goes table.next triple table.kept fresh

  pub put_last : (triple : Triple) (pair : Pair) → pair_of table.names triple.page triple.provider ≡ Some pair
      → id_of table.kept table.pairs.entries pair triple.account ≡ None
      → values_of (insert_entry nat_eq table.kept table.next triple) ≡ with_triple (triples_of table) triple
  put_last triple pair e absent =
      let has : has_triple (triples_of table) triple ≡ false = sym (found triple pair e) ∙ ap is_some absent in
      ap values_of (goes_last triple) ∙ last_value table.kept (table.next, triple) ∙ sym (rw has refl)

  -- the ids of permissions that stand are found as before
  as_before : (last : ℕ × Triple) (pair : Pair) (account : List ℕ)
      → id_of (table.kept ++ last ∷ []) table.pairs.entries pair account ≡ id_of table.kept table.pairs.entries pair account
  as_before last =
      stable_of table.kept (table.kept ++ last ∷ []) table.pairs.entries
      (λ pair account id f. lookup_last id last table.kept
      (ap is_some (stands (is_for table.names pair account) id table.kept (sym (h.listed pair account) ∙ f) h.apart).1))

  more_listed : (triple : Triple) (pair : Pair) → pair_of table.names triple.page triple.provider ≡ Some pair
      → id_of table.kept table.pairs.entries pair triple.account ≡ None
      → (pairs : List (Pair × PairAccounts)) → ListsNew (table.kept ++ (table.next, triple) ∷ []) pair table.next table.pairs.entries pairs
      → AreListed table.names (table.kept ++ (table.next, triple) ∷ []) pairs
  more_listed triple pair e absent pairs more = λ p a.
      more triple (last_at table.next triple table.kept fresh) (as_before (table.next, triple) pair triple.account ∙ absent) p a
      ∙ ap (λ o. cond (same_pair pair p && bytes_eq triple.account a) (Some table.next) o)
      (as_before (table.next, triple) p a ∙ h.listed p a)
      ∙ by p a (same_pair pair p && bytes_eq triple.account a) refl
      ∙ sym (id_last (is_for table.names p a) table.kept table.next triple
      ∙ ap (λ b. option_or (id_at (is_for table.names p a) table.kept) (cond b (Some table.next) None)) (passes p a))
    where
      passes : (p : Pair) (a : List ℕ) → is_for table.names p a triple ≡ (same_pair pair p && bytes_eq triple.account a)
      passes p a =
          ap (λ b. b && bytes_eq a triple.account) (is_its_pair table.names pair p triple e ∙ pair_laws.symm p pair)
          ∙ ap (λ b. same_pair pair p && b) (account_laws.symm a triple.account)

      by : (p : Pair) (a : List ℕ) (b : Bool) → (same_pair pair p && bytes_eq triple.account a) ≡ b
          → cond b (Some table.next) (id_at (is_for table.names p a) table.kept)
          ≡ option_or (id_at (is_for table.names p a) table.kept) (cond b (Some table.next) None)
      by p a true t =
          let same = both (same_pair pair p) (bytes_eq triple.account a) t in
          let none : id_at (is_for table.names p a) table.kept ≡ None =
          sym (h.listed p a)
          ∙ ap (λ q. id_of table.kept table.pairs.entries q a) (sym (same_pair_is pair p same.0))
          ∙ ap (λ b. id_of table.kept table.pairs.entries pair b) (sym (same_account_is triple.account a same.1))
          ∙ absent in
          sym (ap (λ o. option_or o (Some table.next)) none)
      by p a false t = none_or (id_at (is_for table.names p a) table.kept)
        where
          none_or : (o : Option ℕ) → o ≡ option_or o None
          none_or None = refl
          none_or (Some id) = refl

  below_last : (next : ℕ) (triple : Triple) (es : List (ℕ × Triple)) → AreBelow next es
      → AreBelow (next + 1) (es ++ (next, triple) ∷ [])
  below_last next triple [] all = (omega arith, tt)
  below_last next triple (e ∷ es) all = (omega (arith, all.0), below_last next triple es all.1)

  -- the table with one more
  pub with_one : (triple : Triple) (pair : Pair) → pair_of table.names triple.page triple.provider ≡ Some pair
      → id_of table.kept table.pairs.entries pair triple.account ≡ None
      → (new : Table) → new.names ≡ table.names → new.kept ≡ insert_entry nat_eq table.kept table.next triple
      → ListsNew new.kept pair table.next table.pairs.entries new.pairs.entries → new.next ≡ table.next + 1 → IsTable new
  with_one triple pair e absent new names inserted more next =
      let last : new.kept ≡ table.kept ++ (table.next, triple) ∷ [] = inserted ∙ goes_last triple in
      let has : has_triple (triples_of table) triple ≡ false = sym (found triple pair e) ∙ ap is_some absent in
      record {
        numbered = subst (λ es. AllByRecursion (HasNumbers new.names) es) (sym last)
            (subst (λ ns. AllByRecursion (HasNumbers ns) (table.kept ++ (table.next, triple) ∷ [])) (sym names)
            (each_put_last (HasNumbers table.names) (table.next, triple) table.kept h.numbered (ap is_some e)));
        listed = subst (λ es. AreListed new.names es new.pairs.entries) (sym last)
            (subst (λ ns. AreListed ns (table.kept ++ (table.next, triple) ∷ []) new.pairs.entries) (sym names)
            (more_listed triple pair e absent new.pairs.entries
            (subst (λ es. ListsNew es pair table.next table.pairs.entries new.pairs.entries) last more)));
        below = subst (λ es. AreBelow new.next es) (sym last)
            (subst (λ n. AreBelow n (table.kept ++ (table.next, triple) ∷ [])) (sym next)
            (below_last table.next triple table.kept h.below));
        apart = subst (λ es. IsDistinct nat_eq (keys_of es)) (sym last)
            (distinct_last nat_eq number_laws table.next triple table.kept fresh h.apart);
        distinct = subst (λ es. HasDistinctTriples (values_of es)) (sym last)
            (subst HasDistinctTriples (sym (last_value table.kept (table.next, triple)))
            (distinct_last_triple triple (triples_of table) has same_triple_flips h.distinct));
      }

  -- ---- one less

  less_listed : (pair : Pair) (account : List ℕ) (id : ℕ) → id_of table.kept table.pairs.entries pair account ≡ Some id
      → (pairs : List (Pair × PairAccounts)) → ListsLess pair account table.pairs.entries pairs
      → AreListed table.names (remove_entry (nat_eq id) table.kept) pairs
  less_listed pair account id there pairs less = λ p a.
      stable_of table.kept (remove_entry (nat_eq id) table.kept) pairs others p a
      ∙ listed p a
      ∙ by p a (same_pair pair p && bytes_eq account a) refl
    where
      one : (triple : Triple) × (lookup (nat_eq id) table.kept ≡ Some triple) × (is_for table.names pair account triple ≡ true)
      one = stands (is_for table.names pair account) id table.kept (sym (h.listed pair account) ∙ there) h.apart

      numbers : (is_numbered table.names pair one.0 ≡ true) × (bytes_eq account one.0.account ≡ true)
      numbers = both (is_numbered table.names pair one.0) (bytes_eq account one.0.account) one.2

      listed : (p : Pair) (a : List ℕ) → id_of table.kept pairs p a
          ≡ cond (same_pair pair p && bytes_eq account a) None (id_at (is_for table.names p a) table.kept)
      listed p a =
          less table.kept id (ap is_some one.1) there p a
          ∙ ap (λ o. cond (same_pair pair p && bytes_eq account a) None o) (h.listed p a)

      -- whether it is the one that goes
      passes : (p : Pair) (a : List ℕ) → is_for table.names p a one.0 ≡ (same_pair pair p && bytes_eq account a)
      passes p a =
          ap (λ b. b && bytes_eq a one.0.account) (is_its_pair table.names pair p one.0 (pair_is table.names pair one.0 numbers.0)
          ∙ pair_laws.symm p pair)
          ∙ ap (λ b. same_pair pair p && b) (account_laws.symm a one.0.account
          ∙ ap (λ b. bytes_eq b a) (sym (same_account_is account one.0.account numbers.1)))

      others : (p : Pair) (a : List ℕ) (other : ℕ) → id_of table.kept pairs p a ≡ Some other
          → lookup (nat_eq other) (remove_entry (nat_eq id) table.kept) ≡ lookup (nat_eq other) table.kept
      others p a other f =
          pick (same_pair pair p && bytes_eq account a) refl (sym (listed p a) ∙ f) (nat_eq id other) refl
        where
          pick : (b : Bool) → (same_pair pair p && bytes_eq account a) ≡ b
              → cond b None (id_at (is_for table.names p a) table.kept) ≡ Some other
              → (c : Bool) → nat_eq id other ≡ c
              → lookup (nat_eq other) (remove_entry (nat_eq id) table.kept) ≡ lookup (nat_eq other) table.kept
          pick true t g c u = cc
          pick false t g false u =
              lookup_removed id other table.kept h.apart ∙ ap (λ c. cond c None (lookup (nat_eq other) table.kept)) u
          pick false t g true u =
              let at = stands (is_for table.names p a) other table.kept g h.apart in
              let same : at.0 ≡ one.0 = same_one at.0 one.0 (sym at.1
              ∙ ap (λ n. lookup (nat_eq n) table.kept) (sym (same_number_is id other u)) ∙ one.1) in
              let wrong : true ≡ false = sym at.2 ∙ ap (is_for table.names p a) same ∙ passes p a ∙ t in
              cc
            where
              same_one : (x y : Triple) → Some x ≡ Some y → x ≡ y
              same_one x y e = cc

      by : (p : Pair) (a : List ℕ) (b : Bool) → (same_pair pair p && bytes_eq account a) ≡ b
          → cond b None (id_at (is_for table.names p a) table.kept)
          ≡ id_at (is_for table.names p a) (remove_entry (nat_eq id) table.kept)
      by p a true t =
          sym (none_left (is_for table.names p a) (for_one table.names p a) id one.0 table.kept one.1 (passes p a ∙ t) h.apart h.distinct)
      by p a false t =
          sym (id_other (is_for table.names p a) id one.0 table.kept one.1 (passes p a ∙ t))

  -- the table without one
  pub without_one : (pair : Pair) (account : List ℕ) (id : ℕ) → id_of table.kept table.pairs.entries pair account ≡ Some id
      → (new : Table) → new.names ≡ table.names → new.kept ≡ remove_entry (nat_eq id) table.kept → new.next ≡ table.next
      → ListsLess pair account table.pairs.entries new.pairs.entries → IsTable new
  without_one pair account id there new names left next less = record {
    numbered = subst (λ es. AllByRecursion (HasNumbers new.names) es) (sym left)
        (subst (λ ns. AllByRecursion (HasNumbers ns) (remove_entry (nat_eq id) table.kept)) (sym names)
        (each_removed (HasNumbers table.names) (nat_eq id) table.kept h.numbered));
    listed = subst (λ es. AreListed new.names es new.pairs.entries) (sym left)
        (subst (λ ns. AreListed ns (remove_entry (nat_eq id) table.kept) new.pairs.entries) (sym names)
        (less_listed pair account id there new.pairs.entries less));
    below = subst (λ es. AreBelow new.next es) (sym left)
        (subst (λ n. AreBelow n (remove_entry (nat_eq id) table.kept)) (sym next)
        (each_removed (λ e. e.0 < table.next) (nat_eq id) table.kept h.below));
    apart = subst (λ es. IsDistinct nat_eq (keys_of es)) (sym left) (apart_removed id table.kept h.apart);
    distinct = subst (λ es. HasDistinctTriples (values_of es)) (sym left) (distinct_removed (nat_eq id) table.kept h.distinct);
  }

  -- ---- a pair less

  none_listed : (pair : Pair) (pairs : List (Pair × PairAccounts)) → ListsNone pair table.pairs.entries pairs
      → AreListed table.names (filter (λ e. not (is_numbered table.names pair e.1)) table.kept) pairs
  none_listed pair pairs less = λ p a.
      stable_of table.kept left pairs others p a ∙ listed p a ∙ by p a (same_pair pair p) refl
    where
      left : List (ℕ × Triple)
      left = filter (λ e. not (is_numbered table.names pair e.1)) table.kept

      listed : (p : Pair) (a : List ℕ) → id_of table.kept pairs p a
          ≡ cond (same_pair pair p) None (id_at (is_for table.names p a) table.kept)
      listed p a = less table.kept p a ∙ ap (λ o. cond (same_pair pair p) None o) (h.listed p a)

      -- a permission of one pair is of another where the two are the same
      of_pair : (p : Pair) (a : List ℕ) (t : Triple) → is_for table.names p a t ≡ true
          → is_numbered table.names pair t ≡ same_pair pair p
      of_pair p a t e =
          is_its_pair table.names p pair t (pair_is table.names p t (both (is_numbered table.names p t) (bytes_eq a t.account) e).0)

      others : (p : Pair) (a : List ℕ) (id : ℕ) → id_of table.kept pairs p a ≡ Some id
          → lookup (nat_eq id) left ≡ lookup (nat_eq id) table.kept
      others p a id f = pick (same_pair pair p) refl (sym (listed p a) ∙ f)
        where
          pick : (b : Bool) → same_pair pair p ≡ b → cond b None (id_at (is_for table.names p a) table.kept) ≡ Some id
              → lookup (nat_eq id) left ≡ lookup (nat_eq id) table.kept
          pick true t g = cc
          pick false t g =
              let at = stands (is_for table.names p a) id table.kept g h.apart in
              lookup_kept (is_numbered table.names pair) id at.0 table.kept at.1 (of_pair p a at.0 at.2 ∙ t)

      by : (p : Pair) (a : List ℕ) (b : Bool) → same_pair pair p ≡ b
          → cond b None (id_at (is_for table.names p a) table.kept) ≡ id_at (is_for table.names p a) left
      by p a true t =
          sym (id_gone (is_for table.names p a) (is_numbered table.names pair) (λ u e. of_pair p a u e ∙ t) table.kept)
      by p a false t =
          sym (id_kept (is_for table.names p a) (is_numbered table.names pair) (λ u e. of_pair p a u e ∙ t) table.kept)

  -- the table without a pair
  pub without_all : (pair : Pair) (held : PairAccounts) → lookup (same_pair pair) table.pairs.entries ≡ Some held → AreApart held
      → (new : Table) → new.names ≡ table.names → new.kept ≡ without_ids (ids_held held) table.kept → new.next ≡ table.next
      → ListsNone pair table.pairs.entries new.pairs.entries → IsTable new
  without_all pair held there once new names gone next less =
      let left : new.kept ≡ filter (λ e. not (is_numbered table.names pair e.1)) table.kept =
      gone ∙ pair_goes table.names table.kept table.pairs.entries h.listed h.apart h.distinct pair held there once in
      record {
        numbered = subst (λ es. AllByRecursion (HasNumbers new.names) es) (sym left)
            (subst (λ ns. AllByRecursion (HasNumbers ns) (filter (λ e. not (is_numbered table.names pair e.1)) table.kept)) (sym names)
            (each_filtered (HasNumbers table.names) (λ e. not (is_numbered table.names pair e.1)) table.kept h.numbered));
        listed = subst (λ es. AreListed new.names es new.pairs.entries) (sym left)
            (subst (λ ns. AreListed ns (filter (λ e. not (is_numbered table.names pair e.1)) table.kept) new.pairs.entries) (sym names)
            (none_listed pair new.pairs.entries less));
        below = subst (λ es. AreBelow new.next es) (sym left)
            (subst (λ n. AreBelow n (filter (λ e. not (is_numbered table.names pair e.1)) table.kept)) (sym next)
            (each_filtered (λ e. e.0 < table.next) (λ e. not (is_numbered table.names pair e.1)) table.kept h.below));
        apart = subst (λ es. IsDistinct nat_eq (keys_of es)) (sym left) (apart_filtered (λ e. not (is_numbered table.names pair e.1)) table.kept h.apart);
        distinct = subst (λ es. HasDistinctTriples (values_of es)) (sym left)
            (distinct_filtered (λ e. not (is_numbered table.names pair e.1)) table.kept h.distinct);
      }
