-- Lists by number, as lists under their keys.
use Rattle.std.proofs.Common.{◌≡◌, ℕ, zero, suc, ◌+◌, ◌<◌, Bool, true, false, cond, not, nat_eq, List, [], ◌∷◌, ◌++◌, length}
use Rattle.std.proofs.Common.{Option, Some, None, is_some, refl, sym, ap, ◌∙◌, arith, subst, length-set}
use Rattle.std.specs.Prelude.{◌||◌, slice_get, unwrap_or, Result, Ok, Err, OnOk, OnErr}
use Rattle.std.specs.List.{position, position_or_len, IsDistinct}
use Rattle.std.specs.Map.{keys_of, values_of, lookup}
use Rattle.indexmap.specs.IndexMap.{insert_entry}
use Rattle.indexmap.proofs.MapLemmas.{Found-position, Missing-position, absent_from_lookup, insert_entry-absent}
use Rattle.fed_links.specs.Lists as links
use Rattle.fed_links.specs.Lists.{list_at, first_of, after_in, after_among}
use Rattle.fed_origin.specs.declared.origin.Origin.{Origin}
use Rattle.fed_origin.specs.Origin.{same_origin}
use Rattle.fed_table.specs.Lists.{has, without, call_after, times, calls_at, stands_in, times_in, total, next_in, all_without, with_last}
use Rattle.fed_table.specs.Lists.{with_key}
use Rattle.fed_table.specs.Table.{IsCallTable, nodes_of}
use Rattle.fed_table.specs.Kept.{keyed, CallLists, AreCallLists, AreListed, table_shown}

without_is : (c : ℕ) (xs : List ℕ) → links.without c xs ≡ without c xs
without_is c [] = refl
without_is c (x ∷ xs) = by (nat_eq c x) (without_is c xs)
  where
    by : (t : Bool) → links.without c xs ≡ without c xs
        → cond t (links.without c xs) (x ∷ links.without c xs) ≡ cond (not t) (x ∷ without c xs) (without c xs)
    by true rest = rest
    by false rest = ap (λ ys. x ∷ ys) rest

has_is : (c : ℕ) (xs : List ℕ) → links.has c xs ≡ has c xs
has_is c [] = refl
has_is c (x ∷ xs) = by (nat_eq c x) (has_is c xs)
  where
    by : (t : Bool) → links.has c xs ≡ has c xs → cond t true (links.has c xs) ≡ (t || has c xs)
    by true rest = refl
    by false rest = rest

times_is : (c : ℕ) (xs : List ℕ) → links.times c xs ≡ times c xs
times_is c [] = refl
times_is c (x ∷ xs) = ap (λ n. cond (nat_eq c x) 1 0 + n) (times_is c xs)

pub first_is : (xs : List ℕ) → first_of xs ≡ slice_get xs 0
first_is [] = refl
first_is (x ∷ xs) = refl

after_is : (c : ℕ) (xs : List ℕ) → after_in xs c ≡ call_after c xs
after_is c [] = refl
after_is c (x ∷ xs) = λ i. cond (nat_eq c x) (first_is xs i) (after_is c xs i)

got : (ls : List (List ℕ)) (n : ℕ) → unwrap_or (slice_get ls n) [] ≡ list_at ls n
got [] n = refl
got (l ∷ ls) zero = refl
got (l ∷ ls) (suc n) = got ls n

pub last_of_more : (c : ℕ) (ls : List (List ℕ)) (n : ℕ) → n ≡ length ls → links.with_last n c (ls ++ [] ∷ []) ≡ ls ++ (c ∷ []) ∷ []
last_of_more c [] zero e = refl
last_of_more c [] (suc n) e = absurd (omega (arith, e))
last_of_more c (l ∷ ls) zero e = absurd (omega (arith, e))
last_of_more c (l ∷ ls) (suc n) e = ap (λ more. l ∷ more) (last_of_more c ls n (omega (arith, e)))

module _ {K : Type 0} where
  pub keyed_keys : (ks : List K) (ls : List (List ℕ)) → keys_of (keyed ks ls) ≡ ks
  keyed_keys [] ls = refl
  keyed_keys (k ∷ ks) [] = ap (λ more. k ∷ more) (keyed_keys ks [])
  keyed_keys (k ∷ ks) (l ∷ ls) = ap (λ more. k ∷ more) (keyed_keys ks ls)

  pub keyed_length : (ks : List K) (ls : List (List ℕ)) → length (keyed ks ls) ≡ length ks
  keyed_length [] ls = refl
  keyed_length (k ∷ ks) [] = ap suc (keyed_length ks [])
  keyed_length (k ∷ ks) (l ∷ ls) = ap suc (keyed_length ks ls)

  pub keyed_without : (c : ℕ) (ks : List K) (ls : List (List ℕ)) → keyed ks (links.all_without c ls) ≡ all_without c (keyed ks ls)
  keyed_without c [] ls = refl
  keyed_without c (k ∷ ks) [] = ap (λ more. (k, []) ∷ more) (keyed_without c ks [])
  keyed_without c (k ∷ ks) (l ∷ ls) = let here = without_is c l in let rest = keyed_without c ks ls in λ i. (k, here i) ∷ rest i

  pub keyed_more : (k : K) (xs : List ℕ) (ks : List K) (ls : List (List ℕ)) → length ks ≡ length ls
      → keyed (ks ++ k ∷ []) (ls ++ xs ∷ []) ≡ keyed ks ls ++ (k, xs) ∷ []
  keyed_more k xs [] [] e = refl
  keyed_more k xs [] (l ∷ ls) e = absurd (omega (arith, e))
  keyed_more k xs (j ∷ ks) [] e = absurd (omega (arith, e))
  keyed_more k xs (j ∷ ks) (l ∷ ls) e = ap (λ more. (j, l) ∷ more) (keyed_more k xs ks ls (omega (arith, e)))

  pub keyed_values : (ks : List K) (ls : List (List ℕ)) → length ks ≡ length ls → values_of (keyed ks ls) ≡ ls
  keyed_values [] [] e = refl
  keyed_values [] (l ∷ ls) e = absurd (omega (arith, e))
  keyed_values (k ∷ ks) [] e = absurd (omega (arith, e))
  keyed_values (k ∷ ks) (l ∷ ls) e = ap (λ more. l ∷ more) (keyed_values ks ls (omega (arith, e)))

  pub keyed_total : (ks : List K) (ls : List (List ℕ)) → length ks ≡ length ls → total (keyed ks ls) ≡ links.total ls
  keyed_total [] [] e = refl
  keyed_total [] (l ∷ ls) e = absurd (omega (arith, e))
  keyed_total (k ∷ ks) [] e = absurd (omega (arith, e))
  keyed_total (k ∷ ks) (l ∷ ls) e = ap (λ n. length l + n) (keyed_total ks ls (omega (arith, e)))

  pub keyed_times : (c : ℕ) (ks : List K) (ls : List (List ℕ)) → length ks ≡ length ls → times_in c (keyed ks ls) ≡ links.times_in c ls
  keyed_times c [] [] e = refl
  keyed_times c [] (l ∷ ls) e = absurd (omega (arith, e))
  keyed_times c (k ∷ ks) [] e = absurd (omega (arith, e))
  keyed_times c (k ∷ ks) (l ∷ ls) e =
      let rest = keyed_times c ks ls (omega (arith, e)) in let here = times_is c l in λ i. sym here i + rest i

  pub keyed_stands : (c : ℕ) (ks : List K) (ls : List (List ℕ)) → length ks ≡ length ls → stands_in c (keyed ks ls) ≡ links.stands_in c ls
  keyed_stands c [] [] e = refl
  keyed_stands c [] (l ∷ ls) e = absurd (omega (arith, e))
  keyed_stands c (k ∷ ks) [] e = absurd (omega (arith, e))
  keyed_stands c (k ∷ ks) (l ∷ ls) e =
      by (has c l) (links.has c l) (sym (has_is c l)) (keyed_stands c ks ls (omega (arith, e)))
    where
      by : (t u : Bool) → t ≡ u → stands_in c (keyed ks ls) ≡ links.stands_in c ls
          → (t || stands_in c (keyed ks ls)) ≡ cond u true (links.stands_in c ls)
      by true true e rest = refl
      by false false e rest = rest
      by true false e rest = absurd (grind (arith, e))
      by false true e rest = absurd (grind (arith, e))

  pub keyed_next : (c : ℕ) (ks : List K) (ls : List (List ℕ)) → length ks ≡ length ls → after_among ls c ≡ next_in c (keyed ks ls)
  keyed_next c [] [] e = refl
  keyed_next c [] (l ∷ ls) e = absurd (omega (arith, e))
  keyed_next c (k ∷ ks) [] e = absurd (omega (arith, e))
  keyed_next c (k ∷ ks) (l ∷ ls) e =
      let rest = keyed_next c ks ls (omega (arith, e)) in λ i. cond (has_is c l i) (after_is c l i) (rest i)

  -- the lists with the one at a place changed
  abbrev changed_at : (List ℕ → List ℕ) → ℕ → List (K × List ℕ) → List (K × List ℕ)
  changed_at change place [] = []
  changed_at change zero (entry ∷ more) = (entry.0, change entry.1) ∷ more
  changed_at change (suc place) (entry ∷ more) = entry ∷ changed_at change place more

  keyed_changed : (c n : ℕ) (ks : List K) (ls : List (List ℕ)) → length ks ≡ length ls
      → keyed ks (links.with_last n c ls) ≡ changed_at (λ calls. calls ++ c ∷ []) n (keyed ks ls)
  keyed_changed c n [] [] e = refl
  keyed_changed c n [] (l ∷ ls) e = absurd (omega (arith, e))
  keyed_changed c n (k ∷ ks) [] e = absurd (omega (arith, e))
  keyed_changed c zero (k ∷ ks) (l ∷ ls) e = refl
  keyed_changed c (suc n) (k ∷ ks) (l ∷ ls) e = ap (λ more. (k, l) ∷ more) (keyed_changed c n ks ls (omega (arith, e)))

  module _ (same : K → K → Bool) (k : K) where
    insert_at : (f : List ℕ → List ℕ) (es : List (K × List ℕ)) → position_or_len (same k) (keys_of es) < length es
        → insert_entry same es k (f (calls_at (same k) es)) ≡ changed_at f (position_or_len (same k) (keys_of es)) es
    insert_at f [] within = absurd (omega (arith, within))
    insert_at f (e ∷ es) within = by (same k e.0) within (insert_at f es)
      where
        by : (t : Bool) → cond (not t) (1 + position_or_len (same k) (keys_of es)) 0 < length (e ∷ es)
            → (position_or_len (same k) (keys_of es) < length es
            → insert_entry same es k (f (calls_at (same k) es)) ≡ changed_at f (position_or_len (same k) (keys_of es)) es)
            → cond t ((e.0, f (unwrap_or (cond t (Some e.1) (lookup (same k) es)) [])) ∷ es)
            (e ∷ insert_entry same es k (f (unwrap_or (cond t (Some e.1) (lookup (same k) es)) [])))
            ≡ changed_at f (cond (not t) (1 + position_or_len (same k) (keys_of es)) 0) (e ∷ es)
        by true below rest = refl
        by false below rest =
            let more : 1 + position_or_len (same k) (keys_of es) ≡ suc (position_or_len (same k) (keys_of es)) = omega arith in
            rw more (ap (λ ls. e ∷ ls) (rest (omega (arith, below))))

    module _ (ks : List K) (ls : List (List ℕ)) (long : length ks ≡ length ls) where
      pub at_place : (n : ℕ) → position (same k) ks ≡ Some n → calls_at (same k) (keyed ks ls) ≡ list_at ls n
      at_place n at =
          let found = Found-position (same k) (keyed ks ls) n (ap (position (same k)) (keyed_keys ks ls) ∙ at) in
          ap (λ o. unwrap_or o []) (found.value ∙ ap (λ vs. slice_get vs n) (keyed_values ks ls long)) ∙ got ls n

      pub no_place : position (same k) ks ≡ None → lookup (same k) (keyed ks ls) ≡ None
      no_place at = (Missing-position (same k) (keyed ks ls) (ap (position (same k)) (keyed_keys ks ls) ∙ at)).value

      pub place_within : (n : ℕ) → position (same k) ks ≡ Some n → n < length ls
      place_within n at =
          let found = Found-position (same k) (keyed ks ls) n (ap (position (same k)) (keyed_keys ks ls) ∙ at) in
          let within = found.within in
          let all = keyed_length ks ls in
          omega (arith, within, all, long)

      pub there : (n : ℕ) → position (same k) ks ≡ Some n → is_some (lookup (same k) (keyed ks ls)) ≡ true
      there n at = go (lookup (same k) (keyed ks ls))
          ((Found-position (same k) (keyed ks ls) n (ap (position (same k)) (keyed_keys ks ls) ∙ at)).value
          ∙ ap (λ vs. slice_get vs n) (keyed_values ks ls long))
        where
          some : (ls : List (List ℕ)) (n : ℕ) → n < length ls → is_some (slice_get ls n) ≡ true
          some [] n le = absurd (omega (arith, le))
          some (l ∷ ls) zero le = refl
          some (l ∷ ls) (suc n) le = some ls n (omega (arith, le))

          go : (o : Option (List ℕ)) → o ≡ slice_get ls n → is_some o ≡ true
          go o e = ap is_some e ∙ some ls n (place_within n at)

      -- the call comes last under a key that is there
      pub last_at : (c n : ℕ) → position (same k) ks ≡ Some n → keyed ks (links.with_last n c ls) ≡ with_last same k c (keyed ks ls)
      last_at c n at =
          let found = Found-position (same k) (keyed ks ls) n (ap (position (same k)) (keyed_keys ks ls) ∙ at) in
          keyed_changed c n ks ls long
          ∙ sym (insert_at (λ calls. calls ++ c ∷ []) (keyed ks ls) (rw found.or_len found.within)
          ∙ ap (λ m. changed_at (λ calls. calls ++ c ∷ []) m (keyed ks ls)) found.or_len)

      -- the call comes first under a new key
      pub last_new : (c n : ℕ) → position (same k) ks ≡ None → n ≡ length ks
          → keyed (ks ++ k ∷ []) (links.with_last n c (ls ++ [] ∷ [])) ≡ with_last same k c (keyed ks ls)
      last_new c n at e =
          ap (keyed (ks ++ k ∷ [])) (last_of_more c ls n (e ∙ long)) ∙ keyed_more k (c ∷ []) ks ls long
          ∙ sym (insert_entry-absent same k (c ∷ []) (keyed ks ls) (absent_from_lookup (same k) (keyed ks ls) (no_place at)))
          ∙ ap (λ o. insert_entry same (keyed ks ls) k (unwrap_or o [] ++ c ∷ [])) (sym (no_place at))

      -- a key that is there, and a new one
      pub key_stays : (n : ℕ) → position (same k) ks ≡ Some n → keyed ks ls ≡ with_key same k (keyed ks ls)
      key_stays n at = rw (there n at) refl

      pub key_comes : position (same k) ks ≡ None → keyed (ks ++ k ∷ []) (ls ++ [] ∷ []) ≡ with_key same k (keyed ks ls)
      key_comes at =
          keyed_more k [] ks ls long
          ∙ sym (insert_entry-absent same k [] (keyed ks ls) (absent_from_lookup (same k) (keyed ks ls) (no_place at)))
          ∙ ap (λ o. cond (is_some o) (keyed ks ls) (insert_entry same (keyed ks ls) k [])) (sym (no_place at))

pub is_table : {C : Type 0} (pages : List ℕ) (origins : List Origin) (calls : CallLists C) → AreListed pages origins calls
    → AreCallLists calls → IsDistinct nat_eq pages → IsDistinct same_origin origins → IsCallTable (table_shown pages origins calls)
is_table pages origins calls listed are once origins_once = record {
  pages = subst (IsDistinct nat_eq) (sym (keyed_keys pages calls.pages)) once;
  origins = subst (IsDistinct same_origin) (sym (keyed_keys origins calls.waits)) origins_once;
  standing = λ c. keyed_times c pages calls.pages listed.page_lists ∙ are.standing c;
  waiting = λ c. (let a = keyed_times c origins calls.waits listed.origin_lists in let b = are.waiting c in omega (arith, a, b));
  few = (let a = keyed_total pages calls.pages listed.page_lists in let b = are.few in omega (arith, a, b));
  noded = are.noded;
  apart = are.apart;
  page_nodes = λ n. are.page_nodes n
      ∙ ap (λ ls. nodes_of calls.nodes (list_at ls n)) (sym (keyed_values pages calls.pages listed.page_lists));
  wait_nodes = λ n. are.wait_nodes n
      ∙ ap (λ ls. nodes_of calls.nodes (list_at ls n)) (sym (keyed_values origins calls.waits listed.origin_lists));
}

length_more : {A : Type 0} (xs : List A) (x : A) → length (xs ++ x ∷ []) ≡ length xs + 1
length_more [] x = refl
length_more (y ∷ ys) x = let rest = length_more ys x in omega (arith, rest)

-- a page more, or the same
pub page_listed : {C A E : Type 0} (r : Result A E) (pages pages' : List ℕ) (origins : List Origin) (calls calls' : CallLists C) (page : ℕ)
    → AreListed pages origins calls → length pages < 4294967295
    → OnOk r (pages' ≡ pages ++ page ∷ []) → OnOk r (calls'.pages ≡ calls.pages ++ [] ∷ []) → calls'.waits ≡ calls.waits
    → OnErr r (calls' ≡ calls) → OnErr r (pages' ≡ pages) → AreListed pages' origins calls'
page_listed (Err e) pages pages' origins calls calls' page listed few keys lists waits same same_keys = record {
  page_lists =
      (let a = ap length same_keys in let b = ap (λ (l : CallLists _). length l.pages) same in let d = listed.page_lists in
      omega (arith, a, b, d));
  origin_lists = listed.origin_lists ∙ ap length (sym waits);
  few_pages = (let a = ap length same_keys in let d = listed.few_pages in omega (arith, a, d));
  few_origins = listed.few_origins;
}
page_listed (Ok x) pages pages' origins calls calls' page listed few keys lists waits same same_keys = record {
  page_lists = (let a = ap length keys ∙ length_more pages page in let b = ap length lists ∙ length_more calls.pages [] in
      let d = listed.page_lists in omega (arith, a, b, d));
  origin_lists = listed.origin_lists ∙ ap length (sym waits);
  few_pages = (let a = ap length keys ∙ length_more pages page in omega (arith, a, few));
  few_origins = listed.few_origins;
}

pub page_comes : {C A E : Type 0} (r : Result A E) (pages pages' : List ℕ) (calls calls' : CallLists C) (page : ℕ) (shown : List
    (ℕ × List ℕ))
    → length pages ≡ length calls.pages → position (nat_eq page) pages ≡ None → keyed pages calls.pages ≡ shown
    → OnOk r (pages' ≡ pages ++ page ∷ []) → OnOk r (calls'.pages ≡ calls.pages ++ [] ∷ [])
    → OnOk r (keyed pages' calls'.pages ≡ with_key nat_eq page shown)
page_comes (Err e) pages pages' calls calls' page shown long new view keys lists = keys
page_comes (Ok x) pages pages' calls calls' page shown long new view keys lists =
    (λ i. keyed (keys i) (lists i)) ∙ key_comes nat_eq page pages calls.pages long new ∙ ap (with_key nat_eq page) view

-- an origin more, whose first call waits
pub origin_listed : {C : Type 0} (pages : List ℕ) (origins origins' : List Origin) (calls calls' : CallLists C) (waits : List (List ℕ))
    (origin : Origin) (list call : ℕ) → AreListed pages origins calls → length origins < 4294967295 → origins' ≡ origins ++ origin ∷ []
    → calls'.pages ≡ calls.pages → waits ≡ calls.waits ++ [] ∷ [] → calls'.waits ≡ links.with_last list call waits
    → AreListed pages origins' calls'
origin_listed pages origins origins' calls calls' waits origin list call listed few keys same more last = record {
  page_lists = listed.page_lists ∙ ap length (sym same);
  origin_lists = (let a = ap length keys ∙ length_more origins origin in
      let b = ap length last ∙ length-set waits list (list_at waits list ++ call ∷ []) in
      let d = ap length more ∙ length_more calls.waits [] in
      let e = listed.origin_lists in
      omega (arith, a, b, d, e));
  few_pages = listed.few_pages;
  few_origins = (let a = ap length keys ∙ length_more origins origin in omega (arith, a, few));
}
