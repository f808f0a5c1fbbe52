-- A cookie that is put into a jar's lists.
use Rattle.std.proofs.Common.{◌≡◌, ℕ, ◌+◌, ◌<◌, Bool, true, false, cond, ◌||◌, List, [], ◌∷◌, ◌++◌, map, Some, sym, refl, ap}
use Rattle.std.proofs.Common.{◌∙◌}
use Rattle.std.proofs.Common.{subst, arith, append_assoc, not}
use Rattle.std.specs.Prelude.{bytes_eq, filter, nat_le}
use Rattle.std.specs.List.{list_any, AllByRecursion, IsDistinct}
use Rattle.std.specs.Map.{keys_of, lookup}
use Rattle.std.specs.Option.{option_map_or}
use Rattle.std.proofs.lemmas.Bool.Decides.{nat_tests}
use Rattle.url.specs.Parts.{Parts}
use Rattle.fed_origin.specs.WebUrl.{host_of}
use Rattle.fed_suffix.specs.Rule.{RuleSet}
use Rattle.fed_suffix.specs.Registrable.{party}
use Rattle.fed_jar.specs.declared.numbered.Numbered.{Numbered}
use Rattle.fed_jar.specs.Cookie.{StoredCookie, KeptCookie, cookies_of, is_under, kept_under, has_key, same_key}
use Rattle.fed_jar.specs.Cookie.{with_kept, with_cookie, AreDistinct}
use Rattle.fed_jar.specs.Store.{IsOwn, is_of_party}
use Rattle.fed_jar.specs.Send.{jar_text}
use Rattle.fed_jar.specs.Parts.{numbered_cookies, under, put_numbered, put_under, Lists, list_under, all_kept, kept_of, Rises}
use Rattle.fed_jar.specs.Parts.{AreLists}
use Rattle.fed_jar.specs.Parts.{same_numbered, smallest_first, numbered_of}
use Rattle.fed_jar.proofs.order.Order.{swapped_in_order, last_in_order}
use Rattle.fed_jar.proofs.keys.Keys.{key_is, key_test, key_comm}
use Rattle.fed_jar.proofs.changes.Changes.{distinct-with_cookie}
use Rattle.fed_jar.proofs.parties.Parties.{filter_within, text_is_of_party}
use Rattle.fed_jar.proofs.parts.Lists.{put_last}
use Rattle.fed_jar.proofs.parts.Kept.{same_text, text_same, text_comm, map_joined, cookies_under, has_key-numbered, part_of_kept}
use Rattle.fed_jar.proofs.parts.Kept.{cookies_numbered}

-- ---- where a cookie is put among all

-- the cookie with the new one's key has its place, party and number
renew : StoredCookie → KeptCookie → KeptCookie
renew cookie k = record k { cookie = cookie }

record IsReplaced (new : Numbered) (ls after : Lists) : Type 0 where
  front : List KeptCookie
  back : List KeptCookie
  old : KeptCookie
  same : same_key new.cookie old.cookie ≡ true
  was : all_kept ls ≡ front ++ old ∷ back
  is : all_kept after ≡ front ++ renew new.cookie old ∷ back

record IsAdded (name : List ℕ) (new : Numbered) (ls after : Lists) : Type 0 where
  front : List KeptCookie
  back : List KeptCookie
  was : all_kept ls ≡ front ++ back
  is : all_kept after ≡ front ++ under name new ∷ back

record IsChanged (new : Numbered) (ns after : List Numbered) : Type 0 where
  front : List Numbered
  back : List Numbered
  old : Numbered
  same : same_key new.cookie old.cookie ≡ true
  was : ns ≡ front ++ old ∷ back
  is : after ≡ front ++ record old { cookie = new.cookie } ∷ back

changed : (new : Numbered) (ns : List Numbered) → list_any (same_numbered new) ns ≡ true → IsChanged new ns (put_numbered ns new)
changed new [] e = absurd (cc)
changed new (n ∷ ns) e = pick (same_numbered new n) refl (changed new ns) e
  where
    pick : (b : Bool) → same_numbered new n ≡ b → (list_any (same_numbered new) ns ≡ true → IsChanged new ns (put_numbered ns new))
        → (b || list_any (same_numbered new) ns) ≡ true
        → IsChanged new (n ∷ ns) (cond b (record n { cookie = new.cookie } ∷ ns) (n ∷ put_numbered ns new))
    pick true is h e = record { front = []; back = ns; old = n; same = is; was = refl; is = refl }
    pick false is h e =
        let c = h e in
        record { front = n ∷ c.front; back = c.back; old = c.old; same = c.same; was = ap (λ l. n ∷ l) c.was; is = ap (λ l. n ∷ l) c.is }

-- a list of a party that is changed, among all
changed_all : (new : Numbered) (name : List ℕ) (ns after : List Numbered) (ls : Lists) → IsChanged new ns after
    → IsReplaced new ((name, ns) ∷ ls) ((name, after) ∷ ls)
unfolding renew
changed_all new name ns after ls c = record {
  front = map (under name) c.front;
  back = map (under name) c.back ++ all_kept ls;
  old = under name c.old;
  same = c.same;
  was =
      ap (λ l. map (under name) l ++ all_kept ls) c.was
      ∙ ap (λ l. l ++ all_kept ls) (map_joined (under name) c.front (c.old ∷ c.back))
      ∙ append_assoc (map (under name) c.front) (under name c.old ∷ map (under name) c.back) (all_kept ls);
  is =
      ap (λ l. map (under name) l ++ all_kept ls) c.is
      ∙ ap (λ l. l ++ all_kept ls) (map_joined (under name) c.front (record c.old { cookie = new.cookie } ∷ c.back))
      ∙ append_assoc (map (under name) c.front) (under name (record c.old { cookie = new.cookie }) ∷ map (under name) c.back) (all_kept ls);
}

behind_replaced : (new : Numbered) (l : List ℕ × List Numbered) (ls after : Lists) → IsReplaced new ls after
    → IsReplaced new (l ∷ ls) (l ∷ after)
behind_replaced new l ls after r = record {
  front = map (under l.0) l.1 ++ r.front;
  back = r.back;
  old = r.old;
  same = r.same;
  was = ap (λ a. map (under l.0) l.1 ++ a) r.was ∙ sym (append_assoc (map (under l.0) l.1) r.front (r.old ∷ r.back));
  is =
      ap (λ a. map (under l.0) l.1 ++ a) r.is
      ∙ sym (append_assoc (map (under l.0) l.1) r.front (renew new.cookie r.old ∷ r.back));
}

behind_added : (name : List ℕ) (new : Numbered) (l : List ℕ × List Numbered) (ls after : Lists) → IsAdded name new ls after
    → IsAdded name new (l ∷ ls) (l ∷ after)
behind_added name new l ls after r = record {
  front = map (under l.0) l.1 ++ r.front;
  back = r.back;
  was = ap (λ a. map (under l.0) l.1 ++ a) r.was ∙ sym (append_assoc (map (under l.0) l.1) r.front r.back);
  is =
      ap (λ a. map (under l.0) l.1 ++ a) r.is ∙ sym (append_assoc (map (under l.0) l.1) r.front (under name new ∷ r.back));
}

replaced_in : (name : List ℕ) (new : Numbered) (ls : Lists) → list_any (same_numbered new) (list_under name ls) ≡ true
    → IsReplaced new ls (put_under name ls new)
replaced_in name new [] e = absurd (cc)
replaced_in name new (l ∷ ls) e = pick (bytes_eq name l.0) (replaced_in name new ls) e
  where
    pick : (b : Bool) → (list_any (same_numbered new) (list_under name ls) ≡ true → IsReplaced new ls (put_under name ls new))
        → list_any (same_numbered new) (option_map_or (λ list. list) (cond b (Some l.1) (lookup (bytes_eq name) ls)) []) ≡ true
        → IsReplaced new (l ∷ ls) (cond b ((l.0, put_numbered l.1 new) ∷ ls) (l ∷ put_under name ls new))
    pick true h e = changed_all new l.0 l.1 (put_numbered l.1 new) ls (changed new l.1 e)
    pick false h e = behind_replaced new l ls (put_under name ls new) (h e)

added_in : (name : List ℕ) (new : Numbered) (ls : Lists) → list_any (same_numbered new) (list_under name ls) ≡ false
    → IsAdded name new ls (put_under name ls new)
added_in name new [] e = record { front = []; back = []; was = refl; is = refl }
added_in name new (l ∷ ls) e = pick (bytes_eq name l.0) refl (added_in name new ls) e
  where
    pick : (b : Bool) → bytes_eq name l.0 ≡ b
        → (list_any (same_numbered new) (list_under name ls) ≡ false → IsAdded name new ls (put_under name ls new))
        → list_any (same_numbered new) (option_map_or (λ list. list) (cond b (Some l.1) (lookup (bytes_eq name) ls)) []) ≡ false
        → IsAdded name new (l ∷ ls) (cond b ((l.0, put_numbered l.1 new) ∷ ls) (l ∷ put_under name ls new))
    pick true is h e = record {
      front = map (under l.0) l.1;
      back = all_kept ls;
      was = refl;
      is =
          ap (λ ns. map (under l.0) ns ++ all_kept ls) (put_last new l.1 e)
          ∙ ap (λ a. a ++ all_kept ls) (map_joined (under l.0) l.1 (new ∷ []))
          ∙ append_assoc (map (under l.0) l.1) (under l.0 new ∷ []) (all_kept ls)
          ∙ ap (λ n. map (under l.0) l.1 ++ under n new ∷ all_kept ls) (sym (same_text name l.0 is));
    }
    pick false is h e = behind_added name new l ls (put_under name ls new) (h e)

-- ---- the jar's list after it

key_here : (c : StoredCookie) (old : KeptCookie) (front back : List KeptCookie)
    → AllByRecursion (λ y. same_key c y ≡ false) (cookies_of (front ++ old ∷ back)) → same_key c old.cookie ≡ false
key_here c old [] back all = all.0
key_here c old (k ∷ front) back all = key_here c old front back all.1

with_kept_at : (new old : KeptCookie) (front back : List KeptCookie) → same_key new.cookie old.cookie ≡ true
    → AreDistinct (cookies_of (front ++ old ∷ back))
    → with_kept (front ++ old ∷ back) new ≡ front ++ renew new.cookie old ∷ back
unfolding IsDistinct renew
with_kept_at new old [] back same apart =
    ap (λ b. cond b (record old { cookie = new.cookie } ∷ back) (old ∷ with_kept back new)) same
with_kept_at new old (k ∷ front) back same apart =
    let other : same_key new.cookie k.cookie ≡ false =
    key_test new.cookie old.cookie k.cookie (key_is new.cookie old.cookie same)
    ∙ key_comm old.cookie k.cookie ∙ key_here k.cookie old front back apart.0 in
    ap (λ b. cond b (record k { cookie = new.cookie } ∷ (front ++ old ∷ back)) (k ∷ with_kept (front ++ old ∷ back) new)) other
    ∙ ap (λ l. k ∷ l) (with_kept_at new old front back same apart.1)

with_kept_last : (new : KeptCookie) (ks : List KeptCookie) → has_key new.cookie (cookies_of ks) ≡ false → with_kept ks new ≡ ks ++ new ∷ []
with_kept_last new [] e = refl
with_kept_last new (k ∷ ks) e = pick (same_key new.cookie k.cookie) (with_kept_last new ks) e
  where
    pick : (b : Bool) → (has_key new.cookie (cookies_of ks) ≡ false → with_kept ks new ≡ ks ++ new ∷ [])
        → (b || has_key new.cookie (cookies_of ks)) ≡ false
        → cond b (record k { cookie = new.cookie } ∷ ks) (k ∷ with_kept ks new) ≡ k ∷ (ks ++ new ∷ [])
    pick true h e = absurd (cc)
    pick false h e = ap (λ l. k ∷ l) (h e)

kept_replaced : (name : List ℕ) (new : Numbered) (ls after : Lists) → AreDistinct (cookies_of (kept_of ls)) → IsReplaced new ls after
    → kept_of after ≡ with_kept (kept_of ls) (under name new)
unfolding renew
kept_replaced name new ls after apart r =
    let n : KeptCookie → ℕ = λ k. k.number in
    let s = swapped_in_order false n r.old (renew new.cookie r.old) r.front r.back refl in
    let was : kept_of ls ≡ s.front ++ r.old ∷ s.back = ap (smallest_first n) r.was ∙ s.first in
    ap (smallest_first n) r.is
    ∙ s.second
    ∙ sym (with_kept_at (under name new) r.old s.front s.back r.same (subst (λ ks. AreDistinct (cookies_of ks)) was apart))
    ∙ ap (λ ks. with_kept ks (under name new)) (sym was)

last_one : (a b : ℕ) → a < b → (nat_le b a ≡ false) × (nat_le a b ≡ true)
last_one a b e = (grind (arith, nat_tests), grind (arith, nat_tests))

all_before : (e : ℕ) (ks : List KeptCookie) → AllByRecursion (λ (k : KeptCookie). k.number < e) ks
    → AllByRecursion (λ (k : KeptCookie). (nat_le e k.number ≡ false) × (nat_le k.number e ≡ true)) ks
all_before e [] all = tt
all_before e (k ∷ ks) all = (last_one k.number e all.0, all_before e ks all.1)

kept_added : (name : List ℕ) (new : Numbered) (ls after : Lists) → AllByRecursion (λ (k : KeptCookie). k.number < new.number) (all_kept ls)
    → has_key new.cookie (cookies_of (kept_of ls)) ≡ false → IsAdded name new ls after
    → kept_of after ≡ with_kept (kept_of ls) (under name new)
kept_added name new ls after below absent r =
    let n : KeptCookie → ℕ = λ k. k.number in
    let was : kept_of ls ≡ smallest_first n (r.front ++ r.back) = ap (smallest_first n) r.was in
    ap (smallest_first n) r.is
    ∙ last_in_order false n (under name new) r.front r.back
    (all_before new.number (r.front ++ r.back) (subst (AllByRecursion (λ (k : KeptCookie). k.number < new.number)) r.was below))
    ∙ ap (λ ks. ks ++ under name new ∷ []) (sym was)
    ∙ sym (with_kept_last (under name new) (kept_of ls) absent)

pub own_listed : (name : List ℕ) (new : Numbered) (ls : Lists) (entered : ℕ) → AreLists ls entered
    → has_key new.cookie (cookies_of (kept_of ls)) ≡ has_key new.cookie (cookies_of (kept_under name (kept_of ls)))
    → has_key new.cookie (cookies_of (kept_of ls)) ≡ list_any (same_numbered new) (list_under name ls)
own_listed name new ls entered are own =
    own
    ∙ ap (λ ks. has_key new.cookie (cookies_of ks)) (part_of_kept name ls entered are)
    ∙ ap (has_key new.cookie) (cookies_under name (list_under name ls))
    ∙ has_key-numbered new (list_under name ls)

-- the jar's list is that of the lists
pub kept_put : (name : List ℕ) (new : Numbered) (ls : Lists) → AreLists ls new.number
    → has_key new.cookie (cookies_of (kept_of ls)) ≡ has_key new.cookie (cookies_of (kept_under name (kept_of ls)))
    → kept_of (put_under name ls new) ≡ with_kept (kept_of ls) (under name new)
kept_put name new ls are own = pick (list_any (same_numbered new) (list_under name ls)) refl
  where
    listed : has_key new.cookie (cookies_of (kept_of ls)) ≡ list_any (same_numbered new) (list_under name ls)
    listed = own_listed name new ls new.number are own

    pick : (b : Bool) → list_any (same_numbered new) (list_under name ls) ≡ b
        → kept_of (put_under name ls new) ≡ with_kept (kept_of ls) (under name new)
    pick true e = kept_replaced name new ls (put_under name ls new) are.apart (replaced_in name new ls e)
    pick false e = kept_added name new ls (put_under name ls new) are.below (listed ∙ e) (added_in name new ls e)

-- ---- what is always so of the lists

cookies-with_kept : (ks : List KeptCookie) (new : KeptCookie) → cookies_of (with_kept ks new) ≡ with_cookie (cookies_of ks) new.cookie
cookies-with_kept [] new = refl
cookies-with_kept (k ∷ ks) new = pick (same_key new.cookie k.cookie) (cookies-with_kept ks new)
  where
    pick : (b : Bool) → cookies_of (with_kept ks new) ≡ with_cookie (cookies_of ks) new.cookie
        → cookies_of (cond b (record k { cookie = new.cookie } ∷ ks) (k ∷ with_kept ks new))
        ≡ cond b (new.cookie ∷ cookies_of ks) (k.cookie ∷ with_cookie (cookies_of ks) new.cookie)
    pick true h = refl
    pick false h = ap (λ l. k.cookie ∷ l) h

named_apart : (name party : List ℕ) (new : Numbered) (ls : Lists) → bytes_eq party name ≡ false
    → AllByRecursion (λ k. bytes_eq party k ≡ false) (keys_of ls)
    → AllByRecursion (λ k. bytes_eq party k ≡ false) (keys_of (put_under name ls new))
named_apart name party new [] e all = (e, tt)
named_apart name party new (l ∷ ls) e all = pick (bytes_eq name l.0) (named_apart name party new ls e all.1)
  where
    pick : (b : Bool) → AllByRecursion (λ k. bytes_eq party k ≡ false) (keys_of (put_under name ls new))
        → AllByRecursion (λ k. bytes_eq party k ≡ false) (keys_of (cond b ((l.0, put_numbered l.1 new) ∷ ls) (l ∷ put_under name ls new)))
    pick true h = all
    pick false h = (all.0, h)

named_put : (name : List ℕ) (new : Numbered) (ls : Lists) → IsDistinct bytes_eq (keys_of ls)
    → IsDistinct bytes_eq (keys_of (put_under name ls new))
unfolding IsDistinct
named_put name new [] d = (tt, tt)
named_put name new (l ∷ ls) d = pick (bytes_eq name l.0) refl (named_put name new ls d.1)
  where
    pick : (b : Bool) → bytes_eq name l.0 ≡ b → IsDistinct bytes_eq (keys_of (put_under name ls new))
        → IsDistinct bytes_eq (keys_of (cond b ((l.0, put_numbered l.1 new) ∷ ls) (l ∷ put_under name ls new)))
    pick true e h = d
    pick false e h = (named_apart name l.0 new ls (text_comm l.0 name ∙ e) d.0, h)

above_put : (a : ℕ) (new : Numbered) (ns : List Numbered) → a < new.number → AllByRecursion (λ (m : Numbered). a < m.number) ns
    → AllByRecursion (λ (m : Numbered). a < m.number) (put_numbered ns new)
above_put a new [] low all = (low, tt)
above_put a new (n ∷ ns) low all = pick (same_numbered new n) (above_put a new ns low all.1)
  where
    pick : (b : Bool) → AllByRecursion (λ (m : Numbered). a < m.number) (put_numbered ns new)
        → AllByRecursion (λ (m : Numbered). a < m.number) (cond b (record n { cookie = new.cookie } ∷ ns) (n ∷ put_numbered ns new))
    pick true h = all
    pick false h = (all.0, h)

rises_put : (new : Numbered) (ns : List Numbered) → AllByRecursion (λ (m : Numbered). m.number < new.number) ns → Rises ns
    → Rises (put_numbered ns new)
rises_put new [] all r = (tt, tt)
rises_put new (n ∷ ns) all r = pick (same_numbered new n) (rises_put new ns all.1 r.1)
  where
    pick : (b : Bool) → Rises (put_numbered ns new) → Rises (cond b (record n { cookie = new.cookie } ∷ ns) (n ∷ put_numbered ns new))
    pick true h = r
    pick false h = (above_put n.number new ns all.0 r.0, h)

all_first : (P : KeptCookie → Type 0) (xs ys : List KeptCookie) → AllByRecursion P (xs ++ ys) → AllByRecursion P xs
all_first P [] ys all = tt
all_first P (x ∷ xs) ys all = (all.0, all_first P xs ys all.1)

all_rest : (P : KeptCookie → Type 0) (xs ys : List KeptCookie) → AllByRecursion P (xs ++ ys) → AllByRecursion P ys
all_rest P [] ys all = all
all_rest P (x ∷ xs) ys all = all_rest P xs ys all.1

all_joined : (P : KeptCookie → Type 0) (xs ys : List KeptCookie) → AllByRecursion P xs → AllByRecursion P ys → AllByRecursion P (xs ++ ys)
all_joined P [] ys a b = b
all_joined P (x ∷ xs) ys a b = (a.0, all_joined P xs ys a.1 b)

numbers_below : (name : List ℕ) (e : ℕ) (ns : List Numbered) → AllByRecursion (λ (k : KeptCookie). k.number < e) (map (under name) ns)
    → AllByRecursion (λ (m : Numbered). m.number < e) ns
numbers_below name e [] all = tt
numbers_below name e (n ∷ ns) all = (all.0, numbers_below name e ns all.1)

lists_rise : (name : List ℕ) (new : Numbered) (ls : Lists) → AllByRecursion (λ (k : KeptCookie). k.number < new.number) (all_kept ls)
    → AllByRecursion (λ (l : List ℕ × List Numbered). Rises l.1) ls
    → AllByRecursion (λ (l : List ℕ × List Numbered). Rises l.1) (put_under name ls new)
lists_rise name new [] below all = ((tt, tt), tt)
lists_rise name new (l ∷ ls) below all =
    pick (bytes_eq name l.0) (lists_rise name new ls (all_rest _ (map (under l.0) l.1) (all_kept ls) below) all.1)
  where
    pick : (b : Bool) → AllByRecursion (λ (l : List ℕ × List Numbered). Rises l.1) (put_under name ls new)
        → AllByRecursion (λ (l : List ℕ × List Numbered). Rises l.1) (cond b ((l.0, put_numbered l.1 new) ∷ ls) (l ∷ put_under name ls new))
    pick true h =
        (rises_put new l.1 (numbers_below l.0 new.number l.1 (all_first _ (map (under l.0) l.1) (all_kept ls) below)) all.0, all.1)
    pick false h = (all.0, h)

next_below : (e : ℕ) (ks : List KeptCookie) → AllByRecursion (λ (k : KeptCookie). k.number < e) ks
    → AllByRecursion (λ (k : KeptCookie). k.number < e + 1) ks
next_below e [] all = tt
next_below e (k ∷ ks) all = (omega (arith, all.0), next_below e ks all.1)

below_replaced : (e : ℕ) (new : Numbered) (ls after : Lists) → AllByRecursion (λ (k : KeptCookie). k.number < e) (all_kept ls)
    → IsReplaced new ls after → AllByRecursion (λ (k : KeptCookie). k.number < e) (all_kept after)
unfolding renew
below_replaced e new ls after below r =
    let P : KeptCookie → Type 0 = λ k. k.number < e in
    let all = subst (AllByRecursion P) r.was below in
    let rest = all_rest P r.front (r.old ∷ r.back) all in
    subst (AllByRecursion P) (sym r.is) (all_joined P r.front (renew new.cookie r.old ∷ r.back) (all_first P r.front (r.old ∷ r.back) all)
    (rest.0, rest.1))

below_added : (name : List ℕ) (new : Numbered) (ls after : Lists) → AllByRecursion (λ (k : KeptCookie). k.number < new.number) (all_kept ls)
    → IsAdded name new ls after → AllByRecursion (λ (k : KeptCookie). k.number < new.number + 1) (all_kept after)
below_added name new ls after below r =
    let P : KeptCookie → Type 0 = λ k. k.number < new.number + 1 in
    let all = next_below new.number (r.front ++ r.back) (subst (AllByRecursion (λ (k : KeptCookie). k.number < new.number)) r.was below) in
    subst (AllByRecursion P) (sym r.is) (all_joined P r.front (under name new ∷ r.back) (all_first P r.front r.back all)
    (omega arith, all_rest P r.front r.back all))

below_put : (name : List ℕ) (new : Numbered) (ls : Lists) (b : Bool) → list_any (same_numbered new) (list_under name ls) ≡ b
    → AllByRecursion (λ (k : KeptCookie). k.number < new.number) (all_kept ls)
    → AllByRecursion (λ (k : KeptCookie). k.number < cond (not b) (new.number + 1) new.number) (all_kept (put_under name ls new))
below_put name new ls true e below = below_replaced new.number new ls (put_under name ls new) below (replaced_in name new ls e)
below_put name new ls false e below = below_added name new ls (put_under name ls new) below (added_in name new ls e)

pub AreLists-put : (name : List ℕ) (new : Numbered) (ls : Lists) (entered : ℕ) → AreLists ls new.number
    → has_key new.cookie (cookies_of (kept_of ls)) ≡ has_key new.cookie (cookies_of (kept_under name (kept_of ls)))
    → entered ≡ cond (not (list_any (same_numbered new) (list_under name ls))) (new.number + 1) new.number
    → AreLists (put_under name ls new) entered
AreLists-put name new ls entered are own next = record {
  named = named_put name new ls are.named;
  rises = lists_rise name new ls are.below are.rises;
  below =
      subst (λ e. AllByRecursion (λ (k : KeptCookie). k.number < e) (all_kept (put_under name ls new))) (sym next)
      (below_put name new ls (list_any (same_numbered new) (list_under name ls)) refl are.below);
  apart =
      subst AreDistinct
      (sym (ap cookies_of (kept_put name new ls are own) ∙ cookies-with_kept (kept_of ls) (under name new)))
      (distinct-with_cookie new.cookie (cookies_of (kept_of ls)) are.apart);
}

-- ---- what parties have to do with it

-- a cookie of the party has its key among what is kept under the party, or nowhere
pub key_in_part : (rules : RuleSet) (name : List ℕ) (cookie : StoredCookie) (ks : List KeptCookie) → AllByRecursion (IsOwn rules) ks
    → party rules cookie.domain ≡ name → has_key cookie (cookies_of ks) ≡ has_key cookie (cookies_of (kept_under name ks))
key_in_part rules name cookie [] own of = refl
key_in_part rules name cookie (k ∷ ks) own of =
    pick (is_under name k) (same_key cookie k.cookie) refl refl (key_in_part rules name cookie ks own.1 of)
  where
    pick : (u b : Bool) → is_under name k ≡ u → same_key cookie k.cookie ≡ b
        → has_key cookie (cookies_of ks) ≡ has_key cookie (cookies_of (kept_under name ks))
        → (same_key cookie k.cookie || has_key cookie (cookies_of ks))
        ≡ has_key cookie (cookies_of (cond u (k ∷ kept_under name ks) (kept_under name ks)))
    pick true b e f h = ap (λ t. same_key cookie k.cookie || t) h
    pick false false e f h = ap (λ t. t || has_key cookie (cookies_of ks)) f ∙ h
    pick false true e f h =
        let same : k.party ≡ name = own.0 ∙ ap (party rules) (sym (key_is cookie k.cookie f).domain) ∙ of in
        absurd (let r : true ≡ false = sym (text_same k.party name same) ∙ e in cc)

-- each cookie is kept under its party after a write of one of the party
pub IsOwn-with_kept : (rules : RuleSet) (ks : List KeptCookie) (new : KeptCookie) → AllByRecursion (IsOwn rules) ks → IsOwn rules new
    → AllByRecursion (IsOwn rules) (with_kept ks new)
IsOwn-with_kept rules [] new own of = (of, tt)
IsOwn-with_kept rules (k ∷ ks) new own of = pick (same_key new.cookie k.cookie) refl (IsOwn-with_kept rules ks new own.1 of)
  where
    pick : (b : Bool) → same_key new.cookie k.cookie ≡ b → AllByRecursion (IsOwn rules) (with_kept ks new)
        → AllByRecursion (IsOwn rules) (cond b (record k { cookie = new.cookie } ∷ ks) (k ∷ with_kept ks new))
    pick true e h = (own.0 ∙ ap (party rules) (sym (key_is new.cookie k.cookie e).domain), own.1)
    pick false e h = (own.0, h)

-- the cookies of the party are those that are kept under it
pub part_cookies : (rules : RuleSet) (name : List ℕ) (ks : List KeptCookie) → AllByRecursion (IsOwn rules) ks
    → filter (is_of_party rules name) (cookies_of ks) ≡ cookies_of (kept_under name ks)
part_cookies rules name [] own = refl
part_cookies rules name (k ∷ ks) own =
    ap (λ p. cond (bytes_eq p name) (k.cookie ∷ filter (is_of_party rules name) (cookies_of ks)) (filter (is_of_party rules
    name) (cookies_of ks)))
    (sym own.0)
    ∙ pick (is_under name k) (part_cookies rules name ks own.1)
  where
    pick : (b : Bool) → filter (is_of_party rules name) (cookies_of ks) ≡ cookies_of (kept_under name ks)
        → cond b (k.cookie ∷ filter (is_of_party rules name) (cookies_of ks)) (filter (is_of_party rules name) (cookies_of ks))
        ≡ cookies_of (cond b (k ∷ kept_under name ks) (kept_under name ks))
    pick true h = ap (λ l. k.cookie ∷ l) h
    pick false h = h

same_filter : (p : StoredCookie → Bool) (cs : List StoredCookie) → filter p (filter p cs) ≡ filter p cs
same_filter p cs = filter_within p p (λ c e. e) cs

-- the Cookie field is that of what is kept under the party of the URL's host
pub text_of_part : (rules : RuleSet) (url : Parts) (now : ℕ) (ks : List KeptCookie) → AllByRecursion (IsOwn rules) ks
    → jar_text rules url now (numbered_cookies (map numbered_of (kept_under (party rules (host_of url)) ks)))
    ≡ jar_text rules url now (cookies_of ks)
text_of_part rules url now ks own =
    let name = party rules (host_of url) in
    ap (jar_text rules url now) (cookies_numbered (kept_under name ks) ∙ sym (part_cookies rules name ks own))
    ∙ text_is_of_party rules url now (filter (is_of_party rules name) (cookies_of ks)) (cookies_of ks)
    (same_filter (is_of_party rules name) (cookies_of ks))

-- no lists are those of a jar without cookies
pub no_lists : AreLists [] 0
unfolding IsDistinct
no_lists = record { named = tt; rises = tt; below = tt; apart = tt }
