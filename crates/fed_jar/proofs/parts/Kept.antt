-- The order of first storing, and what it keeps of each party's list.
use Rattle.std.proofs.Common.{◌≡◌, ℕ, ◌<◌, Bool, true, false, cond, ◌||◌, List, [], ◌∷◌, ◌++◌, map, Some, sym, refl, ap, ◌∙◌, subst, arith}
use Rattle.std.specs.Prelude.{bytes_eq, filter, nat_lt, nat_le}
use Rattle.std.specs.List.{list_any, AllByRecursion, IsDistinct}
use Rattle.std.specs.Map.{keys_of, lookup}
use Rattle.std.specs.Option.{option_map_or}
use Rattle.std.proofs.lemmas.Bool.Decides.{nat_tests}
use Rattle.std.proofs.lemmas.List.Elements.{filter-append}
use Rattle.std.proofs.lemmas.Slice.Eq.{bytes_eq-Decides}
use Rattle.fed_jar.specs.declared.numbered.Lent.{Lent}
use Rattle.fed_jar.specs.declared.numbered.Numbered.{Numbered}
use Rattle.fed_jar.specs.Cookie.{KeptCookie, cookies_of, is_under, kept_under, has_key}
use Rattle.fed_jar.specs.Parts.{numbered_cookies, under, numbered_of, Lists, list_under, all_kept, all_numbered, smallest_first, kept_of}
use Rattle.fed_jar.specs.Parts.{Rises, AreLists}
use Rattle.fed_jar.specs.Parts.{same_numbered, lent_cookies, lent_numbered}
use Rattle.fed_jar.proofs.order.Order.{Ordered, filter_yes, filter_no, filter_in_order, in_order-map}

pub same_text : (a b : List ℕ) → bytes_eq a b ≡ true → a ≡ b
same_text a b e = (bytes_eq-Decides a b).0 e

pub text_same : (a b : List ℕ) → a ≡ b → bytes_eq a b ≡ true
text_same a b e = (bytes_eq-Decides a b).1 e

pub text_comm : (a b : List ℕ) → bytes_eq a b ≡ bytes_eq b a
text_comm a b = go (bytes_eq a b) (bytes_eq b a) refl refl
  where
    go : (s t : Bool) → bytes_eq a b ≡ s → bytes_eq b a ≡ t → s ≡ t
    go true true e f = refl
    go false false e f = refl
    go true false e f = sym (text_same b a (sym (same_text a b e))) ∙ f
    go false true e f = sym e ∙ text_same a b (sym (same_text b a f))

-- ---- maps

pub map_joined : {X Y : Type 0} (f : X → Y) (xs ys : List X) → map f (xs ++ ys) ≡ map f xs ++ map f ys
map_joined f [] ys = refl
map_joined f (x ∷ xs) ys = ap (λ l. f x ∷ l) (map_joined f xs ys)

pub joined_none : {X : Type 0} (xs : List X) → xs ++ [] ≡ xs
joined_none [] = refl
joined_none (x ∷ xs) = ap (λ l. x ∷ l) (joined_none xs)

pub cookies_under : (name : List ℕ) (ns : List Numbered) → cookies_of (map (under name) ns) ≡ numbered_cookies ns
cookies_under name [] = refl
cookies_under name (n ∷ ns) = ap (λ l. n.cookie ∷ l) (cookies_under name ns)

pub numbered_under : (name : List ℕ) (ns : List Numbered) → map numbered_of (map (under name) ns) ≡ ns
numbered_under name [] = refl
numbered_under name (n ∷ ns) = ap (λ l. n ∷ l) (numbered_under name ns)

pub cookies_numbered : (ks : List KeptCookie) → numbered_cookies (map numbered_of ks) ≡ cookies_of ks
cookies_numbered [] = refl
cookies_numbered (k ∷ ks) = ap (λ l. k.cookie ∷ l) (cookies_numbered ks)

pub cookies_lent : (ls : List Lent) → lent_cookies ls ≡ numbered_cookies (lent_numbered ls)
cookies_lent [] = refl
cookies_lent (l ∷ ls) = ap (λ cs. l.one.now.cookie ∷ cs) (cookies_lent ls)

pub has_key-numbered : (new : Numbered) (ns : List Numbered) → has_key new.cookie (numbered_cookies ns) ≡ list_any (same_numbered new) ns
has_key-numbered new [] = refl
has_key-numbered new (n ∷ ns) = ap (λ b. same_numbered new n || b) (has_key-numbered new ns)

-- ---- the cookies under a party

all_under : (name party : List ℕ) (ns : List Numbered) → bytes_eq party name ≡ true
    → filter (is_under name) (map (under party) ns) ≡ map (under party) ns
all_under name party [] e = refl
all_under name party (n ∷ ns) e =
    filter_yes (is_under name) (under party n) (map (under party) ns) e ∙ ap (λ l. under party n ∷ l) (all_under name party ns e)

none_under : (name party : List ℕ) (ns : List Numbered) → bytes_eq party name ≡ false → filter (is_under name) (map (under party) ns) ≡ []
none_under name party [] e = refl
none_under name party (n ∷ ns) e = filter_no (is_under name) (under party n) (map (under party) ns) e ∙ none_under name party ns e

others_under : (name : List ℕ) (ls : Lists) → AllByRecursion (λ k. bytes_eq name k ≡ false) (keys_of ls)
    → filter (is_under name) (all_kept ls) ≡ []
others_under name [] all = refl
others_under name (l ∷ ls) all =
    filter-append (is_under name) (map (under l.0) l.1) (all_kept ls)
    ∙ ap (λ f. f ++ filter (is_under name) (all_kept ls)) (none_under name l.0 l.1 (text_comm l.0 name ∙ all.0))
    ∙ others_under name ls all.1

-- what is kept under the party is its list
pub part_of_all : (name : List ℕ) (ls : Lists) → IsDistinct bytes_eq (keys_of ls)
    → filter (is_under name) (all_kept ls) ≡ map (under name) (list_under name ls)
unfolding IsDistinct
part_of_all name [] named = refl
part_of_all name (l ∷ ls) named =
    filter-append (is_under name) (map (under l.0) l.1) (all_kept ls) ∙ pick (bytes_eq name l.0) refl (part_of_all name ls named.1)
  where
    pick : (b : Bool) → bytes_eq name l.0 ≡ b → filter (is_under name) (all_kept ls) ≡ map (under name) (list_under name ls)
        → filter (is_under name) (map (under l.0) l.1) ++ filter (is_under name) (all_kept ls)
        ≡ map (under name) (option_map_or (λ list. list) (cond b (Some l.1) (lookup (bytes_eq name) ls)) [])
    pick true e h =
        let same : name ≡ l.0 = same_text name l.0 e in
        ap (λ f. f ++ filter (is_under name) (all_kept ls)) (all_under name l.0 l.1 (text_comm l.0 name ∙ e))
        ∙ ap (λ f. map (under l.0) l.1 ++ f) (others_under name ls (away ls (sym same) named.0))
        ∙ joined_none (map (under l.0) l.1)
        ∙ ap (λ n. map (under n) l.1) (sym same)
      where
        away : (ls : Lists) → l.0 ≡ name → AllByRecursion (λ k. bytes_eq l.0 k ≡ false) (keys_of ls)
            → AllByRecursion (λ k. bytes_eq name k ≡ false) (keys_of ls)
        away ls same all = subst (λ n. AllByRecursion (λ k. bytes_eq n k ≡ false) (keys_of ls)) same all
    pick false e h =
        ap (λ f. f ++ filter (is_under name) (all_kept ls)) (none_under name l.0 l.1 (text_comm l.0 name ∙ e)) ∙ h

-- ---- the order of first storing

not_below : (a b : ℕ) → a < b → nat_lt b a ≡ false
not_below a b e = grind (arith, nat_tests)

above_all : (name : List ℕ) (n : ℕ) (ns : List Numbered) → AllByRecursion (λ m. n < m.number) ns
    → AllByRecursion (λ (k : KeptCookie). nat_lt k.number n ≡ false) (map (under name) ns)
above_all name n [] all = tt
above_all name n (m ∷ ns) all = (not_below n m.number all.0, above_all name n ns all.1)

rises_ordered : (name : List ℕ) (ns : List Numbered) → Rises ns → Ordered false (λ (k : KeptCookie). k.number) (map (under name) ns)
rises_ordered name [] r = tt
rises_ordered name (n ∷ ns) r = (above_all name n.number ns r.0, rises_ordered name ns r.1)

list_rises : (name : List ℕ) (ls : Lists) → AllByRecursion (λ (l : List ℕ × List Numbered). Rises l.1) ls → Rises (list_under name ls)
list_rises name [] all = tt
list_rises name (l ∷ ls) all = pick (bytes_eq name l.0) (list_rises name ls all.1)
  where
    pick : (b : Bool) → Rises (list_under name ls)
        → Rises (option_map_or (λ list. list) (cond b (Some l.1) (lookup (bytes_eq name) ls)) [])
    pick true rest = all.0
    pick false rest = rest

-- of the jar's list those that are kept under the party are its list
pub part_of_kept : (name : List ℕ) (ls : Lists) (entered : ℕ) → AreLists ls entered
    → kept_under name (kept_of ls) ≡ map (under name) (list_under name ls)
part_of_kept name ls entered are =
    let part = part_of_all name ls are.named in
    filter_in_order false (λ (k : KeptCookie). k.number) (is_under name) (all_kept ls)
    (subst (Ordered false (λ (k : KeptCookie). k.number)) (sym part)
    (rises_ordered name (list_under name ls) (list_rises name ls are.rises)))
    ∙ part

-- what `of_party` gives
pub listed_of_kept : (name : List ℕ) (ls : Lists) (entered : ℕ) → AreLists ls entered
    → list_under name ls ≡ map numbered_of (kept_under name (kept_of ls))
listed_of_kept name ls entered are =
    sym (numbered_under name (list_under name ls)) ∙ ap (map numbered_of) (sym (part_of_kept name ls entered are))

all_numbers : (ls : Lists) → map numbered_of (all_kept ls) ≡ all_numbered ls
all_numbers [] = refl
all_numbers (l ∷ ls) =
    map_joined numbered_of (map (under l.0) l.1) (all_kept ls)
    ∙ (λ i. numbered_under l.0 l.1 i ++ all_numbers ls i)

-- what `list` gives
pub cookies_by_number : (ls : Lists) → numbered_cookies (smallest_first (λ (n : Numbered). n.number) (all_numbered ls))
    ≡ cookies_of (kept_of ls)
cookies_by_number ls =
    ap (λ all. numbered_cookies (smallest_first (λ (n : Numbered). n.number) all)) (sym (all_numbers ls))
    ∙ ap numbered_cookies (sym (in_order-map numbered_of (λ (a b : Numbered). nat_le a.number b.number) (all_kept ls)))
    ∙ cookies_numbered (kept_of ls)
