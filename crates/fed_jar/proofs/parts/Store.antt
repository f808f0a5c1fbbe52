-- A cookie that is stored under the limit: the lists of a jar after it.
use Rattle.std.proofs.Common.{◌≡◌, ℕ, ◌+◌, ◌<◌, Bool, true, false, cond, List, [], ◌∷◌, Option, Some, None, sym, refl, ap, subst, ◌∙◌, not}
use Rattle.std.proofs.Common.{◌≤◌, arith}
use Rattle.std.specs.Prelude.{bytes_eq, filter, option_map, IfSome, Result, Ok, Err, OnOk, OnErr}
use Rattle.url.specs.Parts.{Parts}
use Rattle.fed_origin.specs.WebUrl.{host_of}
use Rattle.fed_cookie.specs.SetCookie.{SetCookie}
use Rattle.fed_jar.specs.Store.{IsOwn, IsKeptBy, cookie_of, is_of_party}
use Rattle.fed_jar.proofs.parties.Parties.{written_party, of_other, part_is_of_changes}
use Rattle.std.specs.List.{list_any, AllByRecursion, IsDistinct}
use Rattle.std.specs.Map.{keys_of, lookup}
use Rattle.std.specs.Option.{option_map_or}
use Rattle.fed_suffix.specs.Rule.{RuleSet}
use Rattle.fed_suffix.specs.Registrable.{party}
use Rattle.fed_jar.specs.declared.numbered.Numbered.{Numbered}
use Rattle.fed_jar.specs.Changes.{CookieKey, key_of, is_key, changed_by}
use Rattle.fed_jar.specs.Cookie.{StoredCookie, KeptCookie, JarParts, AreDistinct, cookies_in, cookies_of, kept_under, with_kept, has_key, entered_after}
use Rattle.fed_jar.specs.Laws.{AreOfParty}
use Rattle.fed_jar.specs.Limit.{first_to_go, has_place, gone_with, changes_with, stored, kept_without, jar_after}
use Rattle.fed_jar.specs.Parts.{under, numbered_cookies, same_numbered, put_numbered, put_under, dropped, drop_under, store_under, Lists}
use Rattle.fed_jar.specs.Parts.{list_under, all_kept, kept_of, jar_of, Rises, AreLists, AreOwn}
use Rattle.fed_jar.proofs.changes.Changes.{distinct-without}
use Rattle.fed_jar.proofs.limit.Limit.{to_go_of, kept_gone, changes_own, jar_is_changed}
use Rattle.fed_jar.proofs.limit.Most.{none_of_party}
use Rattle.fed_jar.proofs.parts.Drop.{others_than, all_dropped, kept_dropped}
use Rattle.fed_jar.proofs.parts.Kept.{same_text, cookies_under, part_of_kept}
use Rattle.fed_jar.proofs.parts.Put.{kept_put, own_listed, IsOwn-with_kept}

-- ---- what stays so where a cookie goes

keys_dropped : (name : List ℕ) (ls : Lists) (o : Option CookieKey) → keys_of (drop_under name ls o) ≡ keys_of ls
keys_dropped name [] o = refl
keys_dropped name (l ∷ ls) o = pick (bytes_eq name l.0) (keys_dropped name ls o)
  where
    pick : (b : Bool) → keys_of (drop_under name ls o) ≡ keys_of ls
        → keys_of (cond b ((l.0, dropped o l.1) ∷ ls) (l ∷ drop_under name ls o)) ≡ l.0 ∷ keys_of ls
    pick true h = refl
    pick false h = ap (λ ks. l.0 ∷ ks) h

pub drop_none : (name : List ℕ) (ls : Lists) → drop_under name ls None ≡ ls
drop_none name [] = refl
drop_none name (l ∷ ls) = pick (bytes_eq name l.0) (drop_none name ls)
  where
    pick : (b : Bool) → drop_under name ls None ≡ ls → cond b ((l.0, l.1) ∷ ls) (l ∷ drop_under name ls None) ≡ l ∷ ls
    pick true h = refl
    pick false h = ap (λ xs. l ∷ xs) h

all_filtered : {X : Type 0} (P : X → Type 0) (p : X → Bool) (xs : List X) → AllByRecursion P xs → AllByRecursion P (filter p xs)
all_filtered P p [] all = tt
all_filtered {X} P p (x ∷ xs) all = pick (p x) (all_filtered P p xs all.1)
  where
    pick : (b : Bool) → AllByRecursion P (filter p xs) → AllByRecursion P (cond b (x ∷ filter p xs) (filter p xs))
    pick true rest = (all.0, rest)
    pick false rest = rest

rises_dropped : (key : CookieKey) (ns : List Numbered) → Rises ns → Rises (dropped (Some key) ns)
rises_dropped key [] r = tt
rises_dropped key (n ∷ ns) r = pick (is_key key n.cookie) (rises_dropped key ns r.1)
  where
    pick : (b : Bool) → Rises (dropped (Some key) ns) → Rises (cond (not b) (n ∷ dropped (Some key) ns) (dropped (Some key) ns))
    pick true rest = rest
    pick false rest = (all_filtered _ (λ (m : Numbered). not (is_key key m.cookie)) ns r.0, rest)

lists_rise : (name : List ℕ) (key : CookieKey) (ls : Lists) → AllByRecursion (λ (l : List ℕ × List Numbered). Rises l.1) ls
    → AllByRecursion (λ (l : List ℕ × List Numbered). Rises l.1) (drop_under name ls (Some key))
lists_rise name key [] all = tt
lists_rise name key (l ∷ ls) all = pick (bytes_eq name l.0) (lists_rise name key ls all.1)
  where
    pick : (b : Bool) → AllByRecursion (λ (l : List ℕ × List Numbered). Rises l.1) (drop_under name ls (Some key))
        → AllByRecursion (λ (l : List ℕ × List Numbered). Rises l.1)
        (cond b ((l.0, dropped (Some key) l.1) ∷ ls) (l ∷ drop_under name ls (Some key)))
    pick true rest = (rises_dropped key l.1 all.0, all.1)
    pick false rest = (all.0, rest)

-- the lists stay those of a jar
pub AreLists-drop : (rules : RuleSet) (key : CookieKey) (ls : Lists) (entered : ℕ) → AreLists ls entered → AreOwn rules ls
    → AreLists (drop_under (party rules key.domain) ls (Some key)) entered
AreLists-drop rules key ls entered are own = record {
  named = subst (IsDistinct bytes_eq) (sym (keys_dropped (party rules key.domain) ls (Some key))) are.named;
  rises = lists_rise (party rules key.domain) key ls are.rises;
  below =
      subst (AllByRecursion (λ (k : KeptCookie). k.number < entered)) (all_dropped rules key ls are.named own)
      (all_filtered (λ (k : KeptCookie). k.number < entered) (others_than key) (all_kept ls) are.below);
  apart =
      subst AreDistinct (sym (ap cookies_of (kept_dropped rules key ls are.named own) ∙ kept_gone (Some key) (kept_of ls)))
      (distinct-without key (cookies_of (kept_of ls)) are.apart);
}

-- ---- a cookie that is put stands under its party

own_numbered : (rules : RuleSet) (name : List ℕ) (new : Numbered) (ns : List Numbered) → name ≡ party rules new.cookie.domain
    → AllByRecursion (λ (n : Numbered). name ≡ party rules n.cookie.domain) ns
    → AllByRecursion (λ (n : Numbered). name ≡ party rules n.cookie.domain) (put_numbered ns new)
own_numbered rules name new [] of own = (of, tt)
own_numbered rules name new (n ∷ ns) of own = pick (same_numbered new n) (own_numbered rules name new ns of own.1)
  where
    pick : (b : Bool) → AllByRecursion (λ (n : Numbered). name ≡ party rules n.cookie.domain) (put_numbered ns new)
        → AllByRecursion (λ (n : Numbered). name ≡ party rules n.cookie.domain)
        (cond b (record n { cookie = new.cookie } ∷ ns) (n ∷ put_numbered ns new))
    pick true rest = (of, own.1)
    pick false rest = (own.0, rest)

pub AreOwn-put : (rules : RuleSet) (name : List ℕ) (new : Numbered) (ls : Lists) → party rules new.cookie.domain ≡ name
    → AreOwn rules ls → AreOwn rules (put_under name ls new)
AreOwn-put rules name new [] of own = ((sym of, tt), tt)
AreOwn-put rules name new (l ∷ ls) of own = pick (bytes_eq name l.0) refl (AreOwn-put rules name new ls of own.1)
  where
    pick : (b : Bool) → bytes_eq name l.0 ≡ b → AreOwn rules (put_under name ls new)
        → AreOwn rules (cond b ((l.0, put_numbered l.1 new) ∷ ls) (l ∷ put_under name ls new))
    pick true e rest = (own_numbered rules l.0 new l.1 (sym (same_text name l.0 e) ∙ sym of) own.0, own.1)
    pick false e rest = (own.0, rest)

-- ---- the one that goes

own_part : (rules : RuleSet) (name : List ℕ) (ls : Lists) → AreOwn rules ls
    → AreOfParty rules name (numbered_cookies (list_under name ls))
own_part rules name [] own = tt
own_part rules name (l ∷ ls) own = pick (bytes_eq name l.0) refl (own_part rules name ls own.1)
  where
    each : (ns : List Numbered) → name ≡ l.0 → AllByRecursion (λ (n : Numbered). l.0 ≡ party rules n.cookie.domain) ns
        → AreOfParty rules name (numbered_cookies ns)
    each [] e all = tt
    each (n ∷ ns) e all = (sym (e ∙ all.0), each ns e all.1)

    pick : (b : Bool) → bytes_eq name l.0 ≡ b → AreOfParty rules name (numbered_cookies (list_under name ls))
        → AreOfParty rules name (numbered_cookies (option_map_or (λ list. list) (cond b (Some l.1) (lookup (bytes_eq name) ls)) []))
    pick true e rest = each l.1 (same_text name l.0 e) own.0
    pick false e rest = rest

pub gone_party : (rules : RuleSet) (now : ℕ) (name : List ℕ) (own : List StoredCookie) (cookie : StoredCookie) (key : CookieKey)
    → AreOfParty rules name own → gone_with now own cookie ≡ Some key → party rules key.domain ≡ name
unfolding gone_with
gone_party rules now name own cookie key all e =
    go (has_place own cookie) (first_to_go now own) (to_go_of (λ c. party rules c.domain ≡ name) now own all) e
  where
    go : (b : Bool) (o : Option StoredCookie) → IfSome o (λ c. party rules c.domain ≡ name)
        → cond b None (option_map key_of o) ≡ Some key → party rules key.domain ≡ name
    go true o h e = absurd (cc)
    go false None h e = absurd (cc)
    go false (Some c) h e = let k : key_of c ≡ key = cc in subst (λ (x : CookieKey). party rules x.domain ≡ name) k h

next_after : (b has : Bool) (e : ℕ) → has ≡ b → cond (not b) (e + 1) e ≡ cond has e (e + 1)
next_after true has e is = ap (λ t. cond t e (e + 1)) (sym is)
next_after false has e is = ap (λ t. cond t e (e + 1)) (sym is)

-- the jar of the lists is the jar after the store
pub jar_stored : (rules : RuleSet) (now : ℕ) (name : List ℕ) (new : Numbered) (ls : Lists) (entered : ℕ) → AreLists ls new.number
    → AreOwn rules ls → party rules new.cookie.domain ≡ name
    → AreLists (put_under name ls new) entered
    → has_key new.cookie (cookies_of (kept_of ls)) ≡ has_key new.cookie (cookies_of (kept_under name (kept_of ls)))
    → entered ≡ cond (not (list_any (same_numbered new) (list_under name ls))) (new.number + 1) new.number
    → jar_of (store_under now name ls new) entered ≡ jar_after now name (jar_of ls new.number) (Some new.cookie)
jar_stored rules now name new ls entered are own of after own_key next =
    let mine : cookies_of (kept_under name (kept_of ls)) ≡ numbered_cookies (list_under name ls) =
    ap cookies_of (part_of_kept name ls new.number are) ∙ cookies_under name (list_under name ls) in
    let goes = gone_with now (numbered_cookies (list_under name ls)) new.cookie in
    let kept : kept_of (store_under now name ls new)
    ≡ kept_without (gone_with now (cookies_of (kept_under name (kept_of ls))) new.cookie) (with_kept (kept_of ls) (under name new)) =
    go goes refl ∙ ap (kept_without goes) (kept_put name new ls are own_key)
    ∙ ap (λ part. kept_without (gone_with now part new.cookie) (with_kept (kept_of ls) (under name new))) (sym mine) in
    let more : entered ≡ entered_after (jar_of ls new.number) new.cookie =
    next
    ∙ next_after (list_any (same_numbered new) (list_under name ls)) (has_key new.cookie (cookies_of (kept_of ls))) new.number
    (own_listed name new ls new.number are own_key) in
    λ i. record { kept = kept i; entered = more i }
  where
    go : (o : Option CookieKey) → gone_with now (numbered_cookies (list_under name ls)) new.cookie ≡ o
        → kept_of (drop_under name (put_under name ls new) o) ≡ kept_without o (kept_of (put_under name ls new))
    go None e = ap kept_of (drop_none name (put_under name ls new))
    go (Some key) e =
        let same = gone_party rules now name (numbered_cookies (list_under name ls)) new.cookie key (own_part rules name ls own) e in
        subst (λ n. kept_of (drop_under n (put_under name ls new) (Some key)) ≡ kept_without (Some key) (kept_of (put_under name ls new)))
        same
        (kept_dropped rules key (put_under name ls new) after.named (AreOwn-put rules name new ls of own))

-- the lists stay those of a jar
pub AreLists-store : (rules : RuleSet) (now : ℕ) (name : List ℕ) (new : Numbered) (ls : Lists) (entered : ℕ) → AreOwn rules ls
    → party rules new.cookie.domain ≡ name → AreLists (put_under name ls new) entered
    → AreLists (store_under now name ls new) entered
AreLists-store rules now name new ls entered own of after = go (gone_with now (numbered_cookies (list_under name ls)) new.cookie) refl
  where
    go : (o : Option CookieKey) → gone_with now (numbered_cookies (list_under name ls)) new.cookie ≡ o
        → AreLists (drop_under name (put_under name ls new) o) entered
    go None e = subst (λ lists. AreLists lists entered) (sym (drop_none name (put_under name ls new))) after
    go (Some key) e =
        subst (λ n. AreLists (drop_under n (put_under name ls new) (Some key)) entered)
        (gone_party rules now name (numbered_cookies (list_under name ls)) new.cookie key (own_part rules name ls own) e)
        (AreLists-drop rules key (put_under name ls new) entered after (AreOwn-put rules name new ls of own))

-- ---- the jar after it

without_stays : (P : KeptCookie → Type 0) (o : Option CookieKey) (ks : List KeptCookie) → AllByRecursion P ks
    → AllByRecursion P (kept_without o ks)
without_stays P None ks all = all
without_stays P (Some key) ks all = all_filtered P (λ (k : KeptCookie). not (is_key key k.cookie)) ks all

-- a jar of which each cookie is kept under its party stays one
IsKeptBy-jar_after : (rules : RuleSet) (now : ℕ) (name : List ℕ) (jar : JarParts) (cookie : Option StoredCookie) → IsKeptBy rules jar
    → ((c : StoredCookie) → cookie ≡ Some c → party rules c.domain ≡ name) → IsKeptBy rules (jar_after now name jar cookie)
IsKeptBy-jar_after rules now name jar None own of = own
IsKeptBy-jar_after rules now name jar (Some c) own of =
    without_stays (IsOwn rules) (gone_with now (cookies_of (kept_under name jar.kept)) c)
    (with_kept jar.kept (record { cookie = c; party = name; number = jar.entered }))
    (IsOwn-with_kept rules jar.kept (record { cookie = c; party = name; number = jar.entered }) own (sym (of c refl)))

pub stays_kept : {E : Type 0} (r : Result Bool E) (rules : RuleSet) (url : Parts) (now : ℕ) (raw : SetCookie) (old new : JarParts)
    → OnOk r (new ≡ jar_after now (party rules (host_of url)) old (cookie_of rules url now raw)) → OnErr r (new ≡ old) → IsKeptBy rules old
    → IsKeptBy rules new
stays_kept (Ok b) rules url now raw old new ok err own =
    subst (IsKeptBy rules) (sym ok)
    (IsKeptBy-jar_after rules now (party rules (host_of url)) old (cookie_of rules url now raw) own (written_party rules url now raw))
stays_kept (Err e) rules url now raw old new ok err own = subst (IsKeptBy rules) (sym err) own

-- the list after a field of a page is stored
pub page_stored : (rules : RuleSet) (url : Parts) (now : ℕ) (raw : SetCookie) (jar : JarParts) → IsKeptBy rules jar
    → cookies_in (jar_after now (party rules (host_of url)) jar (cookie_of rules url now raw))
    ≡ stored rules now (cookies_in jar) (cookie_of rules url now raw)
page_stored rules url now raw jar own = go (cookie_of rules url now raw) refl
  where
    go : (o : Option StoredCookie) → cookie_of rules url now raw ≡ o
        → cookies_in (jar_after now (party rules (host_of url)) jar o) ≡ stored rules now (cookies_in jar) o
    go None e = refl
    go (Some c) e =
        subst (λ name. cookies_in (jar_after now name jar (Some c)) ≡ stored rules now (cookies_in jar) (Some c))
        (written_party rules url now raw c e) (jar_is_changed rules now jar c own)

-- it leaves the cookies of the parties of other hosts
pub others_stored : (rules : RuleSet) (url : Parts) (now : ℕ) (raw : SetCookie) (name : List ℕ) (cookies : List StoredCookie)
    → (name ≡ party rules (host_of url) → ⊥)
    → filter (is_of_party rules name) (stored rules now cookies (cookie_of rules url now raw)) ≡ filter (is_of_party rules name) cookies
others_stored rules url now raw name cookies other = go (cookie_of rules url now raw) refl
  where
    go : (o : Option StoredCookie) → cookie_of rules url now raw ≡ o
        → filter (is_of_party rules name) (stored rules now cookies o) ≡ filter (is_of_party rules name) cookies
    go None e = refl
    go (Some c) e =
        let changes = changes_with rules now cookies c in
        part_is_of_changes rules name cookies changes
        ∙ ap (changed_by (filter (is_of_party rules name) cookies))
        (none_of_party rules name (party rules c.domain) changes
        (of_other rules name (host_of url) c (written_party rules url now raw c e) other)
        (changes_own rules now (party rules c.domain) cookies c refl))

at_most_next : (b : Bool) (n : ℕ) → cond b n (n + 1) ≤ n + 1
at_most_next true n = omega arith
at_most_next false n = omega arith

-- a cookie brings at most one new key
pub entered_next : (now : ℕ) (name : List ℕ) (jar : JarParts) (cookie : Option StoredCookie)
    → (jar_after now name jar cookie).entered ≤ jar.entered + 1
entered_next now name jar None = omega arith
entered_next now name jar (Some cookie) = at_most_next (has_key cookie (cookies_in jar)) jar.entered

-- the same of a call that may find no memory
pub entered_stored : {E : Type 0} (r : Result Bool E) (now : ℕ) (name : List ℕ) (old new : JarParts) (cookie : Option StoredCookie)
    → OnOk r (new ≡ jar_after now name old cookie) → OnErr r (new ≡ old) → new.entered ≤ old.entered + 1
entered_stored (Ok b) now name old new cookie ok err =
    subst (λ (j : JarParts). j.entered ≤ old.entered + 1) (sym ok) (entered_next now name old cookie)
entered_stored (Err e) now name old new cookie ok err =
    subst (λ (j : JarParts). j.entered ≤ old.entered + 1) (sym err) (omega arith)
