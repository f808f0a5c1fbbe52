-- Places of parties among the lists.
use Rattle.std.proofs.Common.{◌≡◌, ℕ, zero, suc, Bool, true, false, cond, List, [], ◌∷◌, ◌++◌, map, Option, Some, None, unwrap_or}
use Rattle.std.proofs.Common.{sym, refl, ap, ◌∙◌}
use Rattle.std.specs.Prelude.{bytes_eq, option_map, is_some, slice_get}
use Rattle.std.specs.List.{AllByRecursion, IsDistinct}
use Rattle.std.specs.Map.{keys_of, lookup, lookup_key}
use Rattle.std.specs.Option.{option_map_or}
use Rattle.indexmap.specs.IndexMap.{IndexMap, with_entries, with_value_at}
use Rattle.fed_suffix.specs.Rule.{RuleSet}
use Rattle.fed_suffix.specs.Registrable.{registrable, party}
use Rattle.fed_jar.specs.declared.numbered.Numbered.{Numbered}
use Rattle.fed_jar.specs.declared.party_cookies.PartyCookies.{PartyCookies}
use Rattle.fed_jar.specs.Changes.{CookieKey}
use Rattle.fed_jar.specs.Cookie.{KeptCookie}
use Rattle.fed_jar.specs.Limit.{gone_with}
use Rattle.fed_jar.specs.Store.{IsOwn, IsKeptBy}
use Rattle.fed_jar.specs.Send.{put_by, in_order}
use Rattle.fed_jar.specs.Parts.{cookies_held, under, put_numbered, Lists, lists_of, list_under, put_under, all_kept, jar_of, IsPlace, AreOwn}
use Rattle.fed_jar.specs.Parts.{numbered_cookies, dropped, drop_under, put_limited, store_under}
use Rattle.fed_jar.proofs.parts.Kept.{same_text, text_same, text_comm}

-- ---- the registrable domain by the party

pub site_by : (rules : RuleSet) (host name : List ℕ) → name ≡ party rules host → bytes_eq name host ≡ false
    → Some name ≡ registrable rules host
unfolding party
site_by rules host name e away = go (registrable rules host) refl
  where
    go : (o : Option (List ℕ)) → registrable rules host ≡ o → Some name ≡ registrable rules host
    go None is = absurd (let t : true ≡ false = sym (text_same name host (e ∙ ap (λ o. unwrap_or o host) is)) ∙ away in cc)
    go (Some domain) is = ap Some (e ∙ ap (λ o. unwrap_or o host) is) ∙ sym is

-- ---- places

alike : {X : Type 0} (a b : X) → Some a ≡ Some b → a ≡ b
alike a b e = cc

-- a key that is found passes the test
found_passes : {K V : Type 0} (test : K → Bool) (es : List (K × V)) (k : K) → lookup_key test es ≡ Some k → test k ≡ true
found_passes test [] k e = absurd (cc)
found_passes {K} {V} test (l ∷ es) k e = pick (test l.0) refl (found_passes test es k) e
  where
    pick : (b : Bool) → test l.0 ≡ b → (lookup_key test es ≡ Some k → test k ≡ true) → cond b (Some l.0) (lookup_key test es) ≡ Some k
        → test k ≡ true
    pick true is h e = ap test (sym (alike l.0 k e)) ∙ is
    pick false is h e = h e

-- the list at a place
pub list_at : {K : Type 0} (text : K → List ℕ) (es : List (K × PartyCookies)) (at : ℕ) (k : K) (s : PartyCookies)
    → slice_get es at ≡ Some (k, s) → slice_get (lists_of text es) at ≡ Some (text k, cookies_held s)
list_at text [] at k s e = absurd (cc)
list_at {K} text (l ∷ es) zero k s e =
    ap (λ (r : K × PartyCookies). Some (text r.0, cookies_held r.1)) (alike l (k, s) e)
list_at text (l ∷ es) (suc at) k s e = list_at text es at k s e

pub place_some : {K : Type 0} (text : K → List ℕ) (name : List ℕ) (es : List (K × PartyCookies)) (at : ℕ) (k : K)
    (s : PartyCookies) → slice_get es at ≡ Some (k, s) → lookup_key (λ k. bytes_eq name (text k)) es ≡ Some k
    → IsPlace name (Some at) (lists_of text es)
place_some text name es at k s e found =
    ap (option_map (λ (l : List ℕ × List Numbered). l.0)) (list_at text es at k s e)
    ∙ ap Some (sym (same_text name (text k) (found_passes (λ k. bytes_eq name (text k)) es k found)))

pub place_none : {K : Type 0} (text : K → List ℕ) (name : List ℕ) (es : List (K × PartyCookies))
    → lookup (λ k. bytes_eq name (text k)) es ≡ None → IsPlace name None (lists_of text es)
place_none text name [] e = refl
place_none {K} text name (l ∷ es) e = pick (bytes_eq name (text l.0)) (place_none text name es) e
  where
    pick : (b : Bool) → (lookup (λ k. bytes_eq name (text k)) es ≡ None → IsPlace name None (lists_of text es))
        → cond b (Some l.1) (lookup (λ k. bytes_eq name (text k)) es) ≡ None
        → is_some (cond b (Some (cookies_held l.1)) (lookup (bytes_eq name) (lists_of text es))) ≡ false
    pick true h e = absurd (cc)
    pick false h e = h e

pub none_placed : {K : Type 0} (text : K → List ℕ) (name : List ℕ) (es : List (K × PartyCookies))
    → IsPlace name None (lists_of text es) → lookup (λ k. bytes_eq name (text k)) es ≡ None
none_placed text name [] e = refl
none_placed {K} text name (l ∷ es) e = pick (bytes_eq name (text l.0)) (none_placed text name es) e
  where
    pick : (b : Bool) → (IsPlace name None (lists_of text es) → lookup (λ k. bytes_eq name (text k)) es ≡ None)
        → is_some (cond b (Some (cookies_held l.1)) (lookup (bytes_eq name) (lists_of text es))) ≡ false
        → cond b (Some l.1) (lookup (λ k. bytes_eq name (text k)) es) ≡ None
    pick true h e = absurd (cc)
    pick false h e = h e

-- ---- what stands at a place

-- the party at the place is that of each cookie there
one_own : (rules : RuleSet) (name : List ℕ) (ns : List Numbered) (at : ℕ) (n : Numbered)
    → AllByRecursion (λ (m : Numbered). name ≡ party rules m.cookie.domain) ns → slice_get ns at ≡ Some n
    → name ≡ party rules n.cookie.domain
one_own rules name [] at n all e = absurd (cc)
one_own rules name (m ∷ ns) zero n all e = all.0 ∙ ap (λ (x : Numbered). party rules x.cookie.domain) (alike m n e)
one_own rules name (m ∷ ns) (suc at) n all e = one_own rules name ns at n all.1 e

pub own_at : {K : Type 0} (text : K → List ℕ) (rules : RuleSet) (es : List (K × PartyCookies)) (at place : ℕ) (k : K)
    (s : PartyCookies) (n : Numbered) → AreOwn rules (lists_of text es) → slice_get es at ≡ Some (k, s)
    → slice_get (cookies_held s) place ≡ Some n → text k ≡ party rules n.cookie.domain
own_at text rules [] at place k s n own e f = absurd (cc)
own_at {K} text rules (l ∷ es) zero place k s n own e f =
    let same = alike l (k, s) e in
    ap (λ (r : K × PartyCookies). text r.0) (sym same)
    ∙ one_own rules (text l.0) (cookies_held l.1) place n own.0 (ap (λ (r : K × PartyCookies). slice_get (cookies_held r.1) place) same ∙ f)
own_at text rules (l ∷ es) (suc at) place k s n own e f = own_at text rules es at place k s n own.1 e f

-- the name at a later place is none before it
away : (first name : List ℕ) (ls : Lists) (at : ℕ) → AllByRecursion (λ k. bytes_eq first k ≡ false) (keys_of ls)
    → IsPlace name (Some at) ls → bytes_eq name first ≡ false
away first name [] at all e = absurd (cc)
away first name (l ∷ ls) zero all e = text_comm name first ∙ ap (bytes_eq first) (sym (alike l.0 name e)) ∙ all.0
away first name (l ∷ ls) (suc at) all e = away first name ls at all.1 e

-- a cookie more in the list at the place, and one less
pub changed_at : {K S : Type 0} (text : K → List ℕ) (name : List ℕ) (new : Numbered) (gone : Option CookieKey)
    (m : IndexMap K PartyCookies S) (es : List (K × PartyCookies)) (at : ℕ) (s t : PartyCookies)
    → IsDistinct bytes_eq (keys_of (lists_of text es))
    → IsPlace name (Some at) (lists_of text es) → slice_get (map (λ (e : K × PartyCookies). e.1) es) at ≡ Some s
    → cookies_held t ≡ dropped gone (put_numbered (cookies_held s) new)
    → lists_of text (with_value_at (with_entries m es) at t).entries ≡ drop_under name (put_under name (lists_of text es) new) gone
unfolding IsDistinct
changed_at text name new gone m [] at s t named e f keys = absurd (cc)
changed_at {K} {S} text name new gone m (l ∷ es) zero s t named e f keys =
    let here : true ≡ bytes_eq name (text l.0) = sym (text_same name (text l.0) (sym (alike (text l.0) name e))) in
    let put = put_numbered (cookies_held l.1) new in
    ap (λ (k : List Numbered). (text l.0, k) ∷ lists_of text es)
    (keys ∙ ap (λ (u : PartyCookies). dropped gone (put_numbered (cookies_held u) new)) (sym (alike l.1 s f)))
    ∙ ap (λ b. cond b ((text l.0, dropped gone put) ∷ lists_of text es) ((text l.0, put) ∷ drop_under name (lists_of text es) gone)) here
    ∙ ap (λ b. drop_under name (cond b ((text l.0, put) ∷ lists_of text es)
    ((text l.0, cookies_held l.1) ∷ put_under name (lists_of text es) new)) gone) here
changed_at text name new gone m (l ∷ es) (suc at) s t named e f keys =
    let out : false ≡ bytes_eq name (text l.0) = sym (away (text l.0) name (lists_of text es) at named.0 e) in
    let rest = put_under name (lists_of text es) new in
    ap (λ rest. (text l.0, cookies_held l.1) ∷ rest) (changed_at text name new gone m es at s t named.1 e f keys)
    ∙ ap (λ b. cond b ((text l.0, dropped gone (cookies_held l.1)) ∷ rest) ((text l.0, cookies_held l.1) ∷ drop_under name rest gone)) out
    ∙ ap (λ b. drop_under name (cond b ((text l.0, put_numbered (cookies_held l.1) new) ∷ lists_of text es)
    ((text l.0, cookies_held l.1) ∷ rest)) gone) out

-- the lists stay where the one at the place does
pub put_same : {K S : Type 0} (text : K → List ℕ) (m : IndexMap K PartyCookies S) (es : List (K × PartyCookies)) (at : ℕ)
    (s t : PartyCookies) → slice_get (map (λ (e : K × PartyCookies). e.1) es) at ≡ Some s → cookies_held t ≡ cookies_held s
    → lists_of text (with_value_at (with_entries m es) at t).entries ≡ lists_of text es
put_same text m [] at s t f keys = absurd (cc)
put_same {K} {S} text m (l ∷ es) zero s t f keys =
    ap (λ (k : List Numbered). (text l.0, k) ∷ lists_of text es)
    (keys ∙ ap cookies_held (sym (alike l.1 s f)))
put_same text m (l ∷ es) (suc at) s t f keys = ap (λ rest. (text l.0, cookies_held l.1) ∷ rest) (put_same text m es at s t f keys)

-- the list of a party that stands at the place, by the set there
pub set_at : {K : Type 0} (text : K → List ℕ) (name : List ℕ) (es : List (K × PartyCookies)) (at : ℕ)
    (s : PartyCookies) → IsDistinct bytes_eq (keys_of (lists_of text es))
    → IsPlace name (Some at) (lists_of text es) → slice_get (map (λ (e : K × PartyCookies). e.1) es) at ≡ Some s
    → list_under name (lists_of text es) ≡ cookies_held s
unfolding IsDistinct
set_at text name [] at s named e f = absurd (cc)
set_at {K} text name (l ∷ es) zero s named e f =
    ap (λ b. option_map_or (λ list. list) (cond b (Some (cookies_held l.1)) (lookup (bytes_eq name) (lists_of text es))) [])
    (text_same name (text l.0) (sym (alike (text l.0) name e)))
    ∙ ap cookies_held (alike l.1 s f)
set_at text name (l ∷ es) (suc at) s named e f =
    ap (λ b. option_map_or (λ list. list) (cond b (Some (cookies_held l.1)) (lookup (bytes_eq name) (lists_of text es))) [])
    (away (text l.0) name (lists_of text es) at named.0 e)
    ∙ set_at text name es at s named.1 e f

-- a cookie is stored in the list at the place
pub stored_at : {K S : Type 0} (text : K → List ℕ) (now : ℕ) (name : List ℕ) (new : Numbered) (m : IndexMap K PartyCookies S)
    (es : List (K × PartyCookies)) (at : ℕ) (s t : PartyCookies) → IsDistinct bytes_eq (keys_of (lists_of text es))
    → IsPlace name (Some at) (lists_of text es) → slice_get (map (λ (e : K × PartyCookies). e.1) es) at ≡ Some s
    → cookies_held t ≡ put_limited now (cookies_held s) new
    → lists_of text (with_value_at (with_entries m es) at t).entries ≡ store_under now name (lists_of text es) new
stored_at text now name new m es at s t named e f keys =
    changed_at text name new (gone_with now (numbered_cookies (cookies_held s)) new.cookie) m es at s t named e f keys
    ∙ ap (λ list. drop_under name (put_under name (lists_of text es) new) (gone_with now (numbered_cookies list) new.cookie))
    (sym (set_at text name es at s named e f))

-- ---- cookies in the lists of their parties

all_put : {X : Type 0} (P : X → Type 0) (goes : X → X → Bool) (x : X) (ys : List X) → AllByRecursion P (put_by goes x ys)
    → P x × AllByRecursion P ys
all_put P goes x [] all = all
all_put {X} P goes x (y ∷ ys) all = pick (goes x y) (all_put P goes x ys) all
  where
    pick : (b : Bool) → (AllByRecursion P (put_by goes x ys) → P x × AllByRecursion P ys)
        → AllByRecursion P (cond b (x ∷ y ∷ ys) (y ∷ put_by goes x ys)) → P x × AllByRecursion P (y ∷ ys)
    pick true h all = all
    pick false h all = let both = h all.1 in (both.0, (all.0, both.1))

-- what is so of all in order is so of all as they stand
all_ordered : {X : Type 0} (P : X → Type 0) (goes : X → X → Bool) (xs : List X) → AllByRecursion P (in_order goes xs) → AllByRecursion P xs
all_ordered P goes [] all = tt
all_ordered P goes (x ∷ xs) all =
    let both = all_put P goes x (in_order goes xs) all in
    (both.0, all_ordered P goes xs both.1)

own_list : (rules : RuleSet) (name : List ℕ) (ns : List Numbered) (rest : List KeptCookie)
    → AllByRecursion (IsOwn rules) (map (under name) ns ++ rest)
    → AllByRecursion (λ (n : Numbered). name ≡ party rules n.cookie.domain) ns × AllByRecursion (IsOwn rules) rest
own_list rules name [] rest all = (tt, all)
own_list rules name (n ∷ ns) rest all = let both = own_list rules name ns rest all.1 in ((all.0, both.0), both.1)

own_all : (rules : RuleSet) (ls : Lists) → AllByRecursion (IsOwn rules) (all_kept ls) → AreOwn rules ls
own_all rules [] all = tt
own_all rules (l ∷ ls) all = let both = own_list rules l.0 l.1 (all_kept ls) all in (both.0, own_all rules ls both.1)

-- where each cookie of the jar is kept under its party, each stands in the list of its party
pub own_lists : (rules : RuleSet) (ls : Lists) (entered : ℕ) → IsKeptBy rules (jar_of ls entered) → AreOwn rules ls
own_lists rules ls entered own = own_all rules ls (all_ordered (IsOwn rules) _ (all_kept ls) own)
