-- Entries of the jar's map as plain lists.
use Rattle.std.proofs.Common.{◌≡◌, ℕ, Bool, true, false, cond, ◌||◌, List, [], ◌∷◌, ◌++◌, Some, None, sym, refl, ap, ◌∙◌}
use Rattle.std.specs.Prelude.{bytes_eq, option_map, find}
use Rattle.std.specs.List.{list_any}
use Rattle.std.specs.Map.{lookup}
use Rattle.std.specs.Option.{option_map_or}
use Rattle.std.specs.Set.{swap_key}
use Rattle.indexmap.specs.IndexMap.{insert_entry}
use Rattle.indexmap.specs.IndexSet.{insert_key, replace_key}
use Rattle.fed_jar.specs.declared.numbered.Numbered.{Numbered}
use Rattle.fed_jar.specs.declared.party_cookies.PartyCookies.{PartyCookies}
use Rattle.fed_jar.specs.Parts.{cookies_held, same_numbered, put_numbered, lists_of, list_under, put_under}

-- ---- a list of cookies

-- a cookie of the list has the key where its number is found
pub any_found : (new : Numbered) (ns : List Numbered) (m : ℕ)
    → option_map (λ (n : Numbered). n.number) (find (same_numbered new) ns) ≡ Some m
    → list_any (same_numbered new) ns ≡ true
any_found new [] m e = absurd (cc)
any_found new (n ∷ ns) m e = pick (same_numbered new n) (any_found new ns m) e
  where
    pick : (b : Bool) → (option_map (λ (n : Numbered). n.number) (find (same_numbered new) ns) ≡ Some m
        → list_any (same_numbered new) ns ≡ true)
        → option_map (λ (n : Numbered). n.number) (cond b (Some n) (find (same_numbered new) ns)) ≡ Some m
        → (b || list_any (same_numbered new) ns) ≡ true
    pick true h e = refl
    pick false h e = h e

pub none_found : (new : Numbered) (ns : List Numbered) → option_map (λ (n : Numbered). n.number) (find (same_numbered new) ns) ≡ None
    → list_any (same_numbered new) ns ≡ false
none_found new [] e = refl
none_found new (n ∷ ns) e = pick (same_numbered new n) (none_found new ns) e
  where
    pick : (b : Bool) → (option_map (λ (n : Numbered). n.number) (find (same_numbered new) ns) ≡ None
        → list_any (same_numbered new) ns ≡ false)
        → option_map (λ (n : Numbered). n.number) (cond b (Some n) (find (same_numbered new) ns)) ≡ None
        → (b || list_any (same_numbered new) ns) ≡ false
    pick true h e = absurd (cc)
    pick false h e = h e

same_number : (a b : ℕ) → Some a ≡ Some b → b ≡ a
same_number a b e = cc

swapped : (new : Numbered) (ns : List Numbered) (m : ℕ) → option_map (λ (n : Numbered). n.number) (find (same_numbered new) ns) ≡ Some m
    → swap_key (same_numbered new) ns (record { cookie = new.cookie; number = m }) ≡ put_numbered ns new
swapped new [] m e = absurd (cc)
swapped new (n ∷ ns) m e = pick (same_numbered new n) (swapped new ns m) e
  where
    pick : (b : Bool)
        → (option_map (λ (n : Numbered). n.number) (find (same_numbered new) ns) ≡ Some m
        → swap_key (same_numbered new) ns (record { cookie = new.cookie; number = m }) ≡ put_numbered ns new)
        → option_map (λ (n : Numbered). n.number) (cond b (Some n) (find (same_numbered new) ns)) ≡ Some m
        → cond b (record { cookie = new.cookie; number = m } ∷ ns) (n
        ∷ swap_key (same_numbered new) ns (record { cookie = new.cookie; number = m }))
        ≡ cond b (record n { cookie = new.cookie } ∷ ns) (n ∷ put_numbered ns new)
    pick true h e =
        let same : m ≡ n.number = same_number n.number m e in
        λ i. record { cookie = new.cookie; number = same i } ∷ ns
    pick false h e = ap (λ l. n ∷ l) (h e)

-- a cookie that replaces another under that one's number
pub replaced : (new : Numbered) (ns : List Numbered) (m : ℕ)
    → option_map (λ (n : Numbered). n.number) (find (same_numbered new) ns) ≡ Some m
    → replace_key same_numbered ns (record { cookie = new.cookie; number = m }) ≡ put_numbered ns new
replaced new ns m e =
    ap (λ b. cond b (swap_key (same_numbered new) ns (record { cookie = new.cookie; number = m })) (ns
    ++ record { cookie = new.cookie; number = m } ∷ []))
    (any_found new ns m e)
    ∙ swapped new ns m e

-- a cookie of a new key goes last
pub put_last : (new : Numbered) (ns : List Numbered) → list_any (same_numbered new) ns ≡ false → put_numbered ns new ≡ ns ++ new ∷ []
put_last new [] e = refl
put_last new (n ∷ ns) e = pick (same_numbered new n) (put_last new ns) e
  where
    pick : (b : Bool) → (list_any (same_numbered new) ns ≡ false → put_numbered ns new ≡ ns ++ new ∷ [])
        → (b || list_any (same_numbered new) ns) ≡ false
        → cond b (record n { cookie = new.cookie } ∷ ns) (n ∷ put_numbered ns new) ≡ n ∷ (ns ++ new ∷ [])
    pick true h e = absurd (cc)
    pick false h e = ap (λ l. n ∷ l) (h e)

pub added : (new : Numbered) (ns : List Numbered) → option_map (λ (n : Numbered). n.number) (find (same_numbered new) ns) ≡ None
    → insert_key same_numbered ns new ≡ put_numbered ns new
added new ns e =
    ap (λ b. cond b ns (ns ++ new ∷ [])) (none_found new ns e) ∙ sym (put_last new ns (none_found new ns e))

-- ---- the entries

alike : {X : Type 0} (a b : X) → Some a ≡ Some b → a ≡ b
alike a b e = cc

-- a party that stands has its list
pub listed_some : {K : Type 0} (text : K → List ℕ) (name : List ℕ) (es : List (K × PartyCookies)) (s : PartyCookies)
    → lookup (λ k. bytes_eq name (text k)) es ≡ Some s → list_under name (lists_of text es) ≡ cookies_held s
listed_some text name [] s e = absurd (cc)
listed_some {K} text name (l ∷ es) s e = pick (bytes_eq name (text l.0)) (listed_some text name es s) e
  where
    pick : (b : Bool) → (lookup (λ k. bytes_eq name (text k)) es ≡ Some s → list_under name (lists_of text es) ≡ cookies_held s)
        → cond b (Some l.1) (lookup (λ k. bytes_eq name (text k)) es) ≡ Some s
        → option_map_or (λ list. list) (cond b (Some (cookies_held l.1)) (lookup (bytes_eq name) (lists_of text es))) [] ≡ cookies_held s
    pick true h e = ap cookies_held (alike l.1 s e)
    pick false h e = h e

-- a party that does not stand has none
pub listed_none : {K : Type 0} (text : K → List ℕ) (name : List ℕ) (es : List (K × PartyCookies))
    → lookup (λ k. bytes_eq name (text k)) es ≡ None → list_under name (lists_of text es) ≡ []
listed_none text name [] e = refl
listed_none {K} text name (l ∷ es) e = pick (bytes_eq name (text l.0)) (listed_none text name es) e
  where
    pick : (b : Bool) → (lookup (λ k. bytes_eq name (text k)) es ≡ None → list_under name (lists_of text es) ≡ [])
        → cond b (Some l.1) (lookup (λ k. bytes_eq name (text k)) es) ≡ None
        → option_map_or (λ list. list) (cond b (Some (cookies_held l.1)) (lookup (bytes_eq name) (lists_of text es))) [] ≡ []
    pick true h e = absurd (cc)
    pick false h e = h e

-- a party with its first cookie
pub put_first : {K : Type 0} (text : K → List ℕ) (name : List ℕ) (new : Numbered) (es : List (K × PartyCookies)) (k : K)
    (s : PartyCookies) → lookup (λ k. bytes_eq name (text k)) es ≡ None → text k ≡ name → cookies_held s ≡ new ∷ []
    → lists_of text (insert_entry (λ a b. bytes_eq (text a) (text b)) es k s) ≡ put_under name (lists_of text es) new
put_first text name new [] k s e named one = λ i. (named i, one i) ∷ []
put_first {K} text name new (l ∷ es) k s e named one =
    ap (λ b. lists_of text (cond b ((l.0, s) ∷ es) (l ∷ insert_entry (λ a b. bytes_eq (text a) (text b)) es k s)))
    (ap (λ n. bytes_eq n (text l.0)) named)
    ∙ pick (bytes_eq name (text l.0)) (λ f. put_first text name new es k s f named one) e
  where
    pick : (b : Bool)
        → (lookup (λ k. bytes_eq name (text k)) es ≡ None
        → lists_of text (insert_entry (λ a b. bytes_eq (text a) (text b)) es k s) ≡ put_under name (lists_of text es) new)
        → cond b (Some l.1) (lookup (λ k. bytes_eq name (text k)) es) ≡ None
        → lists_of text (cond b ((l.0, s) ∷ es) (l ∷ insert_entry (λ a b. bytes_eq (text a) (text b)) es k s))
        ≡ cond b ((text l.0, put_numbered (cookies_held l.1) new) ∷ lists_of text es) ((text l.0, cookies_held l.1) ∷ put_under name (lists_of text es) new)
    pick true h e = absurd (cc)
    pick false h e = ap (λ rest. (text l.0, cookies_held l.1) ∷ rest) (h e)
