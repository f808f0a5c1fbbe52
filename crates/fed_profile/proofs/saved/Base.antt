-- What the effects that bring back a state leave.
use Rattle.std.proofs.Common.{◌≡◌, ℕ, Bool, true, false, cond, List, [], ◌∷◌, ◌++◌, map, Option, Some, None, refl, sym, ap}
use Rattle.std.proofs.Common.{ap₂, ◌∙◌}
use Rattle.std.proofs.lemmas.List.{append-nil}
use Rattle.std.specs.Prelude.{⊤}
use Rattle.std.specs.Map.{keys_of}
use Rattle.std.specs.List.{AllByRecursion, IsDistinct}
use Rattle.indexmap.specs.IndexMap.{insert_entry, shift_remove_entry}
use Rattle.fed_jar.specs.Changes.{CookieChange, Stored, Gone, changed as cookies_changed, changed_by}
use Rattle.fed_jar.specs.Cookie.{StoredCookie, same_key, AreDistinct, with_cookie}
use Rattle.fed_jar.proofs.keys.Keys.{key_comm}
use Rattle.fed_jar.proofs.changes.Changes.{distinct-with_cookie, distinct-without}
use Rattle.fed_trace.specs.Effect.{Effect}
use Rattle.fed_trace.specs.Keyed.{Change, changed, entries_after}
use Rattle.fed_trace.specs.Trace.{Row, standing}
use Rattle.fed_trace.proofs.keyed.Keyed.{entries_after-append}
use Rattle.fed_trace.proofs.effects.Silent.{AllSilent, entries_silent}
use Rattle.fed_profile.proofs.saved.Jar.{SameJar, SameUntil}

-- ---- entries under keys that are apart

-- what is apart is so the other way round
flip : {K : Type 0} (same : K → K → Bool) → ((a b : K) → same a b ≡ true → a ≡ b) → ((a : K) → same a a ≡ true) → (a b : K)
    → same a b ≡ false → same b a ≡ false
flip same is self a b ne = go (same b a) refl
  where
    go : (t : Bool) → same b a ≡ t → same b a ≡ false
    go false e = e
    go true e = absurd (let no : true ≡ false = sym (self a) ∙ ap (same a) (sym (is b a e)) ∙ ne in cc)

module _ {K V : Type 0} (same : K → K → Bool) (is : (a b : K) → same a b ≡ true → a ≡ b) (self : (a : K) → same a a ≡ true) where
  abbrev Absent : K → List (K × V) → Type 0
  Absent k es = AllByRecursion (λ e. same k e.0 ≡ false) es

  abbrev Distinct : List (K × V) → Type 0
  Distinct [] = ⊤
  Distinct (e ∷ es) = Absent e.0 es × Distinct es

  absent_insert : (q k : K) (v : V) (es : List (K × V)) → same q k ≡ false → Absent q es → Absent q (insert_entry same es k v)
  absent_insert q k v [] ne h = (ne, tt)
  absent_insert q k v (e ∷ es) ne h = go (same k e.0) (absent_insert q k v es ne h.1)
    where
      go : (t : Bool) → Absent q (insert_entry same es k v) → Absent q (cond t ((e.0, v) ∷ es) (e ∷ insert_entry same es k v))
      go true rest = (h.0, h.1)
      go false rest = (h.0, rest)

  distinct_insert : (k : K) (v : V) (es : List (K × V)) → Distinct es → Distinct (insert_entry same es k v)
  distinct_insert k v [] h = (tt, tt)
  distinct_insert k v (e ∷ es) h = go (same k e.0) refl (distinct_insert k v es h.1)
    where
      go : (t : Bool) → same k e.0 ≡ t → Distinct (insert_entry same es k v)
          → Distinct (cond t ((e.0, v) ∷ es) (e ∷ insert_entry same es k v))
      go true at rest = (h.0, h.1)
      go false at rest = (absent_insert e.0 k v es (flip same is self k e.0 at) h.0, rest)

  absent_remove : (q k : K) (es : List (K × V)) → Absent q es → Absent q (shift_remove_entry (same k) es)
  absent_remove q k [] h = tt
  absent_remove q k (e ∷ es) h = go (same k e.0) (absent_remove q k es h.1)
    where
      go : (t : Bool) → Absent q (shift_remove_entry (same k) es) → Absent q (cond t es (e ∷ shift_remove_entry (same k) es))
      go true rest = h.1
      go false rest = (h.0, rest)

  distinct_remove : (k : K) (es : List (K × V)) → Distinct es → Distinct (shift_remove_entry (same k) es)
  distinct_remove k [] h = tt
  distinct_remove k (e ∷ es) h = go (same k e.0) (distinct_remove k es h.1)
    where
      go : (t : Bool) → Distinct (shift_remove_entry (same k) es) → Distinct (cond t es (e ∷ shift_remove_entry (same k) es))
      go true rest = h.1
      go false rest = (absent_remove e.0 k es h.0, rest)

  distinct_changed : (c : Option (Change K V)) (es : List (K × V)) → Distinct es → Distinct (changed same c es)
  distinct_changed None es h = h
  distinct_changed (Some (k, Some v)) es h = distinct_insert k v es h
  distinct_changed (Some (k, None)) es h = distinct_remove k es h

  distinct_after : (change : Effect → Option (Change K V)) (effects : List Effect) (es : List (K × V)) → Distinct es
      → Distinct (entries_after same change effects es)
  distinct_after change [] es h = h
  distinct_after change (e ∷ effects) es h = distinct_after change effects (changed same (change e) es) (distinct_changed (change e) es h)

  pub distinct_standing : (change : Effect → Option (Change K V)) (rows : List Row) → Distinct (standing same change rows)
  distinct_standing change [] = tt
  distinct_standing change (row ∷ rows) = distinct_after change row.effects (standing same change rows) (distinct_standing change rows)

  -- a new key goes last
  insert_last : (k : K) (v : V) (es : List (K × V)) → Absent k es → insert_entry same es k v ≡ es ++ (k, v) ∷ []
  insert_last k v [] h = refl
  insert_last k v (e ∷ es) h =
      ap (λ t. cond t ((e.0, v) ∷ es) (e ∷ insert_entry same es k v)) h.0 ∙ ap (λ l. e ∷ l) (insert_last k v es h.1)

  abbrev Apart : List (K × V) → List (K × V) → Type 0
  Apart base es = AllByRecursion (λ e. Absent e.0 base) es

  absent_append : (k : K) (xs ys : List (K × V)) → Absent k xs → Absent k ys → Absent k (xs ++ ys)
  absent_append k [] ys h g = g
  absent_append k (x ∷ xs) ys h g = (h.0, absent_append k xs ys h.1 g)

  apart_more : (base : List (K × V)) (k : K) (v : V) (es : List (K × V)) → Apart base es → Absent k es → Apart (base ++ (k, v) ∷ []) es
  apart_more base k v [] h g = tt
  apart_more base k v (e ∷ es) h g =
      (absent_append e.0 base ((k, v) ∷ []) h.0 (flip same is self k e.0 g.0, tt), apart_more base k v es h.1 g.1)

  assoc : (xs : List (K × V)) (y : K × V) (ys : List (K × V)) → (xs ++ y ∷ []) ++ ys ≡ xs ++ y ∷ ys
  assoc [] y ys = refl
  assoc (x ∷ xs) y ys = ap (λ l. x ∷ l) (assoc xs y ys)

  -- effects that bring entries one after the other
  build : (change : Effect → Option (Change K V)) (make : K × V → Effect) → ((e : K × V) → change (make e) ≡ Some (e.0, Some e.1))
      → (es base : List (K × V)) → Distinct es → Apart base es → entries_after same change (map make es) base ≡ base ++ es
  build change make says [] base d h = sym (append-nil base)
  build change make says (e ∷ es) base d h =
      ap (λ c. entries_after same change (map make es) (changed same c base)) (says e)
      ∙ ap (entries_after same change (map make es)) (insert_last e.0 e.1 base h.0)
      ∙ build change make says es (base ++ e ∷ []) d.1 (apart_more base e.0 e.1 es h.1 d.0)
      ∙ assoc base e es

  nothing_apart : (es : List (K × V)) → Apart [] es
  nothing_apart [] = tt
  nothing_apart (e ∷ es) = (tt, nothing_apart es)

  pub built : (change : Effect → Option (Change K V)) (make : K × V → Effect) → ((e : K × V) → change (make e) ≡ Some (e.0, Some e.1))
      → (es : List (K × V)) → Distinct es → entries_after same change (map make es) [] ≡ es
  built change make says es d = build change make says es [] d (nothing_apart es)

-- effects in front that say nothing, and such effects after others
pub skip_front : {K V : Type 0} (same : K → K → Bool) (change : Effect → Option (Change K V)) (front rest : List Effect)
    → AllSilent change front → entries_after same change (front ++ rest) [] ≡ entries_after same change rest []
skip_front same change front rest h =
    entries_after-append same change front rest [] ∙ ap (entries_after same change rest) (entries_silent same change front [] h)

pub skip_back : {K V : Type 0} (same : K → K → Bool) (change : Effect → Option (Change K V)) (front rest : List Effect)
    → AllSilent change rest → entries_after same change (front ++ rest) [] ≡ entries_after same change front []
skip_back same change front rest h =
    entries_after-append same change front rest [] ∙ entries_silent same change rest (entries_after same change front []) h

-- keys alone
pub map_keys : {K V : Type 0} (make : K → Effect) (es : List (K × V)) → map make (keys_of es) ≡ map (λ e. make e.0) es
map_keys make [] = refl
map_keys make (e ∷ es) = ap (λ l. make e.0 ∷ l) (map_keys make es)

-- ---- cookies

distinct_change : (change : CookieChange) (cs : List StoredCookie) → AreDistinct cs → AreDistinct (cookies_changed cs change)
distinct_change (Stored w) cs h = distinct-with_cookie w cs h
distinct_change (Gone key) cs h = distinct-without key cs h

pub distinct_changes : (changes : List CookieChange) (cs : List StoredCookie) → AreDistinct cs → AreDistinct (changed_by cs changes)
distinct_changes [] cs h = h
distinct_changes (change ∷ changes) cs h = distinct_changes changes (cookies_changed cs change) (distinct_change change cs h)

abbrev pub NoKey : StoredCookie → List StoredCookie → Type 0
NoKey w cs = AllByRecursion (λ c. same_key w c ≡ false) cs

pub write_last : (w : StoredCookie) (cs : List StoredCookie) → NoKey w cs → with_cookie cs w ≡ cs ++ w ∷ []
write_last w [] h = refl
write_last w (c ∷ cs) h =
    ap (λ t. cond t (w ∷ cs) (c ∷ with_cookie cs w)) h.0 ∙ ap (λ l. c ∷ l) (write_last w cs h.1)

abbrev KeysApart : List StoredCookie → List StoredCookie → Type 0
KeysApart base cs = AllByRecursion (λ c. NoKey c base) cs

no_key_append : (w : StoredCookie) (xs ys : List StoredCookie) → NoKey w xs → NoKey w ys → NoKey w (xs ++ ys)
no_key_append w [] ys h g = g
no_key_append w (x ∷ xs) ys h g = (h.0, no_key_append w xs ys h.1 g)

keys_more : (base : List StoredCookie) (w : StoredCookie) (cs : List StoredCookie) → KeysApart base cs → NoKey w cs
    → KeysApart (base ++ w ∷ []) cs
keys_more base w [] h g = tt
keys_more base w (c ∷ cs) h g =
    (no_key_append c base (w ∷ []) h.0 (key_comm c w ∙ g.0, tt), keys_more base w cs h.1 g.1)

pub assoc_cookies : (xs : List StoredCookie) (y : StoredCookie) (ys : List StoredCookie) → (xs ++ y ∷ []) ++ ys ≡ xs ++ y ∷ ys
assoc_cookies [] y ys = refl
assoc_cookies (x ∷ xs) y ys = ap (λ l. x ∷ l) (assoc_cookies xs y ys)

written_on : (cs base : List StoredCookie) → AreDistinct cs → KeysApart base cs → changed_by base (map Stored cs) ≡ base ++ cs
unfolding IsDistinct
written_on [] base d h = sym (append-nil base)
written_on (c ∷ cs) base d h =
    ap (λ b. changed_by b (map Stored cs)) (write_last c base h.0)
    ∙ written_on cs (base ++ c ∷ []) d.1 (keys_more base c cs h.1 d.0)
    ∙ assoc_cookies base c cs

none_apart : (cs : List StoredCookie) → KeysApart [] cs
none_apart [] = tt
none_apart (c ∷ cs) = (tt, none_apart cs)

-- cookies that are written anew stand as they stood
pub written_anew : (cs : List StoredCookie) → AreDistinct cs → changed_by [] (map Stored cs) ≡ cs
written_anew cs d = written_on cs [] d (none_apart cs)

-- cookies that are the same until the time have the same keys
same_keys : (now : ℕ) (a b x y : StoredCookie) → SameUntil now a b → SameUntil now x y → same_key a x ≡ same_key b y
same_keys now a b x y h k = ap₂ same_key h.rest k.rest

no_key_same : (now : ℕ) (a b : StoredCookie) (us bs : List StoredCookie) → SameUntil now a b → SameJar now us bs → NoKey a us → NoKey b bs
no_key_same now a b [] [] h k n = tt
no_key_same now a b [] (y ∷ bs) h k n = absurd k
no_key_same now a b (x ∷ us) [] h k n = absurd k
no_key_same now a b (x ∷ us) (y ∷ bs) h k n = (sym (same_keys now a b x y h k.0) ∙ n.0, no_key_same now a b us bs h k.1 n.1)

pub distinct_same : (now : ℕ) (us bs : List StoredCookie) → SameJar now us bs → AreDistinct us → AreDistinct bs
unfolding IsDistinct
distinct_same now [] [] h d = tt
distinct_same now [] (b ∷ bs) h d = absurd h
distinct_same now (a ∷ us) [] h d = absurd h
distinct_same now (a ∷ us) (b ∷ bs) h d = (no_key_same now a b us bs h.0 h.1 d.0, distinct_same now us bs h.1 d.1)
