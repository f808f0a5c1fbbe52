-- Lists and entries of which a test keeps some.
use Rattle.std.proofs.Common.{◌≡◌, ℕ, zero, suc, Bool, true, false, cond, ◌||◌, List, [], ◌∷◌, ◌++◌, Option, Some, None, filter, refl, sym}
use Rattle.std.proofs.Common.{ap, ap₂}
use Rattle.std.proofs.Common.{◌∙◌, slice_get}
use Rattle.std.proofs.lemmas.List.Elements.{filter-append}
use Rattle.std.specs.Prelude.{if◌then◌else◌, slice_set, IfSome, ⊤}
use Rattle.std.specs.Map.{lookup, keys_of}
use Rattle.std.specs.List.{list_any, filter_map, cons_option, find, AllByRecursion}
use Rattle.indexmap.specs.IndexMap.{insert_entry, shift_remove_entry}
use Rattle.fed_trace.specs.Effect.{Effect}
use Rattle.fed_trace.specs.Keyed.{Change, changed, entries_after}
use Rattle.fed_trace.specs.Trace.{Row, standing, all_said}

-- ---- a filter of a filter

-- where all that the one test takes the other keeps
abbrev pub Within : {X : Type 0} → (X → Bool) → (X → Bool) → X → Type 0
Within f q x = f x ≡ true → q x ≡ true

pub filter_within : {X : Type 0} (f q : X → Bool) (xs : List X) → AllByRecursion (Within f q) xs → filter f (filter q xs) ≡ filter f xs
filter_within f q [] h = refl
filter_within f q (x ∷ xs) h = pick (q x) refl (filter_within f q xs h.1)
  where
    fails : (b : Bool) → q x ≡ false → f x ≡ b → f x ≡ false
    fails false out e = e
    fails true out e = absurd (let r : true ≡ false = sym (h.0 e) ∙ out in cc)

    pick : (b : Bool) → q x ≡ b → filter f (filter q xs) ≡ filter f xs
        → filter f (cond b (x ∷ filter q xs) (filter q xs)) ≡ filter f (x ∷ xs)
    pick true e rest = ap (λ l. cond (f x) (x ∷ l) l) rest
    pick false e rest = rest ∙ sym (ap (λ b. cond b (x ∷ filter f xs) (filter f xs)) (fails (f x) e refl))

pub any_within : {X : Type 0} (f q : X → Bool) (xs : List X) → AllByRecursion (Within f q) xs → list_any f (filter q xs) ≡ list_any f xs
any_within f q [] h = refl
any_within f q (x ∷ xs) h = pick (q x) refl (any_within f q xs h.1)
  where
    fails : (b : Bool) → q x ≡ false → f x ≡ b → f x ≡ false
    fails false out e = e
    fails true out e = absurd (let r : true ≡ false = sym (h.0 e) ∙ out in cc)

    pick : (b : Bool) → q x ≡ b → list_any f (filter q xs) ≡ list_any f xs
        → list_any f (cond b (x ∷ filter q xs) (filter q xs)) ≡ (f x || list_any f xs)
    pick true e rest = ap (λ l. f x || l) rest
    pick false e rest = rest ∙ sym (ap (λ b. b || list_any f xs) (fails (f x) e refl))

-- the same for tests of which that is true everywhere
pub everywhere : {X : Type 0} (P : X → Type 0) → ((x : X) → P x) → (xs : List X) → AllByRecursion P xs
everywhere P h [] = tt
everywhere P h (x ∷ xs) = (h x, everywhere P h xs)

-- two tests that agree on what a third keeps
pub filter_agree : {X : Type 0} (q f g : X → Bool) → ((x : X) → q x ≡ true → f x ≡ g x) → (xs : List X)
    → filter f (filter q xs) ≡ filter g (filter q xs)
filter_agree q f g h [] = refl
filter_agree q f g h (x ∷ xs) = pick (q x) refl (filter_agree q f g h xs)
  where
    pick : (b : Bool) → q x ≡ b → filter f (filter q xs) ≡ filter g (filter q xs)
        → filter f (cond b (x ∷ filter q xs) (filter q xs)) ≡ filter g (cond b (x ∷ filter q xs) (filter q xs))
    pick true e rest = ap₂ (λ b l. cond b (x ∷ l) l) (h x e) rest
    pick false e rest = rest

-- what a filter keeps passes its test
pub all_filter : {X : Type 0} (q : X → Bool) (xs : List X) → AllByRecursion (λ x. q x ≡ true) (filter q xs)
all_filter q [] = tt
all_filter q (x ∷ xs) = pick (q x) refl (all_filter q xs)
  where
    pick : (b : Bool) → q x ≡ b → AllByRecursion (λ x. q x ≡ true) (filter q xs)
        → AllByRecursion (λ x. q x ≡ true) (cond b (x ∷ filter q xs) (filter q xs))
    pick true e rest = (e, rest)
    pick false e rest = rest

-- ---- all that is said, of which some is kept

-- what is said, if the test keeps it
abbrev pub kept_if : {A : Type 0} → (A → Bool) → Option A → Option A
kept_if q None = None
kept_if q (Some a) = if q a then Some a else None

filter_cons : {A : Type 0} (q : A → Bool) (o : Option A) (xs : List A)
    → filter q (cons_option o xs) ≡ cons_option (kept_if q o) (filter q xs)
filter_cons q None xs = refl
filter_cons q (Some a) xs = go (q a)
  where
    go : (b : Bool) → cond b (a ∷ filter q xs) (filter q xs) ≡ cons_option (cond b (Some a) None) (filter q xs)
    go true = refl
    go false = refl

filter_said : {E A : Type 0} (q : A → Bool) (said : E → Option A) (es : List E)
    → filter q (filter_map said es) ≡ filter_map (λ e. kept_if q (said e)) es
filter_said q said [] = refl
filter_said q said (e ∷ es) =
    filter_cons q (said e) (filter_map said es) ∙ ap (cons_option (kept_if q (said e))) (filter_said q said es)

pub filter_all_said : {A : Type 0} (q : A → Bool) (said : Effect → Option A) (rows : List Row)
    → filter q (all_said said rows) ≡ all_said (λ e. kept_if q (said e)) rows
filter_all_said q said [] = refl
filter_all_said q said (row ∷ rows) =
    filter-append q (all_said said rows) (filter_map said row.effects)
    ∙ ap₂ (λ xs ys. xs ++ ys) (filter_all_said q said rows) (filter_said q said row.effects)

-- ---- entries under keys

-- the key of an entry is kept
abbrev pub keep_key : {K V : Type 0} → (K → Bool) → K × V → Bool
keep_key keep e = keep e.0

-- what is said of a key, if it is kept
abbrev pub only : {K V : Type 0} → (K → Bool) → Option (Change K V) → Option (Change K V)
only keep None = None
only keep (Some c) = if keep c.0 then Some c else None

-- the test does not tell equal keys apart
abbrev pub Respects : {K : Type 0} → (K → K → Bool) → (K → Bool) → Type 0
Respects same keep = (a b : _) → same a b ≡ true → keep a ≡ keep b

module _ {K V : Type 0} (same : K → K → Bool) (keep : K → Bool) (r : Respects same keep) where
  insert_among : (k : K) (v : V) (es : List (K × V))
      → filter (keep_key keep) (insert_entry same es k v)
      ≡ cond (keep k) (insert_entry same (filter (keep_key keep) es) k v) (filter (keep_key keep) es)
  insert_among k v [] = go (keep k)
    where
      go : (b : Bool) → cond {A = List (K × V)} b ((k, v) ∷ []) [] ≡ cond {A = List (K × V)} b ((k, v) ∷ []) []
      go b = refl
  insert_among k v (e ∷ es) = pick (same k e.0) refl (insert_among k v es)
    where
      rest : List (K × V)
      rest = filter (keep_key keep) es

      apart : (b c : Bool) → same k e.0 ≡ false
          → cond b (e ∷ cond c (insert_entry same rest k v) rest) (cond c (insert_entry same rest k v) rest)
          ≡ cond c (insert_entry same (cond b (e ∷ rest) rest) k v) (cond b (e ∷ rest) rest)
      apart true true ne = sym (ap (λ t. cond t ((e.0, v) ∷ rest) (e ∷ insert_entry same rest k v)) ne)
      apart true false ne = refl
      apart false true ne = refl
      apart false false ne = refl

      there : (b : Bool) → same k e.0 ≡ true
          → cond b ((e.0, v) ∷ rest) rest ≡ cond b (insert_entry same (cond b (e ∷ rest) rest) k v) (cond b (e ∷ rest) rest)
      there true is = sym (ap (λ t. cond t ((e.0, v) ∷ rest) (e ∷ insert_entry same rest k v)) is)
      there false is = refl

      pick : (t : Bool) → same k e.0 ≡ t
          → filter (keep_key keep) (insert_entry same es k v) ≡ cond (keep k) (insert_entry same rest k v) rest
          → filter (keep_key keep) (cond t ((e.0, v) ∷ es) (e ∷ insert_entry same es k v))
          ≡ cond (keep k) (insert_entry same (filter (keep_key keep) (e ∷ es)) k v) (filter (keep_key keep) (e ∷ es))
      pick true is ih =
          there (keep e.0) is
          ∙ ap (λ b. cond b (insert_entry same (filter (keep_key keep) (e ∷ es)) k v) (filter (keep_key keep) (e ∷ es)))
          (sym (r k e.0 is))
      pick false is ih = ap (λ l. cond (keep e.0) (e ∷ l) l) ih ∙ apart (keep e.0) (keep k) is

  remove_among : (k : K) (es : List (K × V))
      → filter (keep_key keep) (shift_remove_entry (same k) es)
      ≡ cond (keep k) (shift_remove_entry (same k) (filter (keep_key keep) es)) (filter (keep_key keep) es)
  remove_among k [] = go (keep k)
    where
      go : (b : Bool) → [] ≡ cond {A = List (K × V)} b [] []
      go true = refl
      go false = refl
  remove_among k (e ∷ es) = pick (same k e.0) refl (remove_among k es)
    where
      rest : List (K × V)
      rest = filter (keep_key keep) es

      apart : (b c : Bool) → same k e.0 ≡ false
          → cond b (e ∷ cond c (shift_remove_entry (same k) rest) rest) (cond c (shift_remove_entry (same k) rest) rest)
          ≡ cond c (shift_remove_entry (same k) (cond b (e ∷ rest) rest)) (cond b (e ∷ rest) rest)
      apart true true ne = sym (ap (λ t. cond t rest (e ∷ shift_remove_entry (same k) rest)) ne)
      apart true false ne = refl
      apart false true ne = refl
      apart false false ne = refl

      there : (b : Bool) → same k e.0 ≡ true
          → rest ≡ cond b (shift_remove_entry (same k) (cond b (e ∷ rest) rest)) (cond b (e ∷ rest) rest)
      there true is = sym (ap (λ t. cond t rest (e ∷ shift_remove_entry (same k) rest)) is)
      there false is = refl

      pick : (t : Bool) → same k e.0 ≡ t
          → filter (keep_key keep) (shift_remove_entry (same k) es) ≡ cond (keep k) (shift_remove_entry (same k) rest) rest
          → filter (keep_key keep) (cond t es (e ∷ shift_remove_entry (same k) es))
          ≡ cond (keep k) (shift_remove_entry (same k) (filter (keep_key keep) (e ∷ es))) (filter (keep_key keep) (e ∷ es))
      pick true is ih =
          there (keep e.0) is
          ∙ ap (λ b. cond b (shift_remove_entry (same k) (filter (keep_key keep) (e ∷ es))) (filter (keep_key keep) (e ∷ es)))
          (sym (r k e.0 is))
      pick false is ih = ap (λ l. cond (keep e.0) (e ∷ l) l) ih ∙ apart (keep e.0) (keep k) is

  changed_among : (c : Option (Change K V)) (es : List (K × V))
      → filter (keep_key keep) (changed same c es) ≡ changed same (only keep c) (filter (keep_key keep) es)
  changed_among None es = refl
  changed_among (Some (k, Some v)) es = insert_among k v es ∙ go (keep k)
    where
      rest : List (K × V)
      rest = filter (keep_key keep) es

      go : (b : Bool) → cond b (insert_entry same rest k v) rest ≡ changed same (cond b (Some (k, Some v)) None) rest
      go true = refl
      go false = refl
  changed_among (Some (k, None)) es = remove_among k es ∙ go (keep k)
    where
      rest : List (K × V)
      rest = filter (keep_key keep) es

      go : (b : Bool) → cond b (shift_remove_entry (same k) rest) rest ≡ changed same (cond b (Some (k, None)) None) rest
      go true = refl
      go false = refl

  entries_among : {E : Type 0} (change : E → Option (Change K V)) (effects : List E) (es : List (K × V))
      → filter (keep_key keep) (entries_after same change effects es)
      ≡ entries_after same (λ e. only keep (change e)) effects (filter (keep_key keep) es)
  entries_among change [] es = refl
  entries_among change (e ∷ effects) es =
      entries_among change effects (changed same (change e) es)
      ∙ ap (entries_after same (λ e. only keep (change e)) effects) (changed_among (change e) es)

  pub standing_among : (change : Effect → Option (Change K V)) (rows : List Row)
      → filter (keep_key keep) (standing same change rows) ≡ standing same (λ e. only keep (change e)) rows
  standing_among change [] = refl
  standing_among change (row ∷ rows) =
      entries_among change row.effects (standing same change rows)
      ∙ ap (entries_after same (λ e. only keep (change e)) row.effects) (standing_among change rows)

  -- look-ups of keys that are kept
  pub lookup_among : (k : K) (es : List (K × V)) → keep k ≡ true
      → lookup (same k) (filter (keep_key keep) es) ≡ lookup (same k) es
  lookup_among k [] known = refl
  lookup_among k (e ∷ es) known = pick (same k e.0) refl (lookup_among k es known)
    where
      rest : List (K × V)
      rest = filter (keep_key keep) es

      skip : (b : Bool) → same k e.0 ≡ false → lookup (same k) (cond b (e ∷ rest) rest) ≡ lookup (same k) rest
      skip true ne = ap (λ t. cond t (Some e.1) (lookup (same k) rest)) ne
      skip false ne = refl

      pick : (t : Bool) → same k e.0 ≡ t → lookup (same k) rest ≡ lookup (same k) es
          → lookup (same k) (filter (keep_key keep) (e ∷ es)) ≡ cond t (Some e.1) (lookup (same k) es)
      pick true is ih =
          ap (λ b. lookup (same k) (cond b (e ∷ rest) rest)) (sym (r k e.0 is) ∙ known)
          ∙ ap (λ t. cond t (Some e.1) (lookup (same k) rest)) is
      pick false is ih = skip (keep e.0) is ∙ ih

pub keys_among : {K V : Type 0} (keep : K → Bool) (es : List (K × V)) → keys_of (filter (keep_key keep) es) ≡ filter keep (keys_of es)
keys_among keep [] = refl
keys_among {K} keep (e ∷ es) = go (keep e.0) (keys_among keep es)
  where
    go : (b : Bool) → keys_of (filter (keep_key keep) es) ≡ filter keep (keys_of es)
        → keys_of (cond b (e ∷ filter (keep_key keep) es) (filter (keep_key keep) es))
        ≡ cond b (e.0 ∷ filter keep (keys_of es)) (filter keep (keys_of es))
    go true rest = ap (λ l. e.0 ∷ l) rest
    go false rest = rest

-- ---- all entries

-- an entry that comes is so
abbrev pub Brings : {K V : Type 0} → (K × V → Type 0) → Option (Change K V) → Type 0
Brings P None = ⊤
Brings P (Some (k, None)) = ⊤
Brings P (Some (k, Some v)) = P (k, v)

-- ---- lists of which all are so

-- the item at a place is so, if there is one
pub all_at : {A : Type 0} (P : A → Type 0) (xs : List A) → AllByRecursion P xs → (n : ℕ) → IfSome (slice_get xs n) P
all_at P [] h n = tt
all_at P (x ∷ xs) h zero = h.0
all_at P (x ∷ xs) h (suc n) = all_at P xs h.1 n

pub all_set : {A : Type 0} (P : A → Type 0) (xs : List A) (n : ℕ) (x : A) → AllByRecursion P xs → P x → AllByRecursion P (slice_set xs n x)
all_set P [] n x h own = tt
all_set P (y ∷ ys) zero x h own = (own, h.1)
all_set P (y ∷ ys) (suc n) x h own = (h.0, all_set P ys n x h.1 own)

pub all_append : {A : Type 0} (P : A → Type 0) (xs ys : List A) → AllByRecursion P xs → AllByRecursion P ys → AllByRecursion P (xs ++ ys)
all_append P [] ys h k = k
all_append P (x ∷ xs) ys h k = (h.0, all_append P xs ys h.1 k)

-- the first that passes a test is so
pub all_find : {A : Type 0} (P : A → Type 0) (test : A → Bool) (xs : List A) → AllByRecursion P xs → IfSome (find test xs) P
all_find P test [] h = tt
all_find P test (x ∷ xs) h = go (test x) (all_find P test xs h.1)
  where
    go : (b : Bool) → IfSome (find test xs) P → IfSome (cond b (Some x) (find test xs)) P
    go true rest = h.0
    go false rest = rest
