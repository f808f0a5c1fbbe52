-- Entries under keys: what comes, goes, and is looked up.
use Rattle.std.proofs.Common.{◌≡◌, ℕ, Bool, true, false, nat_eq, List, [], ◌∷◌, ◌++◌, Some, None, refl, sym, ap, ◌∙◌, arith, cond}
use Rattle.std.proofs.lemmas.Bool.Decides.{nat_tests}
use Rattle.std.specs.Prelude.{Option, unwrap_or, ⊤}
use Rattle.std.specs.Option.{option_or}
use Rattle.std.specs.Map.{lookup}
use Rattle.indexmap.specs.IndexMap.{insert_entry, shift_remove_entry}
use Rattle.fed_trace.specs.Effect.{Effect}
use Rattle.fed_trace.specs.Keyed.{Change, changed, entries_after, last_said, says}
use Rattle.fed_trace.specs.Trace.{Row, standing, last_value}

-- a key that is not there
abbrev pub IsAbsent : {V : Type 0} → ℕ → List (ℕ × V) → Type 0
IsAbsent k es = lookup (nat_eq k) es ≡ None

-- no key stands twice
abbrev pub AreDistinct : {V : Type 0} → List (ℕ × V) → Type 0
AreDistinct [] = ⊤
AreDistinct (e ∷ es) = IsAbsent e.0 es × AreDistinct es

-- ---- an entry comes

pub lookup-insert_entry : {V : Type 0} (q k : ℕ) (v : V) (es : List (ℕ × V))
    → lookup (nat_eq q) (insert_entry nat_eq es k v) ≡ cond (nat_eq q k) (Some v) (lookup (nat_eq q) es)
lookup-insert_entry q k v [] = refl
lookup-insert_entry q k v (e ∷ es) =
    let rest = lookup-insert_entry q k v es in grind (arith, nat_tests, rest)

pub absent_after_insert : {V : Type 0} (q k : ℕ) (v : V) (es : List (ℕ × V)) → nat_eq q k ≡ false → IsAbsent q es
    → IsAbsent q (insert_entry nat_eq es k v)
absent_after_insert q k v es ne h = lookup-insert_entry q k v es ∙ ap (λ b. cond b (Some v) (lookup (nat_eq q) es)) ne ∙ h

pub distinct_after_insert : {V : Type 0} (k : ℕ) (v : V) (es : List (ℕ × V)) → AreDistinct es → AreDistinct (insert_entry nat_eq es k v)
distinct_after_insert k v [] h = (refl, tt)
distinct_after_insert {V} k v (e ∷ es) h = go (distinct_after_insert k v es h.1) (nat_eq k e.0) refl
  where
    go : AreDistinct (insert_entry nat_eq es k v) → (b : Bool) → nat_eq k e.0 ≡ b
        → AreDistinct (cond b ((e.0, v) ∷ es) (e ∷ insert_entry nat_eq es k v))
    go rest true is = (h.0, h.1)
    go rest false is = (absent_after_insert e.0 k v es (let ne : nat_eq e.0 k ≡ false = grind (arith, nat_tests, is) in ne) h.0, rest)

-- ---- an entry goes

pub absent_after_remove : {V : Type 0} (q k : ℕ) (es : List (ℕ × V)) → IsAbsent q es → IsAbsent q (shift_remove_entry (nat_eq k) es)
absent_after_remove q k [] h = refl
absent_after_remove q k (e ∷ es) h =
    let rest = absent_after_remove q k es in
    grind (arith, nat_tests, rest)

pub distinct_after_remove : {V : Type 0} (k : ℕ) (es : List (ℕ × V)) → AreDistinct es → AreDistinct (shift_remove_entry (nat_eq k) es)
distinct_after_remove k [] h = tt
distinct_after_remove {V} k (e ∷ es) h = go (distinct_after_remove k es h.1) (nat_eq k e.0)
  where
    go : AreDistinct (shift_remove_entry (nat_eq k) es) → (b : Bool) → AreDistinct (cond b es (e ∷ shift_remove_entry (nat_eq k) es))
    go rest true = h.1
    go rest false = (absent_after_remove e.0 k es h.0, rest)

pub lookup-remove_entry : {V : Type 0} (q k : ℕ) (es : List (ℕ × V)) → AreDistinct es
    → lookup (nat_eq q) (shift_remove_entry (nat_eq k) es) ≡ cond (nat_eq q k) None (lookup (nat_eq q) es)
lookup-remove_entry q k [] h = grind (arith, nat_tests)
lookup-remove_entry q k (e ∷ es) h =
    let rest = lookup-remove_entry q k es h.1 in
    let absent = h.0 in
    grind (arith, nat_tests, rest, absent)

-- an entry that comes and goes leaves what was there
pub remove-insert_entry : {V : Type 0} (k : ℕ) (v : V) (es : List (ℕ × V)) → IsAbsent k es
    → shift_remove_entry (nat_eq k) (insert_entry nat_eq es k v) ≡ es
remove-insert_entry k v [] h = grind (arith, nat_tests)
remove-insert_entry k v (e ∷ es) h =
    let rest = remove-insert_entry k v es in
    grind (arith, nat_tests, rest)

-- ---- what happened

pub distinct_after_change : {V : Type 0} (c : Option (Change ℕ V)) (es : List (ℕ × V)) → AreDistinct es → AreDistinct (changed nat_eq c es)
distinct_after_change None es h = h
distinct_after_change (Some (k, None)) es h = distinct_after_remove k es h
distinct_after_change (Some (k, Some v)) es h = distinct_after_insert k v es h

pub distinct_after : {E V : Type 0} (change : E → Option (Change ℕ V)) (effects : List E) (es : List (ℕ × V)) → AreDistinct es
    → AreDistinct (entries_after nat_eq change effects es)
distinct_after change [] es h = h
distinct_after change (e ∷ effects) es h =
    distinct_after change effects (changed nat_eq (change e) es) (distinct_after_change (change e) es h)

-- no key stands twice in what stands
pub distinct_standing : {V : Type 0} (change : Effect → Option (Change ℕ V)) (rows : List Row) → AreDistinct (standing nat_eq change rows)
distinct_standing change [] = tt
distinct_standing change (row ∷ rows) =
    distinct_after change row.effects (standing nat_eq change rows) (distinct_standing change rows)

pub entries_after-append : {E K V : Type 0} (same : K → K → Bool) (change : E → Option (Change K V)) (xs ys : List E) (es : List (K × V))
    → entries_after same change (xs ++ ys) es ≡ entries_after same change ys (entries_after same change xs es)
entries_after-append same change [] ys es = refl
entries_after-append same change (x ∷ xs) ys es = entries_after-append same change xs ys (changed same (change x) es)

-- ---- what is looked up is what was said last

pub unwrap_or-option_or : {V : Type 0} (later said : Option V) (x : V)
    → unwrap_or (option_or later said) x ≡ unwrap_or later (unwrap_or said x)
unwrap_or-option_or None said x = refl
unwrap_or-option_or (Some y) said x = refl

cond_said : {V : Type 0} (b : Bool) (v x : Option V) → cond b v x ≡ unwrap_or (cond b (Some v) None) x
cond_said true v x = refl
cond_said false v x = refl

lookup-changed : {V : Type 0} (q : ℕ) (c : Option (Change ℕ V)) (es : List (ℕ × V)) → AreDistinct es
    → lookup (nat_eq q) (changed nat_eq c es) ≡ unwrap_or (says nat_eq q c) (lookup (nat_eq q) es)
lookup-changed q None es h = refl
lookup-changed q (Some (k, None)) es h = lookup-remove_entry q k es h ∙ cond_said (nat_eq q k) None (lookup (nat_eq q) es)
lookup-changed q (Some (k, Some v)) es h = lookup-insert_entry q k v es ∙ cond_said (nat_eq q k) (Some v) (lookup (nat_eq q) es)

lookup-entries_after : {E V : Type 0} (change : E → Option (Change ℕ V)) (q : ℕ) (effects : List E) (es : List (ℕ × V)) → AreDistinct es
    → lookup (nat_eq q) (entries_after nat_eq change effects es) ≡ unwrap_or (last_said nat_eq change q effects) (lookup (nat_eq q) es)
lookup-entries_after change q [] es h = refl
lookup-entries_after change q (e ∷ effects) es h =
    lookup-entries_after change q effects (changed nat_eq (change e) es) (distinct_after_change (change e) es h)
    ∙ ap (unwrap_or (last_said nat_eq change q effects)) (lookup-changed q (change e) es h)
    ∙ sym (unwrap_or-option_or (last_said nat_eq change q effects) (says nat_eq q (change e)) (lookup (nat_eq q) es))

-- the value that stands under a key is the last value that was said
pub lookup-standing : {V : Type 0} (change : Effect → Option (Change ℕ V)) (q : ℕ) (rows : List Row)
    → lookup (nat_eq q) (standing nat_eq change rows) ≡ last_value nat_eq change q rows
lookup-standing change q [] = refl
lookup-standing change q (row ∷ rows) =
    lookup-entries_after change q row.effects (standing nat_eq change rows) (distinct_standing change rows)
    ∙ ap (unwrap_or (last_said nat_eq change q row.effects)) (lookup-standing change q rows)
