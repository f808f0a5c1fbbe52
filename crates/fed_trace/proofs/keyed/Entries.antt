-- Entries that are set and removed under keys.
use Rattle.std.proofs.Common.{◌≡◌, ℕ, false, nat_eq, List, [], ◌∷◌, ◌++◌, refl, ap, ◌∙◌, arith, cond, Bool, true, Some, sym}
use Rattle.std.proofs.lemmas.Bool.Decides.{nat_tests}
use Rattle.std.specs.Prelude.{option_map}
use Rattle.std.specs.Map.{lookup, set_value}
use Rattle.indexmap.specs.IndexMap.{insert_entry, shift_remove_entry}
use Rattle.fed_trace.proofs.keyed.Keyed.{IsAbsent}

pub lookup-set_value : {V : Type 0} (q k : ℕ) (v : V) (es : List (ℕ × V))
    → lookup (nat_eq q) (set_value (nat_eq k) es v) ≡ cond (nat_eq q k) (option_map (λ x. v) (lookup (nat_eq q) es)) (lookup (nat_eq q) es)
lookup-set_value q k v [] = grind (arith, nat_tests)
lookup-set_value q k v (e ∷ es) =
    let rest = lookup-set_value q k v es in grind (arith, nat_tests, rest)

pub set_absent : {V : Type 0} (k : ℕ) (v : V) (es : List (ℕ × V)) → IsAbsent k es → set_value (nat_eq k) es v ≡ es
set_absent k v [] h = refl
set_absent k v (e ∷ es) h =
    let here : nat_eq k e.0 ≡ false = grind (arith, nat_tests, h) in
    let tail : IsAbsent k es = grind (arith, nat_tests, h) in
    ap (λ b. cond b ((e.0, v) ∷ es) (e ∷ set_value (nat_eq k) es v)) here ∙ ap (λ xs. e ∷ xs) (set_absent k v es tail)

pub remove_absent : {V : Type 0} (k : ℕ) (es : List (ℕ × V)) → IsAbsent k es → shift_remove_entry (nat_eq k) es ≡ es
remove_absent k [] h = refl
remove_absent k (e ∷ es) h =
    let here : nat_eq k e.0 ≡ false = grind (arith, nat_tests, h) in
    let tail : IsAbsent k es = grind (arith, nat_tests, h) in
    ap (λ b. cond b es (e ∷ shift_remove_entry (nat_eq k) es)) here ∙ ap (λ xs. e ∷ xs) (remove_absent k es tail)

pub insert_absent : {V : Type 0} (k : ℕ) (v : V) (es : List (ℕ × V)) → IsAbsent k es
    → insert_entry nat_eq es k v ≡ es ++ (k, v) ∷ []
insert_absent k v [] h = refl
insert_absent k v (e ∷ es) h =
    let here : nat_eq k e.0 ≡ false = grind (arith, nat_tests, h) in
    let tail : IsAbsent k es = grind (arith, nat_tests, h) in
    ap (λ b. cond b ((e.0, v) ∷ es) (e ∷ insert_entry nat_eq es k v)) here ∙ ap (λ xs. e ∷ xs) (insert_absent k v es tail)

-- a write that changes nothing
pub set_same : {V : Type 0} (k : ℕ) (v : V) (es : List (ℕ × V)) → lookup (nat_eq k) es ≡ Some v → set_value (nat_eq k) es v ≡ es
set_same k v [] h = refl
set_same k v (e ∷ es) h = go (set_same k v es) (nat_eq k e.0) h
  where
    go : (lookup (nat_eq k) es ≡ Some v → set_value (nat_eq k) es v ≡ es) → (b : Bool) → cond b (Some e.1) (lookup (nat_eq k) es) ≡ Some v
        → cond b ((e.0, v) ∷ es) (e ∷ set_value (nat_eq k) es v) ≡ e ∷ es
    go rest true h = let same : e.1 ≡ v = cc in ap (λ x. (e.0, x) ∷ es) (sym same)
    go rest false h = ap (λ xs. e ∷ xs) (rest h)

pub set_again : {V : Type 0} (k : ℕ) (v w : V) (es : List (ℕ × V))
    → set_value (nat_eq k) (set_value (nat_eq k) es v) w ≡ set_value (nat_eq k) es w
set_again k v w [] = refl
set_again k v w (e ∷ es) = go (set_again k v w es) (nat_eq k e.0) refl
  where
    go : set_value (nat_eq k) (set_value (nat_eq k) es v) w ≡ set_value (nat_eq k) es w → (b : Bool) → nat_eq k e.0 ≡ b
        → set_value (nat_eq k) (cond b ((e.0, v) ∷ es) (e ∷ set_value (nat_eq k) es v)) w
        ≡ cond b ((e.0, w) ∷ es) (e ∷ set_value (nat_eq k) es w)
    go rest true is = ap (λ b. cond b ((e.0, w) ∷ es) ((e.0, v) ∷ set_value (nat_eq k) es w)) is
    go rest false is =
        ap (λ b. cond b ((e.0, w) ∷ set_value (nat_eq k) es v) (e ∷ set_value (nat_eq k) (set_value (nat_eq k) es v) w)) is
        ∙ ap (λ xs. e ∷ xs) rest
