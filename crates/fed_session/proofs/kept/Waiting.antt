-- Whether a call waits, as calls come and go.
use Rattle.std.proofs.Common.{◌≡◌, ◌≤◌, ◌+◌, ℕ, Bool, true, false, not, nat_eq, ◌||◌, cond, List, [], ◌∷◌, ◌++◌, length, Option}
use Rattle.std.proofs.Common.{Some, None, is_some, refl, sym, ap, ◌∙◌, arith}
use Rattle.std.proofs.lemmas.Bool.Decides.{nat_tests}
use Rattle.std.proofs.lemmas.List.Folds.{list_any-append}
use Rattle.std.specs.Prelude.{unwrap_or}
use Rattle.std.specs.Map.{lookup}
use Rattle.indexmap.specs.IndexMap.{insert_entry}
use Rattle.fed_origin.specs.declared.origin.Origin.{Origin}
use Rattle.fed_origin.specs.Origin.{same_origin}
use Rattle.fed_table.specs.Lists.{has, times, times_in, without, without_calls, calls_at, stands_in, all_without, all_without_calls}
use Rattle.fed_table.specs.Lists.{with_last}
use Rattle.fed_session.specs.Tabs.{waits_next}

abbrev Lists : Type 0
Lists = List (Origin × List ℕ)

-- ---- one list

has_without : (q call : ℕ) (xs : List ℕ) → nat_eq call q ≡ false → has q (without call xs) ≡ has q xs
has_without q call [] ne = refl
has_without q call (x ∷ xs) ne = go (nat_eq call x) refl (has_without q call xs ne)
  where
    go : (b : Bool) → nat_eq call x ≡ b → has q (without call xs) ≡ has q xs
        → has q (cond (not b) (x ∷ without call xs) (without call xs)) ≡ nat_eq q x || has q xs
    go true is rest =
        let other : nat_eq q x ≡ false = grind (arith, nat_tests, is, ne) in
        rest ∙ sym (ap (λ b. b || has q xs) other)
    go false is rest = ap (λ b. nat_eq q x || b) rest

has_without_own : (call : ℕ) (xs : List ℕ) → has call (without call xs) ≡ false
has_without_own call [] = refl
has_without_own call (x ∷ xs) = go (nat_eq call x) refl (has_without_own call xs)
  where
    go : (b : Bool) → nat_eq call x ≡ b → has call (without call xs) ≡ false
        → has call (cond (not b) (x ∷ without call xs) (without call xs)) ≡ false
    go true is rest = rest
    go false is rest = ap (λ b. b || has call (without call xs)) is ∙ rest

has_without_calls : (q : ℕ) (gone xs : List ℕ) → has q gone ≡ false → has q (without_calls gone xs) ≡ has q xs
has_without_calls q [] xs apart = refl
has_without_calls q (call ∷ gone) xs apart = go (nat_eq q call) refl apart (λ ys rest. has_without_calls q gone ys rest)
  where
    go : (b : Bool) → nat_eq q call ≡ b → b || has q gone ≡ false
        → ((ys : List ℕ) → has q gone ≡ false → has q (without_calls gone ys) ≡ has q ys)
        → has q (without_calls gone (without call xs)) ≡ has q xs
    go true is h later = absurd (cc)
    go false is h later =
        let ne : nat_eq call q ≡ false = grind (arith, nat_tests, is) in
        later (without call xs) h ∙ has_without q call xs ne

none_has : (call : ℕ) (xs : List ℕ) → times call xs ≡ 0 → has call xs ≡ false
none_has call [] none = refl
none_has call (x ∷ xs) none = go (nat_eq call x) none (none_has call xs)
  where
    go : (b : Bool) → cond b 1 0 + times call xs ≡ 0 → (times call xs ≡ 0 → has call xs ≡ false) → b || has call xs ≡ false
    go true is rest = absurd (omega (arith, is))
    go false is rest = rest (omega (arith, is))

-- ---- all lists

pub stands_without : (q call : ℕ) (waits : Lists) → nat_eq call q ≡ false → stands_in q (all_without call waits) ≡ stands_in q waits
stands_without q call [] ne = refl
stands_without q call (e ∷ waits) ne =
    ap (λ b. b || stands_in q (all_without call waits)) (has_without q call e.1 ne)
    ∙ ap (λ b. has q e.1 || b) (stands_without q call waits ne)

pub stands_without_own : (call : ℕ) (waits : Lists) → stands_in call (all_without call waits) ≡ false
stands_without_own call [] = refl
stands_without_own call (e ∷ waits) =
    ap (λ b. b || stands_in call (all_without call waits)) (has_without_own call e.1) ∙ stands_without_own call waits

pub stands_without_calls : (q : ℕ) (gone : List ℕ) (waits : Lists) → has q gone ≡ false
    → stands_in q (all_without_calls gone waits) ≡ stands_in q waits
stands_without_calls q gone [] apart = refl
stands_without_calls q gone (e ∷ waits) apart =
    ap (λ b. b || stands_in q (all_without_calls gone waits)) (has_without_calls q gone e.1 apart)
    ∙ ap (λ b. has q e.1 || b) (stands_without_calls q gone waits apart)

or_false : (b : Bool) → b || false ≡ b
or_false true = refl
or_false false = refl

has_last : (q call : ℕ) (xs : List ℕ) → nat_eq call q ≡ false → has q (xs ++ call ∷ []) ≡ has q xs
has_last q call xs ne =
    let other : nat_eq q call ≡ false = grind (arith, nat_tests, ne) in
    list_any-append (nat_eq q) xs (call ∷ []) ∙ ap (λ b. has q xs || (b || false)) other ∙ or_false (has q xs)

has_last_own : (call : ℕ) (xs : List ℕ) → has call (xs ++ call ∷ []) ≡ true
has_last_own call xs =
    let own : nat_eq call call ≡ true = grind (arith, nat_tests) in
    list_any-append (nat_eq call) xs (call ∷ []) ∙ ap (λ b. has call xs || (b || false)) own ∙ go (has call xs)
  where
    go : (b : Bool) → b || true ≡ true
    go true = refl
    go false = refl

pub stands_last : (q call : ℕ) (origin : Origin) (waits : Lists) → nat_eq call q ≡ false
    → stands_in q (with_last same_origin origin call waits) ≡ stands_in q waits
stands_last q call origin [] ne = ap (λ b. (b || false) || false) other
  where
    other : nat_eq q call ≡ false
    other = grind (arith, nat_tests, ne)
stands_last q call origin (e ∷ waits) ne = go (same_origin origin e.0) (stands_last q call origin waits ne)
  where
    go : (b : Bool) → stands_in q (with_last same_origin origin call waits) ≡ stands_in q waits
        → stands_in q (cond b
        ((e.0, unwrap_or (cond b (Some e.1) (lookup (same_origin origin) waits)) [] ++ call ∷ []) ∷ waits)
        (e ∷ insert_entry same_origin waits origin (unwrap_or (cond b (Some e.1) (lookup (same_origin origin) waits)) [] ++ call ∷ [])))
        ≡ has q e.1 || stands_in q waits
    go true rest = ap (λ b. b || stands_in q waits) (has_last q call e.1 ne)
    go false rest = ap (λ b. has q e.1 || b) rest

pub stands_last_own : (call : ℕ) (origin : Origin) (waits : Lists) → stands_in call (with_last same_origin origin call waits) ≡ true
stands_last_own call origin [] = ap (λ b. (b || false) || false) own
  where
    own : nat_eq call call ≡ true
    own = grind (arith, nat_tests)
stands_last_own call origin (e ∷ waits) = go (same_origin origin e.0) (stands_last_own call origin waits)
  where
    at_last : (b : Bool) → b || true ≡ true
    at_last true = refl
    at_last false = refl

    go : (b : Bool) → stands_in call (with_last same_origin origin call waits) ≡ true
        → stands_in call (cond b
        ((e.0, unwrap_or (cond b (Some e.1) (lookup (same_origin origin) waits)) [] ++ call ∷ []) ∷ waits)
        (e ∷ insert_entry same_origin waits origin (unwrap_or (cond b (Some e.1) (lookup (same_origin origin) waits)) [] ++ call ∷ [])))
        ≡ true
    go true rest = ap (λ b. b || stands_in call waits) (has_last_own call e.1)
    go false rest = ap (λ b. has call e.1 || b) rest ∙ at_last (has call e.1)

-- a call that stands no times stands in none
pub none_stands : (call : ℕ) (waits : Lists) → times_in call waits ≤ 0 → stands_in call waits ≡ false
none_stands call [] none = refl
none_stands call (e ∷ waits) none =
    let here : times call e.1 ≡ 0 = omega (arith, none) in
    let more : times_in call waits ≤ 0 = omega (arith, none) in
    ap (λ b. b || stands_in call waits) (none_has call e.1 here) ∙ none_stands call waits more

-- ---- how many origins

pub length_without : (call : ℕ) (waits : Lists) → length (all_without call waits) ≡ length waits
length_without call [] = refl
length_without call (e ∷ waits) = let rest = length_without call waits in omega (arith, rest)

pub length_without_calls : (gone : List ℕ) (waits : Lists) → length (all_without_calls gone waits) ≡ length waits
length_without_calls gone [] = refl
length_without_calls gone (e ∷ waits) = let rest = length_without_calls gone waits in omega (arith, rest)

length_inserted : (origin : Origin) (calls : List ℕ) (waits : Lists)
    → length (insert_entry same_origin waits origin calls) ≤ length waits + 1
length_inserted origin calls [] = omega arith
length_inserted origin calls (e ∷ waits) = go (same_origin origin e.0) (length_inserted origin calls waits)
  where
    go : (b : Bool) → length (insert_entry same_origin waits origin calls) ≤ length waits + 1
        → length (cond b ((e.0, calls) ∷ waits) (e ∷ insert_entry same_origin waits origin calls)) ≤ length (e ∷ waits) + 1
    go true rest = omega arith
    go false rest = omega (arith, rest)

pub length_last : (call : ℕ) (origin : Origin) (waits : Lists) → length (with_last same_origin origin call waits) ≤ length waits + 1
length_last call origin waits = length_inserted origin (calls_at (same_origin origin) waits ++ call ∷ []) waits

-- ---- a call that goes on

-- it waits then where it waits for an origin
pub stands_next : (waited : Bool) (call : ℕ) (origin : Option Origin) (waits : Lists) → stands_in call waits ≡ waited
    → stands_in call (waits_next waited call origin waits) ≡ is_some origin
stands_next false call None waits is = is
stands_next false call (Some origin) waits is = stands_last_own call origin waits
stands_next true call None waits is = stands_without_own call waits
stands_next true call (Some origin) waits is = is
