-- Those with the largest number go first, and then the others in their order.
use Rattle.std.proofs.Common.{◌≡◌, ℕ, ◌≤◌, Bool, true, false, cond, not, List, [], ◌∷◌, ◌++◌, refl, ap, ◌∙◌, arith}
use Rattle.std.specs.Prelude.{nat_le, filter, ◌==◌}
use Rattle.std.specs.List.{AllByRecursion}
use Rattle.std.proofs.lemmas.Bool.Decides.{nat_tests}
use Rattle.fed_jar.specs.Cookie.{StoredCookie}
use Rattle.fed_jar.specs.Send.{put_by, largest_first, longest_path, path_length}
use Rattle.fed_jar.proofs.order.Order.{all_in_order}

goes_first : (a m b : ℕ) → (a == m) ≡ true → b ≤ m → nat_le b a ≡ true
goes_first a m b e le = grind (arith, nat_tests)

goes_later : (a m b : ℕ) → (a == m) ≡ false → a ≤ m → (b == m) ≡ true → nat_le b a ≡ false
goes_later a m b e le f = grind (arith, nat_tests)

-- an item with the largest number goes before all others
before_all : {X : Type 0} (n : X → ℕ) (m : ℕ) (x : X) (ys : List X) → (n x == m) ≡ true → AllByRecursion (λ y. n y ≤ m) ys
    → put_by (λ a b. nat_le (n b) (n a)) x ys ≡ x ∷ ys
before_all n m x [] e all = refl
before_all n m x (y ∷ ys) e all =
    ap (λ b. cond b (x ∷ y ∷ ys) (y ∷ put_by (λ a b. nat_le (n b) (n a)) x ys)) (goes_first (n x) m (n y) e all.0)

-- and another goes past those with it
past_them : {X : Type 0} (n : X → ℕ) (m : ℕ) (x : X) (ys zs : List X) → (n x == m) ≡ false → n x ≤ m
    → AllByRecursion (λ y. (n y == m) ≡ true) ys
    → put_by (λ a b. nat_le (n b) (n a)) x (ys ++ zs) ≡ ys ++ put_by (λ a b. nat_le (n b) (n a)) x zs
past_them n m x [] zs e le all = refl
past_them n m x (y ∷ ys) zs e le all =
    ap (λ b. cond b (x ∷ y ∷ (ys ++ zs)) (y ∷ put_by (λ a b. nat_le (n b) (n a)) x (ys ++ zs))) (goes_later (n x) m (n y) e le all.0)
    ∙ ap (λ l. y ∷ l) (past_them n m x ys zs e le all.1)

all_kept : {X : Type 0} (p : X → Bool) (xs : List X) → AllByRecursion (λ x. p x ≡ true) (filter p xs)
all_kept p [] = tt
all_kept {X} p (x ∷ xs) = pick (p x) refl (all_kept p xs)
  where
    pick : (b : Bool) → p x ≡ b → AllByRecursion (λ y. p y ≡ true) (filter p xs)
        → AllByRecursion (λ y. p y ≡ true) (cond b (x ∷ filter p xs) (filter p xs))
    pick true e all = (e, all)
    pick false e all = all

pub largest_apart : {X : Type 0} (n : X → ℕ) (m : ℕ) (xs : List X) → AllByRecursion (λ x. n x ≤ m) xs
    → largest_first n xs ≡ filter (λ x. n x == m) xs ++ largest_first n (filter (λ x. not (n x == m)) xs)
largest_apart n m [] all = refl
largest_apart {X} n m (x ∷ xs) all = pick (n x == m) refl (largest_apart n m xs all.1)
  where
    pick : (b : Bool) → (n x == m) ≡ b
        → largest_first n xs ≡ filter (λ x. n x == m) xs ++ largest_first n (filter (λ x. not (n x == m)) xs)
        → put_by (λ a b. nat_le (n b) (n a)) x (largest_first n xs)
        ≡ cond b (x ∷ filter (λ x. n x == m) xs) (filter (λ x. n x == m) xs)
        ++ largest_first n (cond (not b) (x ∷ filter (λ x. not (n x == m)) xs) (filter (λ x. not (n x == m)) xs))
    pick true e h =
        before_all n m x (largest_first n xs) e (all_in_order (λ y. n y ≤ m) (λ a b. nat_le (n b) (n a)) xs all.1)
        ∙ ap (λ l. x ∷ l) h
    pick false e h =
        ap (put_by (λ a b. nat_le (n b) (n a)) x) h
        ∙ past_them n m x (filter (λ x. n x == m) xs) (largest_first n (filter (λ x. not (n x == m)) xs)) e all.0
        (all_kept (λ x. n x == m) xs)

more_room : (a b : ℕ) (cs : List StoredCookie) → a ≤ b → AllByRecursion (λ c. path_length c ≤ a) cs
    → AllByRecursion (λ c. path_length c ≤ b) cs
more_room a b [] le all = tt
more_room a b (c ∷ cs) le all = (omega (arith, le, all.0), more_room a b cs le all.1)

-- no path is longer than the longest
pub none_longer : (cs : List StoredCookie) → AllByRecursion (λ c. path_length c ≤ longest_path cs) cs
none_longer [] = tt
none_longer (c ∷ cs) = (omega arith, more_room (longest_path cs) (longest_path (c ∷ cs)) cs (omega arith) (none_longer cs))
