-- Parts of bytes hold no line end where the whole holds none.
use Rattle.std.proofs.Common.{◌≡◌, ℕ, ◌+◌, zero, suc, Bool, true, false, ◌||◌, List, [], ◌∷◌, take, drop, Option, Some, None, position}
use Rattle.std.proofs.Common.{option_map, refl, ap, arith}
use Rattle.std.specs.Prelude.{◌==◌}
use Rattle.std.specs.List.{list_any}
use Rattle.std.proofs.lemmas.Bool.Decides.{nat_tests}
use Rattle.fed_io.specs.Trim.{trimmed}
use Rattle.fed_cookie.specs.Bytes.{cut_at}
use Rattle.fed_cookie.specs.Fields.{is_refused, named_value}
use Rattle.fed_cookie.specs.SetCookie.{is_line_end}

neither : (a b : Bool) → (a || b) ≡ false → (a ≡ false) × (b ≡ false)
neither true b e = absurd (cc)
neither false b e = (refl, e)

both_false : (a b : Bool) → a ≡ false → b ≡ false → (a || b) ≡ false
both_false a b p q = rw (p, q) refl

pub any_take : (p : ℕ → Bool) (n : ℕ) (xs : List ℕ) → list_any p xs ≡ false → list_any p (take n xs) ≡ false
any_take p zero xs e = refl
any_take p (suc n) [] e = refl
any_take p (suc n) (x ∷ xs) e =
    let h = neither (p x) (list_any p xs) e in
    both_false _ _ h.0 (any_take p n xs h.1)

pub any_drop : (p : ℕ → Bool) (n : ℕ) (xs : List ℕ) → list_any p xs ≡ false → list_any p (drop n xs) ≡ false
any_drop p zero xs e = e
any_drop p (suc n) [] e = refl
any_drop p (suc n) (x ∷ xs) e = any_drop p n xs (neither (p x) (list_any p xs) e).1

pub any_trimmed : (p : ℕ → Bool) (xs : List ℕ) → list_any p xs ≡ false → list_any p (trimmed xs) ≡ false
unfolding trimmed
any_trimmed p xs e = any_take p _ _ (any_drop p _ xs e)

-- what is cut off holds none
cut_clean : (p : ℕ → Bool) (xs : List ℕ) (place : Option ℕ) (a b : List ℕ) → list_any p xs ≡ false
    → ◌≡◌ {A = Option (List ℕ × List ℕ)} (Some (a, b)) (option_map (λ i. (take i xs, drop (i + 1) xs)) place)
    → (list_any p a ≡ false) × (list_any p b ≡ false)
cut_clean p xs None a b e h = absurd (cc)
cut_clean p xs (Some i) a b e h =
    let both : ◌≡◌ {A = List ℕ × List ℕ} (a, b) (take i xs, drop (i + 1) xs) = cc in
    let l : a ≡ take i xs = ap (λ (r : List ℕ × List ℕ). r.0) both in
    let r : b ≡ drop (i + 1) xs = ap (λ (r : List ℕ × List ℕ). r.1) both in
    (rw l (any_take p i xs e), rw r (any_drop p (i + 1) xs e))

pub clean_cut : (p : ℕ → Bool) (byte : ℕ) (xs a b : List ℕ) → list_any p xs ≡ false
    → ◌≡◌ {A = Option (List ℕ × List ℕ)} (Some (a, b)) (cut_at byte xs)
    → (list_any p a ≡ false) × (list_any p b ≡ false)
clean_cut p byte xs a b e h = cut_clean p xs (position (λ c. c == byte) xs) a b e h

trimmed_clean : (p : ℕ → Bool) (xs : List ℕ) (place : Option ℕ) (a b : List ℕ) → list_any p xs ≡ false
    → ◌≡◌ {A =
    Option (List ℕ × List ℕ)} (Some (a, b)) (option_map (λ r. (trimmed r.0, trimmed r.1))
    (option_map {U = List ℕ × List ℕ} (λ i. (take i xs, drop (i + 1) xs)) place))
    → (list_any p a ≡ false) × (list_any p b ≡ false)
trimmed_clean p xs None a b e h = absurd (cc)
trimmed_clean p xs (Some i) a b e h =
    let both : ◌≡◌ {A = List ℕ × List ℕ} (a, b) (trimmed (take i xs), trimmed (drop (i + 1) xs)) = cc in
    let l : a ≡ trimmed (take i xs) = ap (λ (r : List ℕ × List ℕ). r.0) both in
    let r : b ≡ trimmed (drop (i + 1) xs) = ap (λ (r : List ℕ × List ℕ). r.1) both in
    (rw l (any_trimmed p _ (any_take p i xs e)), rw r (any_trimmed p _ (any_drop p (i + 1) xs e)))

-- name and value of a part hold none
pub clean_named : (p : ℕ → Bool) (xs a b : List ℕ) → list_any p xs ≡ false
    → ◌≡◌ {A = Option (List ℕ × List ℕ)} (Some (a, b)) (named_value xs)
    → (list_any p a ≡ false) × (list_any p b ≡ false)
clean_named p xs a b e h = trimmed_clean p xs (position (λ c. c == 61) xs) a b e h

one_refused : (b : ℕ) → is_refused b ≡ false → is_line_end b ≡ false
one_refused b e = grind (arith, nat_tests)

-- a field that is not refused holds none
pub clean_field : (xs : List ℕ) → list_any is_refused xs ≡ false → list_any is_line_end xs ≡ false
clean_field [] e = refl
clean_field (x ∷ xs) e =
    let h = neither (is_refused x) (list_any is_refused xs) e in
    both_false _ _ (one_refused x h.0) (clean_field xs h.1)
