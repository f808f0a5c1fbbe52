-- The numbers of origins: equal numbers are those of equal origins.
use Rattle.std.proofs.Common.{◌≡◌, ℕ, Bool, true, false, ◌&&◌, ◌==◌, List, [], ◌∷◌, get_or, Option, Some, None, is_some}
use Rattle.std.proofs.Common.{◌^◌, nat_lt, if◌then◌else◌, option_map, option_and_then}
use Rattle.std.proofs.Common.{bytes_eq, eq-eqb, refl, sym, ap, ◌∙◌}
use borrow.Author.Tests.{eqb-true}
use Rattle.std.specs.List.{position}
use Rattle.std.specs.Option.{option_map_or}
use Rattle.std.proofs.lemmas.Bool.Decides.{same_from_decides}
use Rattle.std.proofs.lemmas.List.Quantifiers.{position-Some}
use Rattle.fed_origin.specs.declared.origin.Origin.{Origin}
use Rattle.fed_origin.specs.declared.status.Triple.{Triple}
use Rattle.fed_origin.specs.Origin.{same_origin}
use Rattle.fed_origin.specs.Status.{same_triple}
use Rattle.fed_status.specs.declared.names.Names.{Names}
use Rattle.fed_status.specs.declared.names.Pair.{Pair}
use Rattle.fed_status.specs.Kept.{is_of_pair}
use Rattle.fed_status.specs.Names.{small, same_pair, origin_number, pair_of, is_numbered, is_for, HasNumbers, Grows}
use Rattle.fed_status.proofs.lists.Same.{same_origin_is, same_origin-Decides}
use Rattle.fed_status.proofs.numbers.Equal.{same_pair_is, same_account_is}

-- a number that 32 bits hold is the number
numbered : (o : Option ℕ) (n : ℕ) → option_and_then small o ≡ Some n → o ≡ Some n
numbered None n e = cc
numbered (Some m) n e = by (nat_lt m (2 ^ 32)) e
  where
    by : (b : Bool) → (if b then Some m else None) ≡ Some n → Some m ≡ Some n
    by true f = f
    by false f = cc

-- what keeps its number keeps it in 32 bits
stays : (old new : Option ℕ) (n : ℕ) → (old ≡ Some n → new ≡ Some n) → option_and_then small old ≡ Some n
    → option_and_then small new ≡ Some n
stays old new n keeps e =
    let was : old ≡ Some n = numbered old n e in
    ap (option_and_then small) (keeps was ∙ sym was) ∙ e

-- what passes at the first place of two tests
position-both : {X : Type 0} (p q : X → Bool) (xs : List X) (i : ℕ) → position p xs ≡ Some i → position q xs ≡ Some i
    → (x : X) × (p x ≡ true) × (q x ≡ true)
position-both p q [] i e f = cc
position-both p q (x ∷ xs) i e f =
    (get_or (x ∷ xs) i x, (position-Some p (x ∷ xs) i x e).1, (position-Some q (x ∷ xs) i x f).1)

-- two with one number are the same
one_numbered : (names : Names) (a b : Origin) (i : ℕ) → origin_number names a ≡ Some i → origin_number names b ≡ Some i → a ≡ b
one_numbered names a b i e f =
    let both = position-both (same_origin a) (same_origin b) names.origins.keys i
    (numbered (position (same_origin a) names.origins.keys) i e) (numbered (position (same_origin b) names.origins.keys) i f) in
    same_origin_is a both.0 both.1 ∙ sym (same_origin_is b both.0 both.2)

some_one : {A : Type 0} (x y : A) → Some x ≡ Some y → x ≡ y
some_one x y e = cc

-- numbers are equal exactly where what has them is
number_agrees : (names : Names) (a b : Origin) (i j : ℕ) → origin_number names a ≡ Some i → origin_number names b ≡ Some j
    → (i == j) ≡ same_origin a b
number_agrees names a b i j e f =
    same_from_decides (i == j) (same_origin a b) (
      λ t. one_numbered names a b j (e ∙ ap (λ n. Some n) (eqb-true i j t)) f,
      λ t. eq-eqb i j (some_one i j (sym e ∙ ap (origin_number names) t ∙ f)),
    )
    (same_origin-Decides a b)

-- what has no number is not what has one
number_absent : (names : Names) (a b : Origin) (j : ℕ) → origin_number names a ≡ None → origin_number names b ≡ Some j
    → same_origin a b ≡ false
number_absent names a b j e f = by (same_origin a b) refl
  where
    by : (t : Bool) → same_origin a b ≡ t → same_origin a b ≡ false
    by false t = t
    by true t =
        let none : None ≡ Some j = sym e ∙ ap (origin_number names) (same_origin_is a b t) ∙ f in
        cc

-- ---- pairs

-- each part of the pair has its number
pub record HasPairNumbers (names : Names) (a b : Origin) (pair : Pair) : Type 0 where
  pub page : origin_number names a ≡ Some pair.page
  pub provider : origin_number names b ≡ Some pair.provider

abbrev made : Option ℕ → Option ℕ → Option Pair
made p q = option_and_then (λ page. option_map (λ provider. record { page = page; provider = provider }) q) p

pair_numbers : (names : Names) (page provider : Origin) (pair : Pair) → pair_of names page provider ≡ Some pair
    → HasPairNumbers names page provider pair
pair_numbers names page provider pair e = by (origin_number names page) (origin_number names provider) refl refl e
  where
    by : (p q : Option ℕ) → origin_number names page ≡ p → origin_number names provider ≡ q → made p q ≡ Some pair
        → HasPairNumbers names page provider pair
    by None q e f h = cc
    by (Some x) None e f h = cc
    by (Some x) (Some y) e f h =
        let one : record { page = x; provider = y } ≡ pair = cc in
        record {
          page = e ∙ ap (λ (p : Pair). Some p.page) one;
          provider = f ∙ ap (λ (p : Pair). Some p.provider) one;
        }

-- the numbers of a permission's pair
pub numbers_of : (names : Names) (entry : ℕ × Triple) → HasNumbers names entry
    → (pair : Pair) × (pair_of names entry.1.page entry.1.provider ≡ Some pair)
numbers_of names entry has = by (pair_of names entry.1.page entry.1.provider) refl has
  where
    by : (o : Option Pair) → pair_of names entry.1.page entry.1.provider ≡ o → is_some o ≡ true
        → (pair : Pair) × (pair_of names entry.1.page entry.1.provider ≡ Some pair)
    by None e h = cc
    by (Some pair) e h = (pair, e)

-- the numbers of a pair are those of a permission exactly where the permission is of the pair
pub pair_agrees : (names : Names) (page provider : Origin) (pair : Pair) → pair_of names page provider ≡ Some pair
    → (entry : ℕ × Triple) → HasNumbers names entry → is_numbered names pair entry.1 ≡ is_of_pair page provider entry.1
pair_agrees names page provider pair e entry has =
    let there = numbers_of names entry has in
    let h = pair_numbers names page provider pair e in
    let k = pair_numbers names entry.1.page entry.1.provider there.0 there.1 in
    rw (
      there.1,
      number_agrees names page entry.1.page pair.page there.0.page h.page k.page,
      number_agrees names provider entry.1.provider pair.provider there.0.provider h.provider k.provider,
    ) refl

-- a pair without numbers is that of no permission
pub pair_absent : (names : Names) (page provider : Origin) → pair_of names page provider ≡ None
    → (entry : ℕ × Triple) → HasNumbers names entry → is_of_pair page provider entry.1 ≡ false
pair_absent names page provider e entry has = by (origin_number names page) (origin_number names provider) refl refl e
  where
    there : (pair : Pair) × (pair_of names entry.1.page entry.1.provider ≡ Some pair)
    there = numbers_of names entry has

    numbers : HasPairNumbers names entry.1.page entry.1.provider there.0
    numbers = pair_numbers names entry.1.page entry.1.provider there.0 there.1

    and_false : (b : Bool) → (b && false) ≡ false
    and_false true = refl
    and_false false = refl

    by : (p q : Option ℕ) → origin_number names page ≡ p → origin_number names provider ≡ q → made p q ≡ None
        → is_of_pair page provider entry.1 ≡ false
    by None q e f h = rw (number_absent names page entry.1.page there.0.page e numbers.page) refl
    by (Some x) None e f h =
        rw (number_absent names provider entry.1.provider there.0.provider f numbers.provider) (and_false (same_origin page entry.1.page))
    by (Some x) (Some y) e f h = cc

-- and with the account they are those of the permission
pub for_agrees : (names : Names) (triple : Triple) (pair : Pair) → pair_of names triple.page triple.provider ≡ Some pair
    → (entry : ℕ × Triple) → HasNumbers names entry → is_for names pair triple.account entry.1 ≡ same_triple triple entry.1
for_agrees names triple pair e entry has =
    ap (λ b. b && bytes_eq triple.account entry.1.account) (pair_agrees names triple.page triple.provider pair e entry has)
    ∙ by (same_origin triple.page entry.1.page) (same_origin triple.provider entry.1.provider)
  where
    by : (x y : Bool) → ((x && y) && bytes_eq triple.account entry.1.account) ≡ (x && (y && bytes_eq triple.account entry.1.account))
    by true y = refl
    by false y = refl

pub triple_absent : (names : Names) (triple : Triple) → pair_of names triple.page triple.provider ≡ None
    → (entry : ℕ × Triple) → HasNumbers names entry → same_triple triple entry.1 ≡ false
triple_absent names triple e entry has =
    by (same_origin triple.page entry.1.page) (same_origin triple.provider entry.1.provider)
    (pair_absent names triple.page triple.provider e entry has)
  where
    by : (x y : Bool) → (x && y) ≡ false → (x && (y && bytes_eq triple.account entry.1.account)) ≡ false
    by true true h = cc
    by true false h = refl
    by false y h = refl

-- ---- permissions of a pair with these numbers

-- two tests that are both passed
pub both : (x y : Bool) → (x && y) ≡ true → (x ≡ true) × (y ≡ true)
both true true e = (refl, refl)
both true false e = cc
both false y e = cc

pub pair_is : (names : Names) (pair : Pair) (triple : Triple) → is_numbered names pair triple ≡ true
    → pair_of names triple.page triple.provider ≡ Some pair
pair_is names pair triple e = by (pair_of names triple.page triple.provider) refl e
  where
    by : (o : Option Pair) → pair_of names triple.page triple.provider ≡ o → option_map_or (same_pair pair) o false ≡ true
        → pair_of names triple.page triple.provider ≡ Some pair
    by None f h = cc
    by (Some there) f h = f ∙ ap (λ p. Some p) (sym (same_pair_is pair there h))

pub is_its_pair : (names : Names) (pair other : Pair) (triple : Triple) → pair_of names triple.page triple.provider ≡ Some pair
    → is_numbered names other triple ≡ same_pair other pair
is_its_pair names pair other triple e = ap (λ o. option_map_or (same_pair other) o false) e

-- permissions of one pair for one account are the same
pub for_one : (names : Names) (pair : Pair) (account : List ℕ) (a b : Triple) → is_for names pair account a ≡ true
    → is_for names pair account b ≡ true → a ≡ b
for_one names pair account a b e f =
    let of_a = both (is_numbered names pair a) (bytes_eq account a.account) e in
    let of_b = both (is_numbered names pair b) (bytes_eq account b.account) f in
    let h = pair_numbers names a.page a.provider pair (pair_is names pair a of_a.0) in
    let k = pair_numbers names b.page b.provider pair (pair_is names pair b of_b.0) in
    let page : a.page ≡ b.page = one_numbered names a.page b.page pair.page h.page k.page in
    let provider : a.provider ≡ b.provider = one_numbered names a.provider b.provider pair.provider h.provider k.provider in
    let accounts : a.account ≡ b.account =
    sym (same_account_is account a.account of_a.1) ∙ same_account_is account b.account of_b.1 in
    λ i. record { page = page i; provider = provider i; account = accounts i }

-- names that come leave the numbers of permissions
pub stay_numbered : (old new : Names) → Grows old new → (entry : ℕ × Triple) → HasNumbers old entry
    → pair_of new entry.1.page entry.1.provider ≡ pair_of old entry.1.page entry.1.provider
stay_numbered old new grows entry has =
    let there = numbers_of old entry has in
    let h = pair_numbers old entry.1.page entry.1.provider there.0 there.1 in
    let page : origin_number new entry.1.page ≡ Some there.0.page =
    stays _ _ there.0.page (grows entry.1.page there.0.page) h.page in
    let provider : origin_number new entry.1.provider ≡ Some there.0.provider =
    stays _ _ there.0.provider (grows entry.1.provider there.0.provider) h.provider in
    ap (λ p. made p (origin_number new entry.1.provider)) page ∙ ap (made (Some there.0.page)) provider ∙ sym there.1
