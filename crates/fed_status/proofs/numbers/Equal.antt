-- Equal numbers and accounts are the same.
use Rattle.std.proofs.Common.{◌≡◌, ℕ, true, List, bytes_eq, nat_eq, eq-eqb, refl, sym, ap, subst}
use Rattle.std.specs.Bool.{Decides}
use Rattle.std.specs.Cmp.{IsEquivalence}
use Rattle.std.proofs.lemmas.Bool.Decides.{Decides-and, Decides-eqb, same_from_decides}
use Rattle.std.proofs.lemmas.Slice.Eq.{bytes_eq-Decides}
use Rattle.fed_status.specs.declared.names.Pair.{Pair}
use Rattle.fed_status.specs.Names.{same_pair}

pub same_pair_is : (a b : Pair) → same_pair a b ≡ true → a ≡ b
same_pair_is a b e =
    let t = (Decides-and _ _ (Decides-eqb a.page b.page) (Decides-eqb a.provider b.provider)).0 e in
    λ i. record { page = t.0 i; provider = t.1 i }

same_pair_self : (a : Pair) → same_pair a a ≡ true
same_pair_self a = (Decides-and _ _ (Decides-eqb a.page a.page) (Decides-eqb a.provider a.provider)).1 (refl, refl)

same_pair-Decides : (a b : Pair) → Decides (same_pair a b) (a ≡ b)
same_pair-Decides a b = (same_pair_is a b, λ e. subst (λ p. same_pair a p ≡ true) e (same_pair_self a))

pair_flips : (a b : Pair) → same_pair a b ≡ same_pair b a
pair_flips a b = same_from_decides (same_pair a b) (same_pair b a) (same_pair-Decides a b)
    ((λ e. sym (same_pair_is b a e)), (λ e. (same_pair-Decides b a).1 (sym e)))

pub pair_laws : IsEquivalence same_pair
pair_laws = record {
  refl = same_pair_self;
  symm = pair_flips;
  congr = λ x y z e. ap (λ p. same_pair p z) (same_pair_is x y e);
}

pub same_number_is : (a b : ℕ) → nat_eq a b ≡ true → a ≡ b
same_number_is a b = (Decides-eqb a b).0

number_flips : (a b : ℕ) → nat_eq a b ≡ nat_eq b a
number_flips a b = same_from_decides (nat_eq a b) (nat_eq b a) (Decides-eqb a b)
    ((λ e. sym ((Decides-eqb b a).0 e)), (λ e. (Decides-eqb b a).1 (sym e)))

pub number_laws : IsEquivalence nat_eq
number_laws = record {
  refl = λ x. eq-eqb x x refl;
  symm = number_flips;
  congr = λ x y z e. ap (λ n. nat_eq n z) (same_number_is x y e);
}

pub same_account_is : (a b : List ℕ) → bytes_eq a b ≡ true → a ≡ b
same_account_is a b = (bytes_eq-Decides a b).0

account_flips : (a b : List ℕ) → bytes_eq a b ≡ bytes_eq b a
account_flips a b = same_from_decides (bytes_eq a b) (bytes_eq b a) (bytes_eq-Decides a b)
    ((λ e. sym ((bytes_eq-Decides b a).0 e)), (λ e. (bytes_eq-Decides b a).1 (sym e)))

pub account_laws : IsEquivalence bytes_eq
account_laws = record {
  refl = λ a. (bytes_eq-Decides a a).1 refl;
  symm = account_flips;
  congr = λ x y z e. ap (λ a. bytes_eq a z) (same_account_is x y e);
}
