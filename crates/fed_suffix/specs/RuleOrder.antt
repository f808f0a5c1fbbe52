-- The order of rules tells all rules apart.
use Rattle.std.proofs.Common.{◌≡◌, ◌⊎◌, inl, inr, Bool, true, false, ◌&&◌, ◌||◌, List, refl, sym, ap}
use mathlib.Core.Bool.{true≢false}
use Rattle.std.specs.List.{list_any}
use Rattle.std.specs.Ordering.{eq_by_cmp, is_eq}
use Rattle.std.specs.Cmp.{IsTotalOrder, on_total, tied_itself, Equal-is}
use Rattle.std.specs.Cmp.Lexicographic.{lists_total, nat_list_cmp_total}
use Rattle.std.specs.FinSet.{IsAntisymmetric, nat_cmp-IsAntisymmetric, slice_cmp-IsAntisymmetric}
use Rattle.fed_suffix.specs.Rule.{Rule, rule_key, rule_cmp}

pub rule_cmp_total : IsTotalOrder rule_cmp
rule_cmp_total = on_total rule_key (lists_total nat_list_cmp_total)

same_key : (a b : Rule) → rule_key a ≡ rule_key b → a ≡ b
same_key (x, true) (y, true) e = cc
same_key (x, true) (y, false) e = cc
same_key (x, false) (y, true) e = cc
same_key (x, false) (y, false) e = cc

pub rule_cmp-IsAntisymmetric : IsAntisymmetric rule_cmp
rule_cmp-IsAntisymmetric a b e =
    same_key a b (slice_cmp-IsAntisymmetric (slice_cmp-IsAntisymmetric nat_cmp-IsAntisymmetric) _ _ e)

-- ---- tests

pub both : (a b : Bool) → a ≡ true → b ≡ true → (a && b) ≡ true
both true b p q = q
both false b p q = p

pub first_of_both : (a b : Bool) → (a && b) ≡ true → a ≡ true
first_of_both true b p = refl
first_of_both false b p = p

pub second_of_both : (a b : Bool) → (a && b) ≡ true → b ≡ true
second_of_both true b p = p
second_of_both false b p = absurd (true≢false (sym p))

pub one_of : (a b : Bool) → (a || b) ≡ true → (a ≡ true) ⊎ (b ≡ true)
one_of true b p = inl refl
one_of false b p = inr p

pub or_second : (a b : Bool) → b ≡ true → (a || b) ≡ true
or_second true b p = refl
or_second false b p = p

pub or_first : (a b : Bool) → a ≡ true → (a || b) ≡ true
or_first true b p = refl
or_first false b p = absurd (true≢false (sym p))

-- two tests that imply each other are equal
pub same_tests : (a b : Bool) → (a ≡ true → b ≡ true) → (b ≡ true → a ≡ true) → a ≡ b
same_tests true true f g = refl
same_tests true false f g = sym (f refl)
same_tests false true f g = g refl
same_tests false false f g = refl

-- ---- rules of a list

-- the rule is one of the list
abbrev pub is_among : List Rule → Rule → Bool
is_among rules rule = list_any (eq_by_cmp rule_cmp rule) rules

pub is_itself : (rule : Rule) → eq_by_cmp rule_cmp rule rule ≡ true
is_itself rule = ap is_eq (tied_itself rule_cmp_total rule)

pub same_rule : (a b : Rule) → eq_by_cmp rule_cmp a b ≡ true → a ≡ b
same_rule a b e = rule_cmp-IsAntisymmetric a b ((Equal-is (rule_cmp a b)).0 e)
