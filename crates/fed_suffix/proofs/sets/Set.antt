-- Sets of rules: what is inside another, and the answers of a host and a line.
use Rattle.std.proofs.Common.{◌≡◌, ◌↔◌, ℕ, Bool, true, false, cond, ◌&&◌, ◌⊎◌, inl, inr, List, [], ◌∷◌, Option, None, option_map, unwrap_or}
use Rattle.std.proofs.Common.{Ok, IsTrue, refl, sym, ap, ◌∙◌}
use mathlib.Core.Bool.{true≢false}
use Rattle.std.specs.List.{list_all}
use Rattle.std.specs.Ordering.{eq_by_cmp}
use Rattle.std.specs.FinSet as set
use Rattle.fed_origin.specs.declared.host.HostKind.TheVariants.{Name, V4, V6}
use Rattle.fed_origin.specs.Host.{host_kind}
use Rattle.fed_suffix.specs.Label.{labels_of, name_of}
use Rattle.fed_suffix.specs.Rule.{Rule, RuleSet, rule_cmp, same_rules}
use Rattle.fed_suffix.specs.RuleLine.{rule_text, is_skipped, rule_of, with_rule, rules_after}
use Rattle.fed_suffix.specs.Registrable.{registrable_labels, registrable_of, registrable, party}
use Rattle.fed_suffix.specs.RuleOrder.{rule_cmp_total, rule_cmp-IsAntisymmetric, both, first_of_both, second_of_both}
use Rattle.fed_suffix.specs.RuleOrder.{one_of, or_first, or_second, same_tests, same_rule, is_itself, is_among}

-- each of the list passes, and so does one of the list
passes_among : (test : Rule → Bool) (rule : Rule) (rules : List Rule) → list_all test rules ≡ true → is_among rules rule ≡ true
    → test rule ≡ true
passes_among test rule [] all among = absurd (true≢false (sym among))
passes_among test rule (r ∷ rules) all among =
    by (one_of _ _ among) (λ later. passes_among test rule rules (second_of_both _ _ all) later)
  where
    by : (eq_by_cmp rule_cmp rule r ≡ true) ⊎ (is_among rules rule ≡ true) → (is_among rules rule ≡ true → test rule ≡ true)
        → test rule ≡ true
    by (inl here) rest = ap test (same_rule rule r here) ∙ first_of_both _ _ all
    by (inr later) rest = rest later

all_pass : (test : Rule → Bool) (rules : List Rule) → ((rule : Rule) → is_among rules rule ≡ true → test rule ≡ true)
    → list_all test rules ≡ true
all_pass test [] each = refl
all_pass test (r ∷ rules) each =
    both _ _ (each r (or_first _ _ (is_itself r))) (all_pass test rules (λ rule among. each rule (or_second _ _ among)))

-- a set that was made of a list is inside another where each of the list is
pub is_subset-from_list : (rules : List Rule) (other : RuleSet)
    → list_all (λ rule. set.contains other rule) rules ≡ set.is_subset (set.from_list {R = rule_cmp} rules) other
is_subset-from_list rules other =
    same_tests _ _
    (λ all. set.contains-is_subset rule_cmp_total (set.from_list rules) other
    (λ rule there. passes_among (λ r. set.contains other r) rule rules all (sym (set.contains-from_list rule_cmp_total rules rule)
    ∙ there)))
    (λ inside. all_pass (λ r. set.contains other r) rules
    (λ rule among. set.is_subset-contains rule_cmp_total (set.from_list rules) other inside rule
    (set.contains-from_list rule_cmp_total rules rule ∙ among)))

-- the test of two sets decides whether they are equal
pub same_rules-equal : (a b : RuleSet) → same_rules a b ≡ true → a ≡ b
unfolding same_rules
same_rules-equal a b same =
    set.same_set rule_cmp_total rule_cmp-IsAntisymmetric a b
    (λ rule. same_tests _ _
    (set.is_subset-contains rule_cmp_total a b (first_of_both _ _ same) rule)
    (set.is_subset-contains rule_cmp_total b a (second_of_both _ _ same) rule))

pub same_rules-itself : (a : RuleSet) → same_rules a a ≡ true
unfolding same_rules
same_rules-itself a =
    let inside = set.contains-is_subset rule_cmp_total a a (λ rule there. there) in
    both _ _ inside inside

pub same_rules-from_equal : (a b : RuleSet) → a ≡ b → same_rules a b ≡ true
same_rules-from_equal a b e = ap (λ s. same_rules a s) (sym e) ∙ same_rules-itself a

pub same_rules-then : (a b : RuleSet) → set.is_subset a b ≡ true → set.is_subset b a ≡ same_rules a b
unfolding same_rules
same_rules-then a b inside = ap (λ t. t && set.is_subset b a) (sym inside)

pub same_rules-else : (a b : RuleSet) → set.is_subset a b ≡ false → false ≡ same_rules a b
unfolding same_rules
same_rules-else a b outside = ap (λ t. t && set.is_subset b a) (sym outside)

pub tells_equal : (a b : RuleSet) (answer : Bool) → answer ≡ same_rules a b → IsTrue answer ↔ (a ≡ b)
tells_equal a b true e = (λ _. same_rules-equal a b (sym e), λ _. refl)
tells_equal a b false e = (λ h. absurd (true≢false (sym h)), λ same. absurd (true≢false (sym (same_rules-from_equal a b same) ∙ sym e)))

-- ---- hosts

pub registrable-name : (rules : RuleSet) (host : List ℕ) → host_kind host ≡ Name
    → registrable rules host ≡ option_map name_of (registrable_labels rules (labels_of host))
unfolding registrable
registrable-name rules host e = ap (λ kind. registrable_of kind rules host) e

pub registrable-V4 : (rules : RuleSet) (host : List ℕ) → host_kind host ≡ V4 → registrable rules host ≡ None
unfolding registrable
registrable-V4 rules host e = ap (λ kind. registrable_of kind rules host) e

pub registrable-V6 : (rules : RuleSet) (host : List ℕ) → host_kind host ≡ V6 → registrable rules host ≡ None
unfolding registrable
registrable-V6 rules host e = ap (λ kind. registrable_of kind rules host) e

pub party-by : (rules : RuleSet) (host : List ℕ) (domain : Option (List ℕ)) → domain ≡ registrable rules host
    → unwrap_or domain host ≡ party rules host
unfolding party
party-by rules host domain e = ap (λ o. unwrap_or o host) e

-- ---- lines

pub rules_after-skipped : (rules : RuleSet) (line : List ℕ) → is_skipped (rule_text line) ≡ true → rules_after rules line ≡ Ok rules
unfolding rules_after
rules_after-skipped rules line e = ap (λ b. cond b (Ok rules) (with_rule rules (rule_of (rule_text line)))) e

pub rules_after-read : (rules : RuleSet) (line : List ℕ) (rule : Option Rule) → is_skipped (rule_text line) ≡ false
    → rule ≡ rule_of (rule_text line) → rules_after rules line ≡ with_rule rules rule
unfolding rules_after
rules_after-read rules line rule e f =
    ap (λ b. cond b (Ok rules) (with_rule rules (rule_of (rule_text line)))) e ∙ ap (with_rule rules) (sym f)
