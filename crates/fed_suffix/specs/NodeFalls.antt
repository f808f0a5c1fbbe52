-- What is left of rules below a node is shorter.
use Rattle.std.proofs.Common.{◌≡◌, ℕ, ◌+◌, ◌≤◌, ◌⊎◌, inl, inr, Bool, true, List, [], ◌∷◌, ◌++◌, length, max, sym, ap, ◌∙◌, subst, arith}
use mathlib.Core.Bool.{true≢false}
use denote.Param.Weighed.{most}
use Rattle.std.specs.List.{list_all}
use Rattle.std.specs.Ordering.{eq_by_cmp}
use Rattle.std.specs.FinSet as set
use Rattle.fed_suffix.specs.Rule.{Rule, RuleSet, rule_cmp}
use Rattle.fed_suffix.specs.RuleOrder.{rule_cmp_total, is_among, is_itself, same_rule, one_of, or_first, or_second}
use Rattle.fed_suffix.specs.RuleOrder.{first_of_both, second_of_both}
use Rattle.fed_suffix.specs.declared.form.Form.{Form}
use Rattle.fed_suffix.specs.declared.form.Form.TheVariants.{Leaf, One, Many}
use Rattle.fed_suffix.specs.declared.node.SuffixNode.TheDeep.{deep-Form}
use Rattle.fed_suffix.specs.Form.{labels_below, nodes_below, rules_by}
use Rattle.fed_suffix.specs.Node.{is_some_rule, has_rules, under, rules_under, ending, rules_of, IsNode, height}

-- no rule has more labels than the longest
height_le : (rules : List Rule) (rule : Rule) → is_among rules rule ≡ true → length rule.0 + 1 ≤ height rules
height_le [] rule among = absurd (true≢false (sym among))
height_le (r ∷ rules) rule among =
    by (one_of (eq_by_cmp rule_cmp rule r) (is_among rules rule) among) (height_le rules rule)
  where
    by : (eq_by_cmp rule_cmp rule r ≡ true) ⊎ (is_among rules rule ≡ true) → (is_among rules rule ≡ true → length rule.0 + 1 ≤ height rules)
        → length rule.0 + 1 ≤ height (r ∷ rules)
    by (inl here) rest = omega (arith, ap (λ (x : Rule). length x.0) (same_rule rule r here))
    by (inr later) rest = omega (arith, rest later)

height_rest : (most : ℕ) (rules : List Rule) → 1 ≤ most → ((rule : Rule) → is_among rules rule ≡ true → length rule.0 + 2 ≤ most)
    → height rules + 1 ≤ most
height_rest most [] some bound = omega (arith, some)
height_rest most (r ∷ rules) some bound =
    let here = bound r (or_first (eq_by_cmp rule_cmp r r) (is_among rules r) (is_itself r)) in
    let rest = height_rest most rules some
    (λ rule among. bound rule (or_second (eq_by_cmp rule_cmp rule r) (is_among rules rule) among)) in
    omega (arith, here, rest)

height_bound : (most : ℕ) (rules : List Rule) → is_some_rule rules ≡ true
    → ((rule : Rule) → is_among rules rule ≡ true → length rule.0 + 2 ≤ most) → height rules + 1 ≤ most
height_bound most [] used bound = absurd (true≢false (sym used))
height_bound most (r ∷ rules) used bound =
    let here = bound r (or_first (eq_by_cmp rule_cmp r r) (is_among rules r) (is_itself r)) in
    height_rest most (r ∷ rules) (omega (arith, here)) bound

among_under : (label : List ℕ) (rules : List Rule) (rule : Rule) → is_among rules rule ≡ true
    → is_among (under label rules) (label ∷ rule.0, rule.1) ≡ true
among_under label [] rule among = absurd (true≢false (sym among))
among_under label (r ∷ rules) rule among =
    by (one_of (eq_by_cmp rule_cmp rule r) (is_among rules rule) among) (among_under label rules rule)
  where
    by : (eq_by_cmp rule_cmp rule r ≡ true) ⊎ (is_among rules rule ≡ true)
        → (is_among rules rule ≡ true → is_among (under label rules) (label ∷ rule.0, rule.1) ≡ true)
        → is_among (under label (r ∷ rules)) (label ∷ rule.0, rule.1) ≡ true
    by (inl here) rest =
        or_first (eq_by_cmp rule_cmp (label ∷ rule.0, rule.1) (label ∷ r.0, r.1)) (is_among (under label rules) (label ∷ rule.0, rule.1))
        (subst (λ (x : Rule). eq_by_cmp rule_cmp (label ∷ rule.0, rule.1) (label ∷ x.0, x.1) ≡ true) (same_rule rule r here)
        (is_itself (label ∷ rule.0, rule.1)))
    by (inr later) rest =
        or_second (eq_by_cmp rule_cmp (label ∷ rule.0, rule.1) (label ∷ r.0, r.1)) (is_among (under label rules) (label ∷ rule.0, rule.1))
        (rest later)

among_first : (rules more : List Rule) (rule : Rule) → is_among rules rule ≡ true → is_among (rules ++ more) rule ≡ true
among_first [] more rule among = absurd (true≢false (sym among))
among_first (r ∷ rules) more rule among =
    by (one_of (eq_by_cmp rule_cmp rule r) (is_among rules rule) among) (among_first rules more rule)
  where
    by : (eq_by_cmp rule_cmp rule r ≡ true) ⊎ (is_among rules rule ≡ true)
        → (is_among rules rule ≡ true → is_among (rules ++ more) rule ≡ true) → is_among (r ∷ (rules ++ more)) rule ≡ true
    by (inl here) rest = or_first (eq_by_cmp rule_cmp rule r) (is_among (rules ++ more) rule) here
    by (inr later) rest = or_second (eq_by_cmp rule_cmp rule r) (is_among (rules ++ more) rule) (rest later)

among_second : (rules more : List Rule) (rule : Rule) → is_among more rule ≡ true → is_among (rules ++ more) rule ≡ true
among_second [] more rule among = among
among_second (r ∷ rules) more rule among =
    or_second (eq_by_cmp rule_cmp rule r) (is_among (rules ++ more) rule) (among_second rules more rule among)

lower : {X : Type 0} (text : X → List ℕ) (bound : ℕ) (labels : List X) (nodes : List RuleSet) → length labels ≡ length nodes
    → list_all has_rules nodes ≡ true
    → ((rule : Rule) → is_among (rules_under text labels nodes) rule ≡ true → length rule.0 + 1 ≤ bound)
    → most (λ node. height (set.items node) + 1) nodes ≤ bound
lower text bound [] [] alike used within = omega arith
lower text bound [] (node ∷ nodes) alike used within = absurd (omega (arith, alike))
lower text bound (label ∷ labels) [] alike used within = absurd (omega (arith, alike))
lower text bound (label ∷ labels) (node ∷ nodes) alike used within =
    let here = height_bound bound (set.items node) (first_of_both (has_rules node) (list_all has_rules nodes) used)
    (λ rule among. omega (
      arith,
      within (text label ∷ rule.0, rule.1)
          (among_first (under (text label) (set.items node)) (rules_under text labels nodes) (text label ∷ rule.0, rule.1)
          (among_under (text label) (set.items node) rule among)),
    )) in
    let rest = lower text bound labels nodes (omega (arith, alike)) (second_of_both (has_rules node) (list_all has_rules nodes) used)
    (λ rule among. within rule (among_second (under (text label) (set.items node)) (rules_under text labels nodes) rule among)) in
    omega (arith, here, rest)

lower_by_list : {X : Type 0} (text : X → List ℕ) (plain exception : Bool) (labels : List X) (nodes : List RuleSet)
    → IsNode labels nodes
    → max (most (λ node. height (set.items node) + 1) nodes) 0 ≤ height (set.items (rules_of text plain exception labels nodes))
lower_by_list text plain exception labels nodes is =
    let rules = rules_of text plain exception labels nodes in
    let bound : most (λ node. height (set.items node) + 1) nodes ≤ height (set.items rules) =
    lower text (height (set.items rules)) labels nodes is.alike is.used
    (λ rule among. height_le (set.items rules) rule
    (sym (set.contains-items rules rule)
    ∙ set.contains-from_list rule_cmp_total (ending plain exception ++ rules_under text labels nodes) rule
    ∙ among_second (ending plain exception) (rules_under text labels nodes) rule among)) in
    omega (arith, bound)

pub lower_below : (form : Form) → IsNode (labels_below form) (nodes_below form)
    → max (deep-Form form) 0 ≤ height (set.items (rules_by form))
lower_below (Leaf ends) is = omega arith
lower_below (One ends child) is =
    omega (arith, lower_by_list (λ label. label) ends.plain ends.exception (child.value.label ∷ []) (child.value.node ∷ []) is)
lower_below (Many ends children) is =
    omega (
      arith,
      lower_by_list (λ label. label) ends.plain ends.exception children.value.labels.keys children.value.nodes.items is,
    )
