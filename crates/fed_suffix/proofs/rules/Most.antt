-- How many labels the longest rules that match have.
use Rattle.std.proofs.Common.{◌≡◌, ℕ, zero, suc, ◌-◌, ◌<◌, ◌≤◌, ◌⊎◌, inl, inr, max, Bool, true, false, cond, not, ◌&&◌, List, []}
use Rattle.std.proofs.Common.{◌∷◌, length, filter, codes, refl, sym, ap, ◌∙◌, subst, arith}
use mathlib.Core.Bool.{true≢false}
use Rattle.std.specs.FinSet as set
use Rattle.std.proofs.lemmas.Slice.Eq.{bytes_eq-Decides}
use Rattle.fed_suffix.specs.Rule.{Rule, RuleSet}
use Rattle.fed_suffix.specs.Registrable.{stands_for, matches, matching, exceptions, most_labels, suffix_len, suffix_len_of}
use Rattle.fed_suffix.specs.RuleOrder.{is_among, is_itself, same_rule, one_of, or_first, or_second}

pub stands_for_itself : (label : List ℕ) → stands_for label label ≡ true
stands_for_itself label = or_second _ _ ((bytes_eq-Decides label label).1 refl)

pub stands_for_cases : (label part : List ℕ) → stands_for label part ≡ true → (label ≡ codes "*") ⊎ (label ≡ part)
stands_for_cases label part stands =
    elim (one_of _ _ stands) [
      | inl star ↦ inl ((bytes_eq-Decides label (codes "*")).0 star)
      | inr same ↦ inr
          ((bytes_eq-Decides label part).0 same)
    ]

most_labels-cond : (most : ℕ) (rule : Rule) (rules : List Rule) (b : Bool) → (b ≡ true → length rule.0 ≤ most) → most_labels rules ≤ most
    → most_labels (cond b (rule ∷ rules) rules) ≤ most
most_labels-cond most rule rules true here rest = omega (arith, here refl)
most_labels-cond most rule rules false here rest = rest

pub most_labels_le : (test : Rule → Bool) (most : ℕ) (rules : List Rule)
    → ((rule : Rule) → is_among rules rule ≡ true → test rule ≡ true → length rule.0 ≤ most)
    → most_labels (filter test rules) ≤ most
most_labels_le test most [] bound = omega arith
most_labels_le test most (rule ∷ rules) bound =
    most_labels-cond most rule (filter test rules) (test rule) (bound rule (or_first _ _ (is_itself rule)))
    (most_labels_le test most rules (λ r among. bound r (or_second _ _ among)))

le_cond_here : (rule : Rule) (rules : List Rule) (b : Bool) → b ≡ true → length rule.0 ≤ most_labels (cond b (rule ∷ rules) rules)
le_cond_here rule rules true e = omega arith
le_cond_here rule rules false e = absurd (true≢false (sym e))

le_cond_rest : (n : ℕ) (rule : Rule) (rules : List Rule) (b : Bool) → n ≤ most_labels rules → n ≤ most_labels (cond b (rule ∷ rules) rules)
le_cond_rest n rule rules true l = omega arith
le_cond_rest n rule rules false l = l

pub le_most_labels : (test : Rule → Bool) (rule : Rule) (rules : List Rule) → is_among rules rule ≡ true → test rule ≡ true
    → length rule.0 ≤ most_labels (filter test rules)
le_most_labels test rule [] among passes = absurd (true≢false (sym among))
le_most_labels test rule (r ∷ rules) among passes =
    elim (one_of _ _ among) [
      | inl here ↦ subst (λ (x : Rule). length x.0 ≤ most_labels (filter test (r ∷ rules))) (sym (same_rule rule r here))
          (le_cond_here r (filter test rules) (test r) (ap test (sym (same_rule rule r here)) ∙ passes))
      | inr later ↦ le_cond_rest _ r (filter test rules) (test r) (le_most_labels test rule rules later passes)
    ]

-- the two are the same
abbrev pub same_bool : Bool → Bool → Bool
same_bool true b = b
same_bool false b = not b

pub same_bool_is : (a b : Bool) → same_bool a b ≡ true → b ≡ a
same_bool_is true b e = e
same_bool_is false true e = absurd (true≢false (sym e))
same_bool_is false false e = refl

pub same_bool_itself : (a : Bool) → same_bool a a ≡ true
same_bool_itself true = refl
same_bool_itself false = refl

-- the rule matches the name, and is an exception or not
abbrev pub matches_as : List (List ℕ) → Bool → Rule → Bool
matches_as name exception rule = matches name rule && same_bool exception rule.1

exceptions-cond : (rule : Rule) (rest : List Rule) (rules : List Rule) (a b : Bool)
    → filter (λ r. r.1) rest ≡ rules → rule.1 ≡ b → filter (λ r. r.1) (cond a (rule ∷ rest) rest) ≡ cond (a && b) (rule ∷ rules) rules
exceptions-cond rule rest rules true true e f =
    ap (λ c. cond c (rule ∷ filter (λ r. r.1) rest) (filter (λ r. r.1) rest)) f ∙ ap (λ l. rule ∷ l) e
exceptions-cond rule rest rules true false e f = ap (λ c. cond c (rule ∷ filter (λ r. r.1) rest) (filter (λ r. r.1) rest)) f ∙ e
exceptions-cond rule rest rules false b e f = e

exceptions-filter : (name : List (List ℕ)) (rules : List Rule)
    → exceptions (filter (matches name) rules) ≡ filter (matches_as name true) rules
exceptions-filter name [] = refl
exceptions-filter name (rule ∷ rules) = exceptions-cond rule _ _ (matches name rule) rule.1 (exceptions-filter name rules) refl

most-split : (rule : Rule) (all exceptions plain : List Rule) (a b : Bool)
    → most_labels all ≡ max (most_labels exceptions) (most_labels plain)
    → most_labels (cond a (rule ∷ all) all) ≡ max (most_labels (cond (a && b) (rule ∷ exceptions) exceptions)) (most_labels
    (cond (a && not b) (rule ∷ plain) plain))
most-split rule all exceptions plain true true e = omega arith
most-split rule all exceptions plain true false e = omega arith
most-split rule all exceptions plain false b e = e

-- the longest of all is the longest of the exceptions and the others
most_labels-filter : (name : List (List ℕ)) (rules : List Rule)
    → most_labels (filter (matches name) rules) ≡ max (most_labels (filter (matches_as name true) rules)) (most_labels
    (filter (matches_as name false) rules))
most_labels-filter name [] = refl
most_labels-filter name (rule ∷ rules) = most-split rule _ _ _ (matches name rule) rule.1 (most_labels-filter name rules)

suffix_len_of-max : (exception plain all : ℕ) → all ≡ max 1 (max exception plain)
    → suffix_len_of exception all ≡ suffix_len_of exception (max plain 1)
suffix_len_of-max zero plain all e = omega arith
suffix_len_of-max (suc exception) plain all e = refl

-- the suffix's length by the longest exception and the longest other rule
pub suffix_len-matching : (rules : RuleSet) (part : List ℕ) (name : List (List ℕ)) (exception plain : ℕ)
    → exception ≡ most_labels (filter (matches_as (part ∷ name) true) (set.items rules))
    → plain ≡ most_labels (filter (matches_as (part ∷ name) false) (set.items rules))
    → suffix_len (matching rules (part ∷ name)) ≡ suffix_len_of exception (max plain 1)
suffix_len-matching rules part name exception plain e f =
    let found = filter (matches (part ∷ name)) (set.items rules) in
    let exceptional : most_labels (exceptions found) ≡ exception =
    ap most_labels (exceptions-filter (part ∷ name) (set.items rules)) ∙ sym e in
    let all : max 1 (most_labels found) ≡ max 1 (max exception plain) =
    ap (λ n. max 1 n) (most_labels-filter (part ∷ name) (set.items rules) ∙ (λ i. max (sym e i) (sym f i))) in
    ap (λ n. suffix_len_of n (max 1 (most_labels found))) exceptional ∙ suffix_len_of-max exception plain _ all

pub suffix_len_of-some : (exception longest : ℕ) → 0 < exception → exception - 1 ≡ suffix_len_of exception longest
suffix_len_of-some zero longest l = absurd (omega arith)
suffix_len_of-some (suc n) longest l = omega arith

pub suffix_len_of-none : (exception longest : ℕ) → exception ≤ 0 → longest ≡ suffix_len_of exception longest
suffix_len_of-none zero longest l = refl
suffix_len_of-none (suc n) longest l = absurd (omega arith)
