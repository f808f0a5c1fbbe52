-- Rules, and sets of rules.
use Rattle.std.specs.Prelude.{ℕ, Bool, true, false, ◌&&◌, List, [], ◌∷◌}
use Rattle.std.specs.Coded.{Coded, coded×, coded_ℕ, coded_bool, coded_list}
use Rattle.std.specs.Ordering.{nat_cmp, on}
use Rattle.std.specs.Cmp.Lexicographic.{slice_cmp}
use Rattle.std.specs.declared.cmp.Ordering.{Ordering}
use Rattle.std.specs.FinSet as set

-- a rule: its labels, from the right, and whether it is an exception
abbrev pub Rule : Type 0
Rule = List (List ℕ) × Bool

abbrev pub rule_code : Coded Rule
rule_code = coded× (coded_list (coded_list coded_ℕ)) coded_bool

-- one list that tells the rule: `!` stands in front of an exception
abbrev pub rule_key : Rule → List (List ℕ)
rule_key (labels, false) = [] ∷ labels
rule_key (labels, true) = (33 ∷ []) ∷ labels

-- the order in which a set holds its rules
abbrev pub rule_cmp : Rule → Rule → Ordering
rule_cmp = on rule_key (slice_cmp (slice_cmp nat_cmp))

-- a finite set of rules
abbrev pub RuleSet : Type 0
RuleSet = set.FinSet rule_cmp

-- each rule of one set is in the other
unfoldable pub same_rules : RuleSet → RuleSet → Bool
same_rules a b = set.is_subset a b && set.is_subset b a
