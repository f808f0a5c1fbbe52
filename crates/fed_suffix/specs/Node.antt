-- The tree of rules by its nodes: a node is the set of what is left of the rules that lead through it.
use Rattle.std.specs.Prelude.{◌≡◌, ℕ, ◌+◌, Bool, true, false, List, [], ◌∷◌, ◌++◌, length, max, bytes_eq, Option, Some, None}
use Rattle.std.specs.Prelude.{if◌then◌else◌}
use Rattle.std.specs.List.{list_all}
use Rattle.std.specs.FinSet as set
use Rattle.fed_suffix.specs.Rule.{Rule, RuleSet}

-- the rest of a rule that goes on with the label, before the others
abbrev pub with_rest : List ℕ → Rule → List Rule → List Rule
with_rest label ([], exception) rests = rests
with_rest label (next ∷ labels, exception) rests = if bytes_eq label next then (labels, exception) ∷ rests else rests

-- what is left of each rule that goes on with the label
abbrev pub rests_after : List ℕ → List Rule → List Rule
rests_after label [] = []
rests_after label (rule ∷ rules) = with_rest label rule (rests_after label rules)

-- the set of what is left of the rules that go on with the label
abbrev pub below : RuleSet → List ℕ → RuleSet
below rules label = set.from_list (rests_after label (set.items rules))

abbrev pub is_some_rule : List Rule → Bool
is_some_rule [] = false
is_some_rule (rule ∷ rules) = true

-- there is a rule in the set
abbrev pub has_rules : RuleSet → Bool
has_rules rules = is_some_rule (set.items rules)

-- the node to which a label leads, where a rule goes on with it
abbrev pub child : RuleSet → List ℕ → Option RuleSet
child rules label = if has_rules (below rules label) then Some (below rules label) else None

-- whether a rule ends at the node
abbrev pub ends : RuleSet → Bool → Bool
ends rules exception = set.contains rules ([], exception)

-- ---- for private clauses: the fields of a node

-- the rules with this label in front
abbrev pub under : List ℕ → List Rule → List Rule
under label [] = []
under label (rule ∷ rules) = (label ∷ rule.0, rule.1) ∷ under label rules

-- the rules that go on from a node: those of each node below it, with its label in front
abbrev pub rules_under : {X : Type 0} → (X → List ℕ) → List X → List RuleSet → List Rule
rules_under text [] nodes = []
rules_under text (label ∷ labels) [] = []
rules_under text (label ∷ labels) (node ∷ nodes) = under (text label) (set.items node) ++ rules_under text labels nodes

-- the rules that end at a node
abbrev pub ending : Bool → Bool → List Rule
ending true true = ([], false) ∷ ([], true) ∷ []
ending true false = ([], false) ∷ []
ending false true = ([], true) ∷ []
ending false false = []

-- all rules of a node
abbrev pub rules_of : {X : Type 0} → (X → List ℕ) → Bool → Bool → List X → List RuleSet → RuleSet
rules_of text plain exception labels nodes = set.from_list (ending plain exception ++ rules_under text labels nodes)

-- a node for each label, and a rule in each
pub record IsNode {X : Type 0} (labels : List X) (nodes : List RuleSet) : Type 0 where
  pub alike : length labels ≡ length nodes
  pub used : list_all has_rules nodes ≡ true

-- one more than the labels of the longest rule, 0 where there is none
abbrev pub height : List Rule → ℕ
height [] = 0
height (rule ∷ rules) = max (length rule.0 + 1) (height rules)
