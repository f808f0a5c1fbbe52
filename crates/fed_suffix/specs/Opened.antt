-- A node without one of the nodes below it, for private clauses.
use Rattle.std.specs.Prelude.{◌≡◌, ℕ, zero, suc, ◌<◌, Bool, true, false, not, List, [], ◌∷◌, ◌++◌, length, set}
use Rattle.std.specs.Coded.{Coded, coded×, coded_ℕ, coded_list}
use Rattle.std.specs.List.{list_all}
use Rattle.std.specs.FinSet as finset
use Rattle.fed_suffix.specs.Rule.{RuleSet, rule_code}
use Rattle.fed_suffix.specs.Node.{below, has_rules, under}

-- the label of the node that was taken out, and the other rules
abbrev pub Opened : Type 0
Opened = List ℕ × RuleSet

abbrev pub opened_code : Coded Opened
opened_code = coded× (coded_list coded_ℕ) (finset.code rule_code)

-- the rules of a node with this label in front, and the others
abbrev pub closed : List ℕ → RuleSet → RuleSet → RuleSet
closed label node others = finset.from_list (under label (finset.items node) ++ finset.items others)

-- opened nodes, each with the next one below it, and the last with the node
abbrev pub all_closed : List Opened → RuleSet → RuleSet
all_closed [] node = node
all_closed (opened ∷ rest) node = closed opened.0 (all_closed rest node) opened.1

-- the labels that lead through the opened nodes
abbrev pub labels_to : List Opened → List (List ℕ)
labels_to [] = []
labels_to (opened ∷ rest) = opened.0 ∷ labels_to rest

-- the node has a rule, where it is to stand below another
abbrev pub fits : List Opened → RuleSet → Bool
fits [] node = true
fits (opened ∷ rest) node = has_rules node

-- no rule goes on with the first of the labels
abbrev pub goes_nowhere : RuleSet → List (List ℕ) → Bool
goes_nowhere node [] = true
goes_nowhere node (label ∷ labels) = not (has_rules (below node label))

-- the text of the label at a place
abbrev pub label_at : {X : Type 0} → (X → List ℕ) → List X → ℕ → List ℕ
label_at text [] place = []
label_at text (label ∷ labels) zero = text label
label_at text (label ∷ labels) (suc place) = label_at text labels place

-- one rule without labels
abbrev pub one_rule : RuleSet
one_rule = finset.insert finset.empty ([], false)

-- a node for each label, and a rule in each, but for the empty one that stands at the place
pub record IsOpened {X : Type 0} (labels : List X) (nodes : List RuleSet) (place : ℕ) : Type 0 where
  pub alike : length labels ≡ length nodes
  pub inside : place < length labels
  pub used : list_all has_rules (set nodes place one_rule) ≡ true
  pub hole : set nodes place finset.empty ≡ nodes

-- the node is opened at the label, and the node there apart
pub record IsOpening (whole : RuleSet) (label : List ℕ) (opened : Opened) (node : RuleSet) : Type 0 where
  pub same : closed opened.0 node opened.1 ≡ whole
  pub named : opened.0 ≡ label
  pub used : has_rules node ≡ true

-- the labels lead through the opened nodes to the node, but for the rest of them
pub record Leads (labels : List (List ℕ)) (whole : RuleSet) (above : List Opened) (node : RuleSet) (rest : List (List ℕ)) : Type 0 where
  pub same : all_closed above node ≡ whole
  pub way : labels_to above ++ rest ≡ labels
  pub used : fits above node ≡ true
