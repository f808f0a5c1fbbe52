-- What ends at a node, and the nodes below it with their labels, however they are held, for private clauses.
use Rattle.std.specs.Prelude.{ℕ, List, [], ◌∷◌}
use Rattle.fed_suffix.specs.Rule.{RuleSet}
use Rattle.fed_suffix.specs.Node.{rules_of}
use Rattle.fed_suffix.specs.declared.form.Ends.{Ends}
use Rattle.fed_suffix.specs.declared.form.Form.{Form}
use Rattle.fed_suffix.specs.declared.form.Form.TheVariants.{Leaf, One, Many}

abbrev pub ends_of : Form → Ends
ends_of (Leaf ends) = ends
ends_of (One ends child) = ends
ends_of (Many ends children) = ends

abbrev pub labels_below : Form → List (List ℕ)
labels_below (Leaf ends) = []
labels_below (One ends child) = child.value.label ∷ []
labels_below (Many ends children) = children.value.labels.keys

abbrev pub nodes_below : Form → List RuleSet
nodes_below (Leaf ends) = []
nodes_below (One ends child) = child.value.node ∷ []
nodes_below (Many ends children) = children.value.nodes.items

-- all rules of a node of this form
abbrev pub rules_by : Form → RuleSet
rules_by form = rules_of (λ label. label) (ends_of form).plain (ends_of form).exception (labels_below form) (nodes_below form)

-- one node is below
abbrev pub IsOne : Form → Type 0
IsOne (Leaf ends) = ⊥
IsOne (One ends child) = Unit {0}
IsOne (Many ends children) = ⊥
