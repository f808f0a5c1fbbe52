-- The walk from a node by the labels of a name.
use Rattle.std.specs.Prelude.{ℕ, ◌+◌, Bool, List, [], ◌∷◌, max, codes, bytes_eq, Option, None, if◌then◌else◌}
use Rattle.std.specs.Option.{option_map_or}
use Rattle.fed_suffix.specs.Rule.{RuleSet}
use Rattle.fed_suffix.specs.Node.{child, ends}

-- how many labels the rule has that ends at a node to which `depth` labels lead, 0 if none does
abbrev pub ending_at : RuleSet → Bool → ℕ → ℕ
ending_at node exception depth = if ends node exception then depth else 0

-- the node to which `*` leads, but for the label `*` itself
abbrev pub child_by_star : RuleSet → List ℕ → Option RuleSet
child_by_star node label = if bytes_eq label (codes "*") then None else child node (codes "*")

-- how many labels the longest rule has that ends at the node or below it, by the way of the labels of a name
abbrev pub longest_from : RuleSet → Bool → ℕ → List (List ℕ) → ℕ
longest_from node exception depth [] = ending_at node exception depth
longest_from node exception depth (label ∷ name) =
    max (ending_at node exception depth)
    (max (option_map_or (λ next. longest_from next exception (depth + 1) name) (child node label) 0)
    (option_map_or (λ next. longest_from next exception (depth + 1) name) (child_by_star node label) 0))

-- the same by a way to a node with one label more
abbrev pub longest_by : Bool → Option RuleSet → ℕ → List (List ℕ) → ℕ
longest_by exception way depth name = option_map_or (λ node. longest_from node exception (depth + 1) name) way 0
