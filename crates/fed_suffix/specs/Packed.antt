-- A list of rules: the texts of their labels, one after another, and a mark of each, for private clauses.
use Rattle.std.specs.Prelude.{◌≡◌, ℕ, ◌+◌, List, [], ◌∷◌, length, take, drop}
use Rattle.std.specs.FinSet as set
use Rattle.fed_suffix.specs.Label.{labels_in}
use Rattle.fed_suffix.specs.Rule.{Rule, RuleSet}
use Rattle.fed_suffix.specs.declared.rule.Mark.{Mark}

-- how many bytes the texts have
abbrev pub texts_len : List Mark → ℕ
texts_len [] = 0
texts_len (mark ∷ marks) = mark.len + texts_len marks

abbrev pub rules_in : List ℕ → List Mark → List Rule
rules_in texts [] = []
rules_in texts (mark ∷ marks) = (labels_in (take mark.len texts), mark.exception) ∷ rules_in (drop mark.len texts) marks

-- the rules of the list are those of the tree
pub record ArePacked (texts : List ℕ) (marks : List Mark) (top : RuleSet) : Type 0 where
  pub whole : texts_len marks ≡ length texts
  pub same : set.from_list (rules_in texts marks) ≡ top
