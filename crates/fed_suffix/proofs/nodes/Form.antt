-- The nodes below a node, in each of its forms.
use Rattle.std.proofs.Common.{◌≡◌, ℕ, Bool, List, ◌∷◌, [], bytes_eq, sym, subst}
use Rattle.std.specs.List.{IsDistinct}
use Rattle.fed_suffix.specs.declared.form.Form.{Form}
use Rattle.fed_suffix.specs.Rule.{RuleSet}
use Rattle.fed_suffix.specs.Node.{rules_of}
use Rattle.fed_suffix.specs.Form.{ends_of, labels_below, nodes_below, rules_by}

distinct-none : IsDistinct (λ (a b : List ℕ). bytes_eq a b) []
unfolding IsDistinct
distinct-none = tt

distinct-one : (label : List ℕ) → IsDistinct (λ (a b : List ℕ). bytes_eq a b) (label ∷ [])
unfolding IsDistinct
distinct-one label = (tt, tt)

-- no label stands twice, where there is none or one
pub distinct-nothing : (form : Form) → labels_below form ≡ [] → IsDistinct (λ (a b : List ℕ). bytes_eq a b) (labels_below form)
distinct-nothing form e = subst (IsDistinct (λ (a b : List ℕ). bytes_eq a b)) (sym e) distinct-none

pub distinct-alone : (form : Form) (label : List ℕ) → labels_below form ≡ label ∷ []
    → IsDistinct (λ (a b : List ℕ). bytes_eq a b) (labels_below form)
distinct-alone form label e = subst (IsDistinct (λ (a b : List ℕ). bytes_eq a b)) (sym e) (distinct-one label)

-- the rules by the parts of a form
pub rules_by-parts : (form : Form) (plain exception : Bool) (labels : List (List ℕ)) (nodes : List RuleSet)
    → (ends_of form).plain ≡ plain → (ends_of form).exception ≡ exception → labels_below form ≡ labels → nodes_below form ≡ nodes
    → rules_by form ≡ rules_of (λ label. label) plain exception labels nodes
rules_by-parts form plain exception labels nodes e f g h = λ i. rules_of (λ label. label) (e i) (f i) (g i) (h i)
