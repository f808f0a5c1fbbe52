-- A node without one of the nodes below it.
use Rattle.std.proofs.Common.{◌≡◌, ℕ, zero, suc, ◌<◌, Bool, true, false, not, ◌&&◌, ◌||◌, List, [], ◌∷◌}
use Rattle.std.proofs.Common.{◌++◌, length, get_or, set, Some, Result, Ok, Err, OnOk, OnErr, bytes_eq, refl, sym}
use Rattle.std.proofs.Common.{ap, ◌∙◌, subst, arith, append_assoc, length-set}
use mathlib.Core.Bool.{true≢false}
use Rattle.std.specs.List.{list_any, list_all, position}
use Rattle.std.specs.Ordering.{eq_by_cmp}
use Rattle.std.specs.FinSet as finset
use Rattle.std.proofs.lemmas.List.{set-set}
use Rattle.std.proofs.lemmas.Slice.Eq.{bytes_eq-Decides}
use Rattle.fed_suffix.specs.Rule.{Rule, RuleSet, rule_cmp}
use Rattle.fed_suffix.specs.RuleOrder.{rule_cmp_total, rule_cmp-IsAntisymmetric, first_of_both, second_of_both, or_second}
use Rattle.fed_suffix.specs.Node.{below, has_rules, under, rules_of, IsNode}
use Rattle.fed_suffix.specs.Opened.{Opened, closed, all_closed, labels_to, fits, goes_nowhere, label_at, one_rule, IsOpened, IsOpening}
use Rattle.fed_suffix.specs.Opened.{Leads}
use Rattle.fed_suffix.proofs.nodes.Node.{not_true, same_text, or_swap, among-append, among-under_none, among-under_more, insert_is}
use Rattle.fed_suffix.proofs.nodes.Node.{used-set, used-at, found_at, rule_of_some, set-same, any_below, contains-none, contains-more}
use Rattle.fed_suffix.proofs.nodes.Node.{has_rules-some, has_rules-insert, contains-below, below-none, any_below-absent}

-- ---- the rules of a closed node

contains-closed_none : (label : List ℕ) (node others : RuleSet) (e : Bool)
    → finset.contains (closed label node others) ([], e) ≡ finset.contains others ([], e)
contains-closed_none label node others e =
    finset.contains-from_list rule_cmp_total (under label (finset.items node) ++ finset.items others) ([], e)
    ∙ among-append (under label (finset.items node)) (finset.items others) ([], e)
    ∙ (λ i. among-under_none label (finset.items node) e i || sym (finset.contains-items others ([], e)) i)

contains-closed_more : (label : List ℕ) (node others : RuleSet) (next : List ℕ) (labels : List (List ℕ)) (e : Bool)
    → finset.contains (closed label node others) (next ∷ labels, e)
    ≡ ((bytes_eq next label && finset.contains node (labels, e)) || finset.contains others (next ∷ labels, e))
contains-closed_more label node others next labels e =
    finset.contains-from_list rule_cmp_total (under label (finset.items node) ++ finset.items others) (next ∷ labels, e)
    ∙ among-append (under label (finset.items node)) (finset.items others) (next ∷ labels, e)
    ∙ (λ i. (among-under_more label (finset.items node) next labels e
    ∙ ap (λ b. bytes_eq next label && b) (sym (finset.contains-items node (labels, e)))) i
    || sym (finset.contains-items others (next ∷ labels, e)) i)

widen : (b e c a : Bool) → ((b && (e || c)) || a) ≡ ((b && e) || ((b && c) || a))
widen true true c a = refl
widen true false c a = refl
widen false e c a = refl

-- a rule that is added below is added to the whole
closed-insert : (label : List ℕ) (node others : RuleSet) (rest : List (List ℕ)) (e : Bool)
    → closed label (finset.insert node (rest, e)) others ≡ finset.insert (closed label node others) (label ∷ rest, e)
closed-insert label node others rest e =
    insert_is (closed label node others) (closed label (finset.insert node (rest, e)) others) label rest e
    (λ f. contains-closed_none label (finset.insert node (rest, e)) others f ∙ sym (contains-closed_none label node others f))
    (λ next labels f.
    contains-closed_more label (finset.insert node (rest, e)) others next labels f
    ∙ ap (λ b. (bytes_eq next label && b) || finset.contains others (next ∷ labels, f))
    (finset.contains-insert rule_cmp_total node (rest, e) (labels, f))
    ∙ widen (bytes_eq next label) (eq_by_cmp rule_cmp (labels, f) (rest, e)) (finset.contains node (labels, f))
    (finset.contains others (next ∷ labels, f))
    ∙ ap (λ b. (bytes_eq next label && eq_by_cmp rule_cmp (labels, f) (rest, e)) || b)
    (sym (contains-closed_more label node others next labels f)))

pub has_rules-closed : (label : List ℕ) (node others : RuleSet) → has_rules node ≡ true → has_rules (closed label node others) ≡ true
has_rules-closed label node others some =
    let found = rule_of_some node some in
    has_rules-some (closed label node others) (label ∷ found.0.0, found.0.1)
    (contains-closed_more label node others label found.0.0 found.0.1
    ∙ (λ i. ((bytes_eq-Decides label label).1 refl i && found.1 i) || finset.contains others (label ∷ found.0.0, found.0.1)))

-- ---- opened nodes one below another

pub all_closed-push : (above : List Opened) (opened : Opened) (node : RuleSet)
    → all_closed (above ++ opened ∷ []) node ≡ all_closed above (closed opened.0 node opened.1)
all_closed-push [] opened node = refl
all_closed-push (a ∷ above) opened node = ap (λ (s : RuleSet). closed a.0 s a.1) (all_closed-push above opened node)

labels_to-push : (above : List Opened) (opened : Opened) → labels_to (above ++ opened ∷ []) ≡ labels_to above ++ opened.0 ∷ []
labels_to-push [] opened = refl
labels_to-push (a ∷ above) opened = ap (λ ls. a.0 ∷ ls) (labels_to-push above opened)

fits-push : (above : List Opened) (opened : Opened) (node : RuleSet) → fits (above ++ opened ∷ []) node ≡ has_rules node
fits-push [] opened node = refl
fits-push (a ∷ above) opened node = refl

fits-some : (above : List Opened) (node : RuleSet) → has_rules node ≡ true → fits above node ≡ true
fits-some [] node some = refl
fits-some (a ∷ above) node some = some

all_closed-insert : (above : List Opened) (node : RuleSet) (rest : List (List ℕ)) (e : Bool)
    → all_closed above (finset.insert node (rest, e)) ≡ finset.insert (all_closed above node) (labels_to above ++ rest, e)
all_closed-insert [] node rest e = refl
all_closed-insert (a ∷ above) node rest e =
    ap (λ (s : RuleSet). closed a.0 s a.1) (all_closed-insert above node rest e)
    ∙ closed-insert a.0 (all_closed above node) a.1 (labels_to above ++ rest) e

-- the last opened node is closed
pub close-used : (above old : List Opened) (opened : Opened) (node : RuleSet) → old ≡ above ++ opened ∷ [] → fits old node ≡ true
    → has_rules node ≡ true
close-used above old opened node e fitting = sym (fits-push above opened node) ∙ ap (λ a. fits a node) (sym e) ∙ fitting

pub close-fits : (above : List Opened) (opened : Opened) (node closed_node : RuleSet) → closed_node ≡ closed opened.0 node opened.1
    → has_rules node ≡ true → fits above closed_node ≡ true
close-fits above opened node closed_node e some =
    fits-some above closed_node (ap has_rules e ∙ has_rules-closed opened.0 node opened.1 some)

pub close-same : (above old : List Opened) (opened : Opened) (node closed_node whole : RuleSet) → old ≡ above ++ opened ∷ []
    → closed_node ≡ closed opened.0 node opened.1 → all_closed old node ≡ whole → all_closed above closed_node ≡ whole
close-same above old opened node closed_node whole e f same =
    ap (all_closed above) f ∙ sym (all_closed-push above opened node) ∙ ap (λ a. all_closed a node) (sym e) ∙ same

-- no label leads to the whole
pub leads-none : (labels : List (List ℕ)) (whole : RuleSet) (above : List Opened) → above ≡ [] → Leads labels whole above whole labels
leads-none labels whole above e =
    record {
      same = ap (λ a. all_closed a whole) e;
      way = ap (λ a. labels_to a ++ labels) e;
      used = ap (λ a. fits a whole) e;
    }

pub leads-as : (labels : List (List ℕ)) (whole : RuleSet) (above new : List Opened) (node same : RuleSet) (rest : List (List ℕ))
    → Leads labels whole above node rest → new ≡ above → same ≡ node → Leads labels whole new same rest
leads-as labels whole above new node same rest leads e f =
    subst (λ a. Leads labels whole a same rest) (sym e) (subst (λ n. Leads labels whole above n rest) (sym f) leads)

pub nowhere-here : (label : List ℕ) (node : RuleSet) (rest more : List (List ℕ)) → rest ≡ label ∷ more
    → has_rules (below node label) ≡ false → goes_nowhere node rest ≡ true
nowhere-here label node rest more e none = ap (goes_nowhere node) e ∙ ap not none

-- one more label leads on
pub leads-on : (labels : List (List ℕ)) (whole : RuleSet) (above new : List Opened) (node next : RuleSet) (label : List ℕ) (opened : Opened)
    (rest more : List (List ℕ))
    → Leads labels whole above node rest → rest ≡ label ∷ more → IsOpening node label opened next → new ≡ above ++ opened ∷ []
    → Leads labels whole new next more
leads-on labels whole above new node next label opened rest more leads split opening e =
    record {
      same = ap (λ a. all_closed a next) e ∙ all_closed-push above opened next ∙ ap (all_closed above) opening.same ∙ leads.same;
      way = ap (λ a. labels_to a ++ more) e
          ∙ ap (λ ls. ls ++ more) (labels_to-push above opened)
          ∙ append_assoc (labels_to above) (opened.0 ∷ []) more
          ∙ (λ i. labels_to above ++ opening.named i ∷ more)
          ∙ ap (λ ls. labels_to above ++ ls) (sym split)
          ∙ leads.way;
      used = ap (λ a. fits a next) e ∙ fits-push above opened next ∙ opening.used;
    }

-- the rest of the rule is added where the labels led
pub insert-below : (labels : List (List ℕ)) (whole : RuleSet) (above : List Opened) (node new : RuleSet) (rest : List (List ℕ)) (e : Bool)
    → Leads labels whole above node rest → new ≡ finset.insert node (rest, e)
    → all_closed above new ≡ finset.insert whole (labels, e)
insert-below labels whole above node new rest e leads grown =
    ap (all_closed above) grown ∙ all_closed-insert above node rest e
    ∙ (λ i. finset.insert (leads.same i) (leads.way i, e))

pub fits-after : {T E : Type 0} (r : Result T E) (above : List Opened) (old new : RuleSet) (rule : Rule)
    → OnOk r (new ≡ finset.insert old rule) → OnErr r (new ≡ old) → fits above old ≡ true → fits above new ≡ true
fits-after (Ok x) above old new rule ok err fitting =
    fits-some above new (ap has_rules ok ∙ has_rules-insert old rule)
fits-after (Err x) above old new rule ok err fitting = ap (fits above) err ∙ fitting

-- ---- a node and its parts

module _ {X : Type 0} (text : X → List ℕ) where
  label_at-get : (labels : List X) (i : ℕ) (d : X) → i < length labels → label_at text labels i ≡ text (get_or labels i d)
  label_at-get [] i d inside = absurd (omega (arith, inside))
  label_at-get (l ∷ labels) zero d inside = refl
  label_at-get (l ∷ labels) (suc i) d inside = label_at-get labels i d (omega (arith, inside))

  pub label_at-found : (label : List ℕ) (labels : List X) (i : ℕ) → position (λ key. bytes_eq label (text key)) labels ≡ Some i
      → label_at text labels i ≡ label
  label_at-found label labels i placed =
      let found = found_at (λ key. bytes_eq label (text key)) labels i placed in
      label_at-get labels i found.0 found.1 ∙ sym (same_text label (text (get_or labels i found.0)) found.2)

  any_below-hole : (next : List ℕ) (rule : Rule) (labels : List X) (nodes : List RuleSet) (i : ℕ) (new : RuleSet)
      → i < length labels → length labels ≡ length nodes
      → any_below text next rule labels (set nodes i new)
      ≡ ((bytes_eq next (label_at text labels i) && finset.contains new rule) || any_below text next rule labels (set nodes i finset.empty))
  any_below-hole next rule [] nodes i new inside alike = absurd (omega (arith, inside))
  any_below-hole next rule (l ∷ labels) [] i new inside alike = absurd (omega (arith, alike))
  any_below-hole next rule (l ∷ labels) (n ∷ nodes) zero new inside alike =
      ap (λ b. (bytes_eq next (text l) && finset.contains new rule) || b)
      (sym (nothing (bytes_eq next (text l)) (finset.contains finset.empty rule) (any_below text next rule labels nodes)
      (finset.contains-empty rule_cmp rule)))
    where
      nothing : (a b c : Bool) → b ≡ false → ((a && b) || c) ≡ c
      nothing true true c e = absurd (true≢false e)
      nothing true false c e = refl
      nothing false b c e = refl
  any_below-hole next rule (l ∷ labels) (n ∷ nodes) (suc i) new inside alike =
      ap (λ b. (bytes_eq next (text l) && finset.contains n rule) || b)
      (any_below-hole next rule labels nodes i new (omega (arith, inside)) (omega (arith, alike)))
      ∙ or_swap (bytes_eq next (text l) && finset.contains n rule) (bytes_eq next (label_at text labels i) && finset.contains new rule)
      (any_below text next rule labels (set nodes i finset.empty))

  -- a node is what stands at a place below it, and the others
  pub rules_of-hole : (plain exception : Bool) (labels : List X) (nodes : List RuleSet) (i : ℕ) (new : RuleSet)
      → i < length labels → length labels ≡ length nodes
      → rules_of text plain exception labels (set nodes i new)
      ≡ closed (label_at text labels i) new (rules_of text plain exception labels (set nodes i finset.empty))
  rules_of-hole plain exception labels nodes i new inside alike =
      finset.same_set rule_cmp_total rule_cmp-IsAntisymmetric (rules_of text plain exception labels (set nodes i new))
      (closed (label_at text labels i) new (rules_of text plain exception labels (set nodes i finset.empty))) by
    where
      by : (rule : Rule) → finset.contains (rules_of text plain exception labels (set nodes i new)) rule
          ≡ finset.contains (closed (label_at text labels i) new (rules_of text plain exception labels (set nodes i finset.empty))) rule
      by ([], e) =
          contains-none text plain exception labels (set nodes i new) e
          ∙ sym (contains-none text plain exception labels (set nodes i finset.empty) e)
          ∙ sym (contains-closed_none (label_at text labels i) new (rules_of text plain exception labels (set nodes i finset.empty)) e)
      by (next ∷ rest, e) =
          contains-more text plain exception labels (set nodes i new) next rest e
          ∙ any_below-hole next (rest, e) labels nodes i new inside alike
          ∙ ap (λ b. (bytes_eq next (label_at text labels i) && finset.contains new (rest, e)) || b)
          (sym (contains-more text plain exception labels (set nodes i finset.empty) next rest e))
          ∙ sym (contains-closed_more (label_at text labels i) new (rules_of text plain exception labels (set nodes i finset.empty))
          next rest e)

  -- a label that is there leads to some rule
  rule_below : (label : List ℕ) (labels : List X) (nodes : List RuleSet) → length labels ≡ length nodes
      → list_all has_rules nodes ≡ true → list_any (λ key. bytes_eq label (text key)) labels ≡ true
      → (rule : Rule) × (any_below text label rule labels nodes ≡ true)
  rule_below label [] nodes alike used there = absurd (true≢false (sym there))
  rule_below label (l ∷ labels) [] alike used there = absurd (omega (arith, alike))
  rule_below label (l ∷ labels) (n ∷ nodes) alike used there =
      by (bytes_eq label (text l)) refl there
      (λ later. rule_below label labels nodes (omega (arith, alike)) (second_of_both (has_rules n) (list_all has_rules nodes) used) later)
    where
      by : (b : Bool) → bytes_eq label (text l) ≡ b → (b || list_any (λ key. bytes_eq label (text key)) labels) ≡ true
          → (list_any (λ key. bytes_eq label (text key)) labels ≡ true
          → (rule : Rule) × (any_below text label rule labels nodes ≡ true))
          → (rule : Rule) × (any_below text label rule (l ∷ labels) (n ∷ nodes) ≡ true)
      by true e there rest =
          let found = rule_of_some n (first_of_both (has_rules n) (list_all has_rules nodes) used) in
          (found.0, λ i. (e i && found.1 i) || any_below text label found.0 labels nodes)
      by false e there rest =
          let found = rest there in
          (found.0, or_second (bytes_eq label (text l) && finset.contains n found.0) (any_below text label found.0 labels nodes) found.1)

  module _ (plain exception : Bool) (labels : List X) (nodes : List RuleSet) (label : List ℕ) where
    pub absent : IsNode labels nodes → has_rules (below (rules_of text plain exception labels nodes) label) ≡ false
        → list_any (λ key. bytes_eq label (text key)) labels ≡ false
    absent is none =
        not_true _ (λ there.
        let found = rule_below label labels nodes is.alike is.used there in
        true≢false (sym (has_rules-some (below (rules_of text plain exception labels nodes) label) found.0
        (contains-below (rules_of text plain exception labels nodes) label found.0.0 found.0.1
        ∙ contains-more text plain exception labels nodes label found.0.0 found.0.1 ∙ found.1)) ∙ none))

    pub nothing_below : list_any (λ key. bytes_eq label (text key)) labels ≡ false
        → has_rules (below (rules_of text plain exception labels nodes) label) ≡ false
    nothing_below none =
        below-none (rules_of text plain exception labels nodes) label
        (λ rest e. contains-more text plain exception labels nodes label rest e
        ∙ any_below-absent text label (rest, e) labels nodes none)

    -- the node of a label is taken out
    pub opening : IsNode labels nodes → (i : ℕ) (new_nodes : List RuleSet) (node hole whole : RuleSet)
        → rules_of text plain exception labels nodes ≡ whole
        → position (λ key. bytes_eq label (text key)) labels ≡ Some i → node ≡ get_or nodes i node → hole ≡ finset.empty
        → new_nodes ≡ set nodes i hole
        → IsOpening whole label
        (label_at text labels i, rules_of text plain exception labels new_nodes) node
    opening is i new_nodes node hole whole view placed at empty e =
        let found = found_at (λ key. bytes_eq label (text key)) labels i placed in
        record {
          same = ap (λ ns. closed (label_at text labels i) node (rules_of text plain exception labels ns)) (e ∙ ap (set nodes i) empty)
              ∙ sym (rules_of-hole plain exception labels nodes i node found.1 is.alike)
              ∙ ap (rules_of text plain exception labels) (set-same nodes i node at)
              ∙ view;
          named = label_at-found label labels i placed;
          used = used-at nodes i node (omega (arith, found.1, is.alike)) is.used at;
        }

pub IsOpened-taken : {X : Type 0} (labels : List X) (nodes new_nodes : List RuleSet) (i : ℕ) (hole : RuleSet) → IsNode labels nodes
    → i < length labels → hole ≡ finset.empty → new_nodes ≡ set nodes i hole → IsOpened labels new_nodes i
IsOpened-taken labels nodes new_nodes i hole is inside empty e =
    let taken : new_nodes ≡ set nodes i finset.empty = e ∙ ap (set nodes i) empty in
    record {
      alike = is.alike ∙ sym (length-set nodes i finset.empty) ∙ ap length (sym taken);
      inside = inside;
      used = ap (λ ns. list_all has_rules (set ns i one_rule)) taken
          ∙ ap (list_all has_rules) (set-set nodes i finset.empty one_rule)
          ∙ used-set nodes i one_rule is.used (has_rules-insert finset.empty ([], false));
      hole = ap (λ ns. set ns i finset.empty) taken ∙ set-set nodes i finset.empty finset.empty ∙ sym taken;
    }

-- a node is put back
pub IsNode-closed : {X : Type 0} (labels : List X) (nodes new_nodes : List RuleSet) (i : ℕ) (node : RuleSet) → IsOpened labels nodes i
    → has_rules node ≡ true → new_nodes ≡ set nodes i node → IsNode labels new_nodes
IsNode-closed labels nodes new_nodes i node is some e =
    record {
      alike = is.alike ∙ sym (length-set nodes i node) ∙ ap length (sym e);
      used = ap (list_all has_rules) (e ∙ sym (set-set nodes i one_rule node)) ∙ used-set (set nodes i one_rule) i node is.used some;
    }

pub closing : {X : Type 0} (text : X → List ℕ) (plain exception : Bool) (labels : List X) (nodes new_nodes : List RuleSet) (i : ℕ)
    (node : RuleSet) → IsOpened labels nodes i → new_nodes ≡ set nodes i node
    → rules_of text plain exception labels new_nodes
    ≡ closed (label_at text labels i) node (rules_of text plain exception labels nodes)
closing text plain exception labels nodes new_nodes i node is e =
    ap (rules_of text plain exception labels) e
    ∙ rules_of-hole text plain exception labels nodes i node is.inside is.alike
    ∙ ap (λ ns. closed (label_at text labels i) node (rules_of text plain exception labels ns)) is.hole
