-- A node as the set of what is left of rules, by its fields.
use Rattle.std.proofs.Common.{◌≡◌, ℕ, zero, suc, ◌<◌, Bool, true, false, cond, ◌&&◌, ◌||◌, List, [], ◌∷◌}
use Rattle.std.proofs.Common.{◌++◌, length, get_or, set, Some, None, bytes_eq, refl, sym, ap}
use Rattle.std.proofs.Common.{◌∙◌, subst, arith, length-append}
use mathlib.Core.Bool.{true≢false}
use Rattle.std.specs.List.{list_any, list_all, position, AllByRecursion, IsDistinct}
use Rattle.std.specs.Ordering.{eq_by_cmp}
use Rattle.std.specs.FinSet as finset
use Rattle.std.proofs.lemmas.Slice.Eq.{bytes_eq-Decides}
use Rattle.std.proofs.lemmas.List.Quantifiers.{position-Some}
use Rattle.std.proofs.lemmas.Map.Keys.{IsDistinct-head, IsDistinct-tail}
use Rattle.fed_suffix.specs.Rule.{Rule, RuleSet, rule_cmp}
use Rattle.fed_suffix.specs.RuleOrder.{rule_cmp_total, rule_cmp-IsAntisymmetric, both, first_of_both, second_of_both, same_tests}
use Rattle.fed_suffix.specs.RuleOrder.{is_among, is_itself, same_rule}
use Rattle.fed_suffix.specs.Node.{with_rest, rests_after, below, is_some_rule, has_rules, child, ends, under, rules_under, ending, rules_of}
use Rattle.fed_suffix.specs.Node.{IsNode}

pub not_true : (b : Bool) → (b ≡ true → ⊥) → b ≡ false
not_true true f = absurd (f refl)
not_true false f = refl

pub same_text : (a b : List ℕ) → bytes_eq a b ≡ true → a ≡ b
same_text a b e = (bytes_eq-Decides a b).0 e

pub or_assoc : (a b c : Bool) → ((a || b) || c) ≡ (a || (b || c))
or_assoc true b c = refl
or_assoc false b c = refl

pub or_swap : (a b c : Bool) → (a || (b || c)) ≡ (b || (a || c))
or_swap true true c = refl
or_swap true false c = refl
or_swap false b c = refl

or_false : (a : Bool) → (a || false) ≡ a
or_false true = refl
or_false false = refl

and_false : (a : Bool) → (a && false) ≡ false
and_false true = refl
and_false false = refl

and_or : (a b c : Bool) → ((a && b) || (a && c)) ≡ (a && (b || c))
and_or true b c = refl
and_or false b c = refl

-- ---- rules that are tied

no_labels : (label : List ℕ) (labels : List (List ℕ)) → [] ≡ label ∷ labels → ⊥
no_labels label labels e = cc

first_label : (a b : List ℕ) (xs ys : List (List ℕ)) → a ∷ xs ≡ b ∷ ys → a ≡ b
first_label a b xs ys e = cc

other_labels : (a b : List ℕ) (xs ys : List (List ℕ)) → a ∷ xs ≡ b ∷ ys → xs ≡ ys
other_labels a b xs ys e = cc

pub tied_none_some : (e f : Bool) (label : List ℕ) (labels : List (List ℕ)) → eq_by_cmp rule_cmp ([], e) (label ∷ labels, f) ≡ false
tied_none_some e f label labels =
    not_true _ (λ tie. no_labels label labels (ap (λ (r : Rule). r.0) (same_rule ([], e) (label ∷ labels, f) tie)))

pub tied_some_none : (e f : Bool) (label : List ℕ) (labels : List (List ℕ)) → eq_by_cmp rule_cmp (label ∷ labels, e) ([], f) ≡ false
tied_some_none e f label labels =
    not_true _ (λ tie. no_labels label labels (sym (ap (λ (r : Rule). r.0) (same_rule (label ∷ labels, e) ([], f) tie))))

tied_of : (a b : Rule) → a ≡ b → eq_by_cmp rule_cmp a b ≡ true
tied_of a b e = subst (λ (r : Rule). eq_by_cmp rule_cmp a r ≡ true) e (is_itself a)

pub tied_more : (a b : List ℕ) (xs ys : List (List ℕ)) (e f : Bool)
    → eq_by_cmp rule_cmp (a ∷ xs, e) (b ∷ ys, f) ≡ (bytes_eq a b && eq_by_cmp rule_cmp (xs, e) (ys, f))
tied_more a b xs ys e f =
    same_tests _ _
    (λ tie.
    let same = same_rule (a ∷ xs, e) (b ∷ ys, f) tie in
    let labels = ap (λ (r : Rule). r.0) same in
    let flag = ap (λ (r : Rule). r.1) same in
    let rest = other_labels a b xs ys labels in
    both (bytes_eq a b) (eq_by_cmp rule_cmp (xs, e) (ys, f)) ((bytes_eq-Decides a b).1 (first_label a b xs ys labels))
    (tied_of (xs, e) (ys, f) (λ i. (rest i, flag i))))
    (λ each.
    let label = same_text a b (first_of_both (bytes_eq a b) (eq_by_cmp rule_cmp (xs, e) (ys, f)) each) in
    let rest = same_rule (xs, e) (ys, f) (second_of_both (bytes_eq a b) (eq_by_cmp rule_cmp (xs, e) (ys, f)) each) in
    tied_of (a ∷ xs, e) (b ∷ ys, f) (λ i. (label i ∷ (rest i).0, (rest i).1)))

-- ---- what is left of rules after a label

among-cond : (rule rest : Rule) (rests : List Rule) (b : Bool)
    → is_among (cond b (rest ∷ rests) rests) rule ≡ ((b && eq_by_cmp rule_cmp rule rest) || is_among rests rule)
among-cond rule rest rests true = refl
among-cond rule rest rests false = refl

among-with_rest : (label : List ℕ) (rule : Rule) (rests : List Rule) (labels : List (List ℕ)) (e : Bool)
    → is_among (with_rest label rule rests) (labels, e) ≡ (eq_by_cmp rule_cmp (label ∷ labels, e) rule || is_among rests (labels, e))
among-with_rest label ([], f) rests labels e = ap (λ b. b || is_among rests (labels, e)) (sym (tied_some_none e f label labels))
among-with_rest label (next ∷ others, f) rests labels e =
    among-cond (labels, e) (others, f) rests (bytes_eq label next)
    ∙ ap (λ b. b || is_among rests (labels, e)) (sym (tied_more label next labels others e f))

among-rests_after : (label : List ℕ) (rules : List Rule) (labels : List (List ℕ)) (e : Bool)
    → is_among (rests_after label rules) (labels, e) ≡ is_among rules (label ∷ labels, e)
among-rests_after label [] labels e = refl
among-rests_after label (rule ∷ rules) labels e =
    among-with_rest label rule (rests_after label rules) labels e
    ∙ ap (λ b. eq_by_cmp rule_cmp (label ∷ labels, e) rule || b) (among-rests_after label rules labels e)

pub contains-below : (rules : RuleSet) (label : List ℕ) (labels : List (List ℕ)) (e : Bool)
    → finset.contains (below rules label) (labels, e) ≡ finset.contains rules (label ∷ labels, e)
contains-below rules label labels e =
    finset.contains-from_list rule_cmp_total (rests_after label (finset.items rules)) (labels, e)
    ∙ among-rests_after label (finset.items rules) labels e
    ∙ sym (finset.contains-items rules (label ∷ labels, e))

-- ---- sets with some rule

some_of_among : (rules : List Rule) (rule : Rule) → is_among rules rule ≡ true → is_some_rule rules ≡ true
some_of_among [] rule among = among
some_of_among (r ∷ rules) rule among = refl

pub has_rules-some : (rules : RuleSet) (rule : Rule) → finset.contains rules rule ≡ true → has_rules rules ≡ true
has_rules-some rules rule there = some_of_among (finset.items rules) rule (sym (finset.contains-items rules rule) ∙ there)

among_of_some : (rules : List Rule) → is_some_rule rules ≡ true → (rule : Rule) × (is_among rules rule ≡ true)
among_of_some [] some = absurd (true≢false (sym some))
among_of_some (rule ∷ rules) some = (rule, ap (λ b. b || is_among rules rule) (is_itself rule))

pub rule_of_some : (rules : RuleSet) → has_rules rules ≡ true → (rule : Rule) × (finset.contains rules rule ≡ true)
rule_of_some rules some =
    let found = among_of_some (finset.items rules) some in
    (found.0, finset.contains-items rules found.0 ∙ found.1)

pub has_rules-insert : (rules : RuleSet) (rule : Rule) → has_rules (finset.insert rules rule) ≡ true
has_rules-insert rules rule =
    has_rules-some (finset.insert rules rule) rule
    (finset.contains-insert rule_cmp_total rules rule rule ∙ ap (λ b. b || finset.contains rules rule) (is_itself rule))

pub below-none : (rules : RuleSet) (label : List ℕ)
    → ((labels : List (List ℕ)) (e : Bool) → finset.contains rules (label ∷ labels, e) ≡ false) → has_rules (below rules label) ≡ false
below-none rules label none =
    not_true _ (λ some.
    let found = rule_of_some (below rules label) some in
    true≢false (sym found.1 ∙ contains-below rules label found.0.0 found.0.1 ∙ none found.0.0 found.0.1))

pub child-none : (rules : RuleSet) (label : List ℕ)
    → ((labels : List (List ℕ)) (e : Bool) → finset.contains rules (label ∷ labels, e) ≡ false) → child rules label ≡ None
child-none rules label none = ap (λ b. cond b (Some (below rules label)) None) (below-none rules label none)

pub child-some : (rules node : RuleSet) (label : List ℕ) → has_rules node ≡ true
    → ((labels : List (List ℕ)) (e : Bool) → finset.contains node (labels, e) ≡ finset.contains rules (label ∷ labels, e))
    → child rules label ≡ Some node
child-some rules node label some each =
    let same : below rules label ≡ node =
    finset.same_set rule_cmp_total rule_cmp-IsAntisymmetric (below rules label) node
    (λ rule. contains-below rules label rule.0 rule.1 ∙ sym (each rule.0 rule.1)) in
    ap (λ (s : RuleSet). cond (has_rules s) (Some s) None) same ∙ ap (λ b. cond b (Some node) None) some

-- ---- the rules of a node by its fields

pub among-append : (rules more : List Rule) (rule : Rule) → is_among (rules ++ more) rule ≡ (is_among rules rule || is_among more rule)
among-append [] more rule = refl
among-append (r ∷ rules) more rule =
    ap (λ b. eq_by_cmp rule_cmp rule r || b) (among-append rules more rule)
    ∙ sym (or_assoc (eq_by_cmp rule_cmp rule r) (is_among rules rule) (is_among more rule))

pub among-under_none : (label : List ℕ) (rules : List Rule) (e : Bool) → is_among (under label rules) ([], e) ≡ false
among-under_none label [] e = refl
among-under_none label (rule ∷ rules) e = λ i. tied_none_some e rule.1 label rule.0 i || among-under_none label rules e i

pub among-under_more : (label : List ℕ) (rules : List Rule) (next : List ℕ) (labels : List (List ℕ)) (e : Bool)
    → is_among (under label rules) (next ∷ labels, e) ≡ (bytes_eq next label && is_among rules (labels, e))
among-under_more label [] next labels e = sym (and_false (bytes_eq next label))
among-under_more label (rule ∷ rules) next labels e =
    (λ i. tied_more next label labels rule.0 e rule.1 i || among-under_more label rules next labels e i)
    ∙ and_or (bytes_eq next label) (eq_by_cmp rule_cmp (labels, e) rule) (is_among rules (labels, e))

-- what the flags of a node say
abbrev pub flag : Bool → Bool → Bool → Bool
flag plain exception true = exception
flag plain exception false = plain

among-ending_none : (plain exception e : Bool) → is_among (ending plain exception) ([], e) ≡ flag plain exception e
among-ending_none true true true = refl
among-ending_none true true false = refl
among-ending_none true false true = refl
among-ending_none true false false = refl
among-ending_none false true true = refl
among-ending_none false true false = refl
among-ending_none false false true = refl
among-ending_none false false false = refl

among-ending_more : (plain exception : Bool) (label : List ℕ) (labels : List (List ℕ)) (e : Bool)
    → is_among (ending plain exception) (label ∷ labels, e) ≡ false
among-ending_more true true label labels e = λ i. tied_some_none e false label labels i || (tied_some_none e true label labels i || false)
among-ending_more true false label labels e = λ i. tied_some_none e false label labels i || false
among-ending_more false true label labels e = λ i. tied_some_none e true label labels i || false
among-ending_more false false label labels e = refl

-- the first item that passes passes
pub found_at : {X : Type 0} (p : X → Bool) (xs : List X) (i : ℕ) → position p xs ≡ Some i
    → (d : X) × (i < length xs) × (p (get_or xs i d) ≡ true)
found_at p [] i e = cc
found_at p (x ∷ xs) i e =
    let found = position-Some p (x ∷ xs) i x e in
    (x, found.0, found.1)

module _ {X : Type 0} (text : X → List ℕ) where
  -- whether a node under the label has the rule
  abbrev pub any_below : List ℕ → Rule → List X → List RuleSet → Bool
  any_below label rule [] nodes = false
  any_below label rule (l ∷ labels) [] = false
  any_below label rule (l ∷ labels) (node ∷ nodes) =
      (bytes_eq label (text l) && finset.contains node rule) || any_below label rule labels nodes

  among-rules_under_none : (labels : List X) (nodes : List RuleSet) (e : Bool) → is_among (rules_under text labels nodes) ([], e) ≡ false
  among-rules_under_none [] nodes e = refl
  among-rules_under_none (l ∷ labels) [] e = refl
  among-rules_under_none (l ∷ labels) (node ∷ nodes) e =
      among-append (under (text l) (finset.items node)) (rules_under text labels nodes) ([], e)
      ∙ (λ i. among-under_none (text l) (finset.items node) e i || among-rules_under_none labels nodes e i)

  among-rules_under_more : (labels : List X) (nodes : List RuleSet) (label : List ℕ) (rest : List (List ℕ)) (e : Bool)
      → is_among (rules_under text labels nodes) (label ∷ rest, e) ≡ any_below label (rest, e) labels nodes
  among-rules_under_more [] nodes label rest e = refl
  among-rules_under_more (l ∷ labels) [] label rest e = refl
  among-rules_under_more (l ∷ labels) (node ∷ nodes) label rest e =
      among-append (under (text l) (finset.items node)) (rules_under text labels nodes) (label ∷ rest, e)
      ∙ (λ i. (among-under_more (text l) (finset.items node) label rest e
      ∙ ap (λ b. bytes_eq label (text l) && b) (sym (finset.contains-items node (rest, e)))) i
      || among-rules_under_more labels nodes label rest e i)

  pub contains-none : (plain exception : Bool) (labels : List X) (nodes : List RuleSet) (e : Bool)
      → finset.contains (rules_of text plain exception labels nodes) ([], e) ≡ flag plain exception e
  contains-none plain exception labels nodes e =
      finset.contains-from_list rule_cmp_total (ending plain exception ++ rules_under text labels nodes) ([], e)
      ∙ among-append (ending plain exception) (rules_under text labels nodes) ([], e)
      ∙ (λ i. among-ending_none plain exception e i || among-rules_under_none labels nodes e i)
      ∙ or_false (flag plain exception e)

  pub contains-more : (plain exception : Bool) (labels : List X) (nodes : List RuleSet) (label : List ℕ) (rest : List (List ℕ)) (e : Bool)
      → finset.contains (rules_of text plain exception labels nodes) (label ∷ rest, e) ≡ any_below label (rest, e) labels nodes
  contains-more plain exception labels nodes label rest e =
      finset.contains-from_list rule_cmp_total (ending plain exception ++ rules_under text labels nodes) (label ∷ rest, e)
      ∙ among-append (ending plain exception) (rules_under text labels nodes) (label ∷ rest, e)
      ∙ (λ i. among-ending_more plain exception label rest e i || among-rules_under_more labels nodes label rest e i)

  -- ---- a look at a label

  pub any_below-absent : (label : List ℕ) (rule : Rule) (labels : List X) (nodes : List RuleSet)
      → list_any (λ key. bytes_eq label (text key)) labels ≡ false → any_below label rule labels nodes ≡ false
  any_below-absent label rule [] nodes absent = refl
  any_below-absent label rule (l ∷ labels) [] absent = refl
  any_below-absent label rule (l ∷ labels) (node ∷ nodes) absent =
      by (bytes_eq label (text l)) absent (λ later. any_below-absent label rule labels nodes later)
    where
      by : (b : Bool) → (b || list_any (λ key. bytes_eq label (text key)) labels) ≡ false
          → (list_any (λ key. bytes_eq label (text key)) labels ≡ false → any_below label rule labels nodes ≡ false)
          → ((b && finset.contains node rule) || any_below label rule labels nodes) ≡ false
      by true absent rest = absurd (true≢false absent)
      by false absent rest = rest absent

  all_differ : (label : List ℕ) (l : X) (labels : List X) → label ≡ text l
      → AllByRecursion (λ y. bytes_eq (text l) (text y) ≡ false) labels → list_any (λ key. bytes_eq label (text key)) labels ≡ false
  all_differ label l [] same differ = refl
  all_differ label l (x ∷ labels) same differ =
      λ i. (ap (λ t. bytes_eq t (text x)) same ∙ differ.0) i || all_differ label l labels same differ.1 i

  differs_at : (l : X) (labels : List X) (i : ℕ) (d : X) → i < length labels
      → AllByRecursion (λ y. bytes_eq (text l) (text y) ≡ false) labels → bytes_eq (text l) (text (get_or labels i d)) ≡ false
  differs_at l [] i d inside differ = absurd (omega (arith, inside))
  differs_at l (x ∷ labels) zero d inside differ = differ.0
  differs_at l (x ∷ labels) (suc i) d inside differ = differs_at l labels i d (omega (arith, inside)) differ.1

  -- the node under the label has all its rules, since labels differ
  pub any_below-at : (label : List ℕ) (rule : Rule) (labels : List X) (nodes : List RuleSet) (i : ℕ) (d : X) (node : RuleSet)
      → i < length labels → length labels ≡ length nodes → bytes_eq label (text (get_or labels i d)) ≡ true
      → IsDistinct (λ a b. bytes_eq (text a) (text b)) labels → node ≡ get_or nodes i node
      → any_below label rule labels nodes ≡ finset.contains node rule
  any_below-at label rule [] nodes i d node inside alike here distinct at = absurd (omega (arith, inside))
  any_below-at label rule (l ∷ labels) [] i d node inside alike here distinct at = absurd (omega (arith, alike))
  any_below-at label rule (l ∷ labels) (n ∷ nodes) zero d node inside alike here distinct at =
      let others = any_below-absent label rule labels nodes
      (all_differ label l labels (same_text _ _ here) (IsDistinct-head (λ a b. bytes_eq (text a) (text b)) l labels distinct)) in
      (λ i. (here i && finset.contains n rule) || others i)
      ∙ or_false (finset.contains n rule)
      ∙ ap (λ (s : RuleSet). finset.contains s rule) (sym at)
  any_below-at label rule (l ∷ labels) (n ∷ nodes) (suc i) d node inside alike here distinct at =
      let within : i < length labels = omega (arith, inside) in
      let differs = differs_at l labels i d within (IsDistinct-head (λ a b. bytes_eq (text a) (text b)) l labels distinct) in
      let other : bytes_eq label (text l) ≡ false =
      not_true _ (λ same. true≢false (sym here
      ∙ ap (λ t. bytes_eq t (text (get_or labels i d))) (same_text label (text l) same) ∙ differs)) in
      let rest = any_below-at label rule labels nodes i d node within (omega (arith, alike)) here
      (IsDistinct-tail (λ a b. bytes_eq (text a) (text b)) l labels distinct) at in
      (λ i. (other i && finset.contains n rule) || rest i)

  -- ---- a node is added

  any_below-push : (rule : Rule) (labels : List X) (nodes : List RuleSet) (key : X) (node : RuleSet) (next : List ℕ)
      → length labels ≡ length nodes
      → any_below next rule (labels ++ key ∷ []) (nodes ++ node ∷ [])
      ≡ ((bytes_eq next (text key) && finset.contains node rule) || any_below next rule labels nodes)
  any_below-push rule [] [] key node next alike = refl
  any_below-push rule [] (n ∷ nodes) key node next alike = absurd (omega (arith, alike))
  any_below-push rule (l ∷ labels) [] key node next alike = absurd (omega (arith, alike))
  any_below-push rule (l ∷ labels) (n ∷ nodes) key node next alike =
      ap (λ b. (bytes_eq next (text l) && finset.contains n rule) || b)
      (any_below-push rule labels nodes key node next (omega (arith, alike)))
      ∙ or_swap (bytes_eq next (text l) && finset.contains n rule) (bytes_eq next (text key) && finset.contains node rule)
      (any_below next rule labels nodes)

-- a set with one rule more
pub insert_is : (old new : RuleSet) (label : List ℕ) (rest : List (List ℕ)) (e : Bool)
    → ((f : Bool) → finset.contains new ([], f) ≡ finset.contains old ([], f))
    → ((next : List ℕ) (labels : List (List ℕ)) (f : Bool) → finset.contains new (next ∷ labels, f)
    ≡ ((bytes_eq next label && eq_by_cmp rule_cmp (labels, f) (rest, e)) || finset.contains old (next ∷ labels, f)))
    → new ≡ finset.insert old (label ∷ rest, e)
insert_is old new label rest e none more =
    finset.same_set rule_cmp_total rule_cmp-IsAntisymmetric new (finset.insert old (label ∷ rest, e)) by
  where
    by : (rule : Rule) → finset.contains new rule ≡ finset.contains (finset.insert old (label ∷ rest, e)) rule
    by ([], f) =
        none f
        ∙ ap (λ b. b || finset.contains old ([], f)) (sym (tied_none_some f e label rest))
        ∙ sym (finset.contains-insert rule_cmp_total old (label ∷ rest, e) ([], f))
    by (next ∷ labels, f) =
        more next labels f
        ∙ ap (λ b. b || finset.contains old (next ∷ labels, f)) (sym (tied_more next label labels rest f e))
        ∙ sym (finset.contains-insert rule_cmp_total old (label ∷ rest, e) (next ∷ labels, f))

-- a rule that ends at the node is added
end_is : (old new : RuleSet) (e : Bool)
    → ((f : Bool) → finset.contains new ([], f) ≡ (eq_by_cmp rule_cmp ([], f) ([], e) || finset.contains old ([], f)))
    → ((next : List ℕ) (labels : List (List ℕ)) (f : Bool)
    → finset.contains new (next ∷ labels, f) ≡ finset.contains old (next ∷ labels, f))
    → new ≡ finset.insert old ([], e)
end_is old new e none more =
    finset.same_set rule_cmp_total rule_cmp-IsAntisymmetric new (finset.insert old ([], e)) by
  where
    by : (rule : Rule) → finset.contains new rule ≡ finset.contains (finset.insert old ([], e)) rule
    by ([], f) = none f ∙ sym (finset.contains-insert rule_cmp_total old ([], e) ([], f))
    by (next ∷ labels, f) =
        more next labels f
        ∙ ap (λ b. b || finset.contains old (next ∷ labels, f)) (sym (tied_some_none f e next labels))
        ∙ sym (finset.contains-insert rule_cmp_total old ([], e) (next ∷ labels, f))

module _ {X : Type 0} (text : X → List ℕ) (plain exception : Bool) (labels : List X) (nodes : List RuleSet) where
  flag_exception : (f : Bool) → flag plain true f ≡ (eq_by_cmp rule_cmp ([], f) ([], true) || flag plain exception f)
  flag_exception true = refl
  flag_exception false = refl

  flag_plain : (f : Bool) → flag true exception f ≡ (eq_by_cmp rule_cmp ([], f) ([], false) || flag plain exception f)
  flag_plain true = refl
  flag_plain false = refl

  pub rules_of-exception : rules_of text plain true labels nodes ≡ finset.insert (rules_of text plain exception labels nodes) ([], true)
  rules_of-exception =
      end_is (rules_of text plain exception labels nodes) _ true
      (λ f. contains-none text plain true labels nodes f ∙ flag_exception f
      ∙ ap (λ b. eq_by_cmp rule_cmp ([], f) ([], true) || b) (sym (contains-none text plain exception labels nodes f)))
      (λ next rest f. contains-more text plain true labels nodes next rest f
      ∙ sym (contains-more text plain exception labels nodes next rest f))

  pub rules_of-plain : rules_of text true exception labels nodes ≡ finset.insert (rules_of text plain exception labels nodes) ([], false)
  rules_of-plain =
      end_is (rules_of text plain exception labels nodes) _ false
      (λ f. contains-none text true exception labels nodes f ∙ flag_plain f
      ∙ ap (λ b. eq_by_cmp rule_cmp ([], f) ([], false) || b) (sym (contains-none text plain exception labels nodes f)))
      (λ next rest f. contains-more text true exception labels nodes next rest f
      ∙ sym (contains-more text plain exception labels nodes next rest f))

  -- a node below is added, with one rule
  pub rules_of-push : (key : X) (node : RuleSet) (label : List ℕ) (rest : List (List ℕ)) (e : Bool)
      → length labels ≡ length nodes → text key ≡ label → node ≡ finset.insert finset.empty (rest, e)
      → rules_of text plain exception (labels ++ key ∷ []) (nodes ++ node ∷ [])
      ≡ finset.insert (rules_of text plain exception labels nodes) (label ∷ rest, e)
  rules_of-push key node label rest e alike named one =
      insert_is (rules_of text plain exception labels nodes) _ label rest e
      (λ f. contains-none text plain exception (labels ++ key ∷ []) (nodes ++ node ∷ []) f
      ∙ sym (contains-none text plain exception labels nodes f))
      (λ next others f.
      let alone : finset.contains node (others, f) ≡ eq_by_cmp rule_cmp (others, f) (rest, e) =
      ap (λ (s : RuleSet). finset.contains s (others, f)) one
      ∙ finset.contains-insert rule_cmp_total finset.empty (rest, e) (others, f)
      ∙ ap (λ b. eq_by_cmp rule_cmp (others, f) (rest, e) || b) (finset.contains-empty rule_cmp (others, f))
      ∙ or_false (eq_by_cmp rule_cmp (others, f) (rest, e)) in
      contains-more text plain exception (labels ++ key ∷ []) (nodes ++ node ∷ []) next others f
      ∙ any_below-push text (others, f) labels nodes key node next alike
      ∙ (λ i. (bytes_eq next (named i) && alone i) || sym (contains-more text plain exception labels nodes next others f) i))

-- ---- what is true of each node

pub used-set : (nodes : List RuleSet) (i : ℕ) (new : RuleSet) → list_all has_rules nodes ≡ true → has_rules new ≡ true
    → list_all has_rules (set nodes i new) ≡ true
used-set [] i new used some = used
used-set (n ∷ nodes) zero new used some =
    both (has_rules new) (list_all has_rules nodes) some (second_of_both (has_rules n) (list_all has_rules nodes) used)
used-set (n ∷ nodes) (suc i) new used some =
    both (has_rules n) (list_all has_rules (set nodes i new)) (first_of_both (has_rules n) (list_all has_rules nodes) used)
    (used-set nodes i new (second_of_both (has_rules n) (list_all has_rules nodes) used) some)

used-push : (nodes : List RuleSet) (node : RuleSet) → list_all has_rules nodes ≡ true → has_rules node ≡ true
    → list_all has_rules (nodes ++ node ∷ []) ≡ true
used-push [] node used some = both (has_rules node) true some refl
used-push (n ∷ nodes) node used some =
    both (has_rules n) (list_all has_rules (nodes ++ node ∷ [])) (first_of_both (has_rules n) (list_all has_rules nodes) used)
    (used-push nodes node (second_of_both (has_rules n) (list_all has_rules nodes) used) some)

pub used-at : (nodes : List RuleSet) (i : ℕ) (node : RuleSet) → i < length nodes → list_all has_rules nodes ≡ true
    → node ≡ get_or nodes i node → has_rules node ≡ true
used-at [] i node inside used at = absurd (omega (arith, inside))
used-at (n ∷ nodes) zero node inside used at =
    ap has_rules at ∙ first_of_both (has_rules n) (list_all has_rules nodes) used
used-at (n ∷ nodes) (suc i) node inside used at =
    used-at nodes i node (omega (arith, inside)) (second_of_both (has_rules n) (list_all has_rules nodes) used) at

-- ---- what the calls of a node do

module _ {X : Type 0} (text : X → List ℕ) (plain exception : Bool) (labels : List X) (nodes : List RuleSet) (label : List ℕ) where
  -- the node of a label that is there
  pub child-place : IsNode labels nodes → IsDistinct (λ a b. bytes_eq (text a) (text b)) labels → (place : ℕ) (node : RuleSet)
      → position (λ key. bytes_eq label (text key)) labels ≡ Some place → node ≡ get_or nodes place node
      → child (rules_of text plain exception labels nodes) label ≡ Some node
  child-place is distinct place node placed at =
      let found = found_at (λ key. bytes_eq label (text key)) labels place placed in
      child-some (rules_of text plain exception labels nodes) node label
      (used-at nodes place node (omega (arith, found.1, is.alike)) is.used at)
      (λ rest e. sym (contains-more text plain exception labels nodes label rest e
      ∙ any_below-at text label (rest, e) labels nodes place found.0 node found.1 is.alike found.2 distinct at))

  pub child-absent : list_any (λ key. bytes_eq label (text key)) labels ≡ false
      → child (rules_of text plain exception labels nodes) label ≡ None
  child-absent absent =
      child-none (rules_of text plain exception labels nodes) label
      (λ rest e. contains-more text plain exception labels nodes label rest e
      ∙ any_below-absent text label (rest, e) labels nodes absent)

pub set-same : (nodes : List RuleSet) (i : ℕ) (node : RuleSet) → node ≡ get_or nodes i node → set nodes i node ≡ nodes
set-same [] i node at = refl
set-same (n ∷ nodes) zero node at = ap (λ s. s ∷ nodes) at
set-same (n ∷ nodes) (suc i) node at = ap (λ l. n ∷ l) (set-same nodes i node at)

pub IsNode-push : {X : Type 0} (labels : List X) (nodes : List RuleSet) (key : X) (node : RuleSet) → IsNode labels nodes
    → has_rules node ≡ true → IsNode (labels ++ key ∷ []) (nodes ++ node ∷ [])
IsNode-push labels nodes key node is some =
    record {
      alike = omega (arith, is.alike, length-append labels (key ∷ []), length-append nodes (node ∷ []));
      used = used-push nodes node is.used some;
    }

-- whether a rule ends at the node, by its flags
pub ends_is : {X : Type 0} (text : X → List ℕ) (plain exception : Bool) (labels : List X) (nodes : List RuleSet) (rules : RuleSet)
    (e : Bool) → rules_of text plain exception labels nodes ≡ rules → flag plain exception e ≡ ends rules e
ends_is text plain exception labels nodes rules e view =
    sym (contains-none text plain exception labels nodes e) ∙ ap (λ (s : RuleSet). finset.contains s ([], e)) view

-- a node below was added, or none
module _ {X : Type 0} (labels new_labels : List X) (nodes new_nodes : List RuleSet) where
  pub IsNode-pushed : (key : X) (node : RuleSet) → new_labels ≡ labels ++ key ∷ [] → new_nodes ≡ nodes ++ node ∷ [] → IsNode labels nodes
      → has_rules node ≡ true → IsNode new_labels new_nodes
  IsNode-pushed key node e f is some =
      let pushed = IsNode-push labels nodes key node is some in
      record { alike = ap length e ∙ pushed.alike ∙ sym (ap length f); used = ap (list_all has_rules) f ∙ pushed.used }

  pub IsNode-kept : new_labels ≡ labels → new_nodes ≡ nodes → IsNode labels nodes → IsNode new_labels new_nodes
  IsNode-kept e f is = record { alike = ap length e ∙ is.alike ∙ sym (ap length f); used = ap (list_all has_rules) f ∙ is.used }

  pub insert-pushed : (text : X → List ℕ) (plain exception : Bool) (key : X) (node : RuleSet) (label : List ℕ) (rest : List (List ℕ))
      (e : Bool) → new_labels ≡ labels ++ key ∷ [] → new_nodes ≡ nodes ++ node ∷ [] → IsNode labels nodes → text key ≡ label
      → node ≡ finset.insert finset.empty (rest, e)
      → rules_of text plain exception new_labels new_nodes
      ≡ finset.insert (rules_of text plain exception labels nodes) (label ∷ rest, e)
  insert-pushed text plain exception key node label rest e f g is named one =
      (λ i. rules_of text plain exception (f i) (g i))
      ∙ rules_of-push text plain exception labels nodes key node label rest e is.alike named one

-- a node with one node below it, which has one rule
pub under-one : {X : Type 0} (text : X → List ℕ) (labels : List X) (nodes : List RuleSet) (key : X) (node : RuleSet) (label : List ℕ)
    (rest : List (List ℕ)) (e : Bool)
    → labels ≡ key ∷ [] → nodes ≡ node ∷ [] → text key ≡ label → node ≡ finset.insert finset.empty (rest, e)
    → rules_of text false false labels nodes ≡ finset.insert finset.empty (label ∷ rest, e)
under-one text labels nodes key node label rest e f g named one =
    insert-pushed [] labels [] nodes text false false key node label rest e f g (record { alike = refl; used = refl }) named one
