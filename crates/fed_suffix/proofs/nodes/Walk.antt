-- The walk from node to node agrees with the set of all rules that match.
use Rattle.std.proofs.Common.{◌≡◌, ℕ, ◌+◌, ◌<◌, ◌≤◌, ◌⊎◌, inl, inr, max, Bool, true, false, cond, List, [], ◌∷◌, length, filter}
use Rattle.std.proofs.Common.{codes, bytes_eq, Option, Some, None, option_and_then, length-append, refl, sym, ap, ◌∙◌, subst, arith}
use mathlib.Core.Bool.{true≢false}
use Rattle.std.specs.Option.{option_map_or, option_or, option_copied}
use Rattle.std.specs.Borrow.{Bor}
use Rattle.std.specs.FinSet as set
use Rattle.fed_suffix.specs.Label.{joined}
use Rattle.fed_suffix.specs.Rule.{Rule, RuleSet}
use Rattle.fed_suffix.specs.RuleOrder.{is_among, both, first_of_both, second_of_both}
use Rattle.fed_suffix.specs.Registrable.{stand_for, matches, matching, most_labels, suffix_len, suffix_len_of}
use Rattle.fed_suffix.specs.Node.{below, has_rules, child, ends}
use Rattle.fed_suffix.specs.Walk.{ending_at, child_by_star, longest_from, longest_by}
use Rattle.fed_suffix.proofs.rules.Most.{matches_as, same_bool, same_bool_is, same_bool_itself, stands_for_itself, stands_for_cases}
use Rattle.fed_suffix.proofs.rules.Most.{most_labels_le, le_most_labels, suffix_len-matching}
use Rattle.fed_suffix.proofs.nodes.Node.{contains-below, has_rules-some, same_text}

some_one : {A : Type 0} (x y : A) → Some x ≡ Some y → x ≡ y
some_one x y e = cc

none_some : {A : Type 0} (x : A) → None ≡ Some x → ⊥
none_some x e = cc

-- ---- the walk finds no more labels than each rule that matches has

cond_le : (most depth : ℕ) (b : Bool) → (b ≡ true → depth ≤ most) → cond b depth 0 ≤ most
cond_le most depth true bound = bound refl
cond_le most depth false bound = omega arith

way_le : (most : ℕ) (f : RuleSet → ℕ) (node : RuleSet) (b : Bool) → f node ≤ most → option_map_or f (cond b (Some node) None) 0 ≤ most
way_le most f node true bound = bound
way_le most f node false bound = omega arith

star_le : (most : ℕ) (f : RuleSet → ℕ) (way : Option RuleSet) (b : Bool) → option_map_or f way 0 ≤ most
    → option_map_or f (cond b None way) 0 ≤ most
star_le most f way true bound = omega arith
star_le most f way false bound = bound

longest_from_le : (most : ℕ) (name : List (List ℕ)) (node : RuleSet) (exception : Bool) (depth : ℕ)
    → ((labels : List (List ℕ)) → stand_for labels name ≡ true → set.contains node (labels, exception) ≡ true
    → length labels + depth ≤ most)
    → longest_from node exception depth name ≤ most
longest_from_le most [] node exception depth bound =
    cond_le most depth (ends node exception) (λ there. omega (arith, bound [] refl there))
longest_from_le most (part ∷ name) node exception depth bound =
    let here : ending_at node exception depth ≤ most =
    cond_le most depth (ends node exception) (λ there. omega (arith, bound [] refl there)) in
    let next = λ (next : RuleSet). longest_from next exception (depth + 1) name in
    let by_part : next (below node part) ≤ most =
    longest_from_le most name (below node part) exception (depth + 1)
    (λ labels stands there. omega (
      arith,
      bound (part ∷ labels) (both _ _ (stands_for_itself part) stands)
          (sym (contains-below node part labels exception) ∙ there),
    )) in
    let by_star : next (below node (codes "*")) ≤ most =
    longest_from_le most name (below node (codes "*")) exception (depth + 1)
    (λ labels stands there. omega (
      arith,
      bound (codes "*" ∷ labels) stands
          (sym (contains-below node (codes "*") labels exception) ∙ there),
    )) in
    let first : option_map_or next (child node part) 0 ≤ most =
    way_le most next (below node part) (has_rules (below node part)) by_part in
    let second : option_map_or next (child_by_star node part) 0 ≤ most =
    star_le most next (child node (codes "*")) (bytes_eq part (codes "*"))
    (way_le most next (below node (codes "*")) (has_rules (below node (codes "*"))) by_star) in
    omega (arith, here, first, second)

-- ---- it finds each rule that matches

le_cond : (depth : ℕ) (b : Bool) → b ≡ true → depth ≤ cond b depth 0
le_cond depth true e = omega arith
le_cond depth false e = absurd (true≢false (sym e))

le_way : (n : ℕ) (f : RuleSet → ℕ) (node : RuleSet) (b : Bool) → b ≡ true → n ≤ f node → n ≤ option_map_or f (cond b (Some node) None) 0
le_way n f node true e bound = bound
le_way n f node false e bound = absurd (true≢false (sym e))

-- where the label is `*` itself, the way by the label is that by `*`
le_star : (n : ℕ) (f : RuleSet → ℕ) (node : RuleSet) (part : List ℕ) (b : Bool) → bytes_eq part (codes "*") ≡ b
    → n ≤ option_map_or f (child node (codes "*")) 0
    → n ≤ max (option_map_or f (child node part) 0) (option_map_or f (cond b None (child node (codes "*"))) 0)
le_star n f node part true e bound =
    let same = ap (λ l. option_map_or f (child node l) 0) (same_text part (codes "*") e) in
    omega (arith, same, bound)
le_star n f node part false e bound = omega (arith, bound)

le_longest_from : (labels name : List (List ℕ)) (node : RuleSet) (exception : Bool) (depth : ℕ)
    → stand_for labels name ≡ true → set.contains node (labels, exception) ≡ true
    → length labels + depth ≤ longest_from node exception depth name
le_longest_from [] [] node exception depth stands there =
    let here : depth ≤ ending_at node exception depth = le_cond depth (ends node exception) there in
    omega (arith, here)
le_longest_from [] (part ∷ name) node exception depth stands there =
    let here : depth ≤ ending_at node exception depth = le_cond depth (ends node exception) there in
    omega (arith, here)
le_longest_from (label ∷ labels) [] node exception depth stands there = absurd (true≢false (sym stands))
le_longest_from (label ∷ labels) (part ∷ name) node exception depth stands there =
    let next = λ (next : RuleSet). longest_from next exception (depth + 1) name in
    let left = contains-below node label labels exception ∙ there in
    let rest = le_longest_from labels name (below node label) exception (depth + 1) (second_of_both _ _ stands) left in
    let way : length labels + (depth + 1) ≤ option_map_or next (child node label) 0 =
    le_way _ next (below node label) (has_rules (below node label)) (has_rules-some (below node label) (labels, exception) left) rest in
    by (stands_for_cases label part (first_of_both _ _ stands)) way
  where
    by : (label ≡ codes "*") ⊎ (label ≡ part)
        → length labels + (depth + 1) ≤ option_map_or (λ next. longest_from next exception (depth + 1) name) (child node label) 0
        → length (label ∷ labels) + depth ≤ longest_from node exception depth (part ∷ name)
    by (inl star) way =
        let next = λ (next : RuleSet). longest_from next exception (depth + 1) name in
        let by_star = subst (λ l. length labels + (depth + 1) ≤ option_map_or next (child node l) 0) star way in
        let ways : length labels + (depth + 1)
        ≤ max (option_map_or next (child node part) 0) (option_map_or next (child_by_star node part) 0) =
        le_star (length labels + (depth + 1)) next node part (bytes_eq part (codes "*")) refl by_star in
        omega (arith, ways)
    by (inr same) way =
        let next = λ (next : RuleSet). longest_from next exception (depth + 1) name in
        let by_part = subst (λ l. length labels + (depth + 1) ≤ option_map_or next (child node l) 0) same way in
        omega (arith, by_part)

le_of_both : (m n : ℕ) → m ≤ n → n ≤ m → m ≡ n
le_of_both m n p q = omega arith

reaches : (rules : RuleSet) (exception : Bool) (name : List (List ℕ)) (rule : Rule) → is_among (set.items rules) rule ≡ true
    → matches_as name exception rule ≡ true → length rule.0 ≤ longest_from rules exception 0 name
reaches rules exception name rule among passes =
    let flag : rule.1 ≡ exception =
    same_bool_is exception rule.1 (second_of_both (matches name rule) (same_bool exception rule.1) passes) in
    let there : set.contains rules (rule.0, exception) ≡ true =
    ap (λ e. set.contains rules (rule.0, e)) (sym flag) ∙ set.contains-items rules rule ∙ among in
    let reached : length rule.0 + 0 ≤ longest_from rules exception 0 name =
    le_longest_from rule.0 name rules exception 0 (first_of_both (matches name rule) (same_bool exception rule.1) passes) there in
    omega (arith, reached)

pub longest_from-set : (rules : RuleSet) (exception : Bool) (name : List (List ℕ))
    → longest_from rules exception 0 name ≡ most_labels (filter (matches_as name exception) (set.items rules))
longest_from-set rules exception name =
    le_of_both _ _
    (longest_from_le _ name rules exception 0
    (λ labels stands there.
    let among : is_among (set.items rules) (labels, exception) ≡ true = sym (set.contains-items rules (labels, exception)) ∙ there in
    omega (
      arith,
      le_most_labels (matches_as name exception) (labels, exception) (set.items rules) among
          (both _ _ stands (same_bool_itself exception)),
    )))
    (most_labels_le (matches_as name exception) _ (set.items rules) (reaches rules exception name))

pub suffix_len-walk : (rules : RuleSet) (name : List (List ℕ)) → 0 < length name
    → suffix_len (matching rules name) ≡ suffix_len_of (longest_from rules true 0 name) (max (longest_from rules false 0 name) 1)
suffix_len-walk rules [] some = absurd (omega (arith, some))
suffix_len-walk rules (part ∷ name) some =
    suffix_len-matching rules part name _ _ (longest_from-set rules true (part ∷ name)) (longest_from-set rules false (part ∷ name))

-- ---- the ways from a node

ways-max : (exception : Bool) (depth : ℕ) (name : List (List ℕ)) (a b : Option RuleSet)
    → max (longest_by exception a depth name) (longest_by exception b depth name)
    ≡ max (longest_by exception (option_or a b) depth name) (longest_by exception (option_and_then (λ _. b) a) depth name)
ways-max exception depth name None b = omega arith
ways-max exception depth name (Some n) b = refl

pub ending_at-le : (node : RuleSet) (exception : Bool) (depth : ℕ) (name : List (List ℕ))
    → ending_at node exception depth ≤ longest_from node exception depth name
ending_at-le node exception depth [] = omega arith
ending_at-le node exception depth (label ∷ name) = omega arith

-- what was found at a node and by its ways is what is found from it
pub longest_from-ways : (node : RuleSet) (exception : Bool) (depth found : ℕ) (label : List ℕ) (name : List (List ℕ))
    (first second : Option RuleSet)
    → first ≡ option_or (child node label) (child_by_star node label)
    → second ≡ option_and_then (λ _. child_by_star node label) (child node label)
    → ending_at node exception depth ≤ found
    → max found (longest_from node exception depth (label ∷ name))
    ≡ max (max found (longest_by exception second depth name)) (longest_by exception first depth name)
longest_from-ways node exception depth found label name first second e f here =
    let ways = ways-max exception depth name (child node label) (child_by_star node label) in
    let one = ap (λ way. longest_by exception way depth name) e in
    let two = ap (λ way. longest_by exception way depth name) f in
    omega (arith, ways, one, two)

-- one turn of the walk keeps what is found in all
pub walk_next : (node next : RuleSet) (exception : Bool) (depth : ℕ) (label : List ℕ) (labels name : List (List ℕ))
    (first second : Option RuleSet) (found by_second both_found ending all_found total : ℕ)
    → labels ≡ label ∷ name
    → first ≡ option_or (child node label) (child_by_star node label)
    → second ≡ option_and_then (λ _. child_by_star node label) (child node label)
    → first ≡ Some next
    → ending_at node exception depth ≤ found
    → max found (longest_from node exception depth labels) ≡ total
    → by_second ≡ longest_by exception second depth name → both_found ≡ max found by_second
    → ending ≡ ending_at next exception (depth + 1) → all_found ≡ max both_found ending
    → max all_found (longest_from next exception (depth + 1) name) ≡ total
walk_next node next exception depth label labels name first second found by_second both_found ending all_found total l e f n here all s
    b d m =
    let ways = longest_from-ways node exception depth found label name first second e f here in
    let whole = ap (λ ls. max found (longest_from node exception depth ls)) (sym l) ∙ all in
    let on = ap (λ way. longest_by exception way depth name) n in
    let least = ending_at-le next exception (depth + 1) name in
    omega (arith, ways, whole, on, least, s, b, d, m)

pub joined-shorter : (before : Option (Bor (List ℕ))) (label text : List ℕ) → text ≡ joined (option_copied before) label
    → option_map_or (λ name. length name.now + 1) before 0 ≤ length text
joined-shorter None label text e = omega arith
joined-shorter (Some before) label text e = omega (arith, ap length e, length-append before.now (46 ∷ label))

-- ---- a rule by its labels

child_is : (rules : RuleSet) (label : List ℕ) (b : Bool) (node : RuleSet) → cond b (Some (below rules label)) None ≡ Some node
    → below rules label ≡ node
child_is rules label true node e = some_one (below rules label) node e
child_is rules label false node e = absurd (none_some node e)

-- the rules at a child are the rests of those at the node
pub contains-child : (rules node : RuleSet) (label : List ℕ) (labels : List (List ℕ)) (exception : Bool) → child rules label ≡ Some node
    → set.contains node (labels, exception) ≡ set.contains rules (label ∷ labels, exception)
contains-child rules node label labels exception e =
    ap (λ (s : RuleSet). set.contains s (labels, exception)) (sym (child_is rules label (has_rules (below rules label)) node e))
    ∙ contains-below rules label labels exception

no_child : (b c : Bool) (node : RuleSet) → cond b (Some node) None ≡ None → (c ≡ true → b ≡ true) → c ≡ false
no_child true c node e f = absurd (none_some node (sym e))
no_child false true node e f = sym (f refl)
no_child false false node e f = refl

pub contains-no_child : (rules : RuleSet) (label : List ℕ) (labels : List (List ℕ)) (exception : Bool) → child rules label ≡ None
    → set.contains rules (label ∷ labels, exception) ≡ false
contains-no_child rules label labels exception e =
    no_child (has_rules (below rules label)) (set.contains rules (label ∷ labels, exception)) (below rules label) e
    (λ there. has_rules-some (below rules label) (labels, exception) (contains-below rules label labels exception ∙ there))
