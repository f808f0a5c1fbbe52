-- Items by the places of their calls.
use Rattle.std.proofs.Common.{◌≡◌, ℕ, Bool, true, false, cond, nat_eq, List, [], ◌∷◌, Option, Some, None, is_some}
use Rattle.std.proofs.Common.{option_map, option_and_then, refl, sym, ap, ◌∙◌}
use Rattle.std.specs.Map.{lookup, set_value}
use Rattle.std.specs.Option.{option_map_or}
use Rattle.std.proofs.lemmas.Bool.{eqb-true}
use Rattle.std.proofs.lemmas.Map.Made.{lookup-map_values}
use Rattle.fed_table.specs.declared.place.CallPlace.{CallPlace}
use Rattle.fed_table.specs.Table.{item_of, has_call, present_item, lent_out, node_in, ChangesItem}
use Rattle.fed_table.specs.Kept.{items_in, nodes_in, place_node, with_item, ChangesPlace}

module _ {C : Type 0} where
  abbrev pub item_in : CallPlace C → Option C
  item_in place = place.item

  pub item_is : (c : ℕ) (es : List (ℕ × CallPlace C)) → item_of (items_in es) c ≡ option_map item_in (lookup (nat_eq c) es)
  item_is c es = lookup-map_values item_in (nat_eq c) es

  pub present_is : (c : ℕ) (es : List (ℕ × CallPlace C))
      → option_and_then item_in (lookup (nat_eq c) es) ≡ present_item (items_in es) c
  present_is c es = by (lookup (nat_eq c) es) ∙ sym (ap (option_and_then (λ item. item)) (item_is c es))
    where
      by : (o : Option (CallPlace C)) → option_and_then item_in o ≡ option_and_then (λ item. item) (option_map item_in o)
      by None = refl
      by (Some p) = refl

  abbrev pub node_at : CallPlace C → ℕ
  node_at place = place.node

  pub node_is : (c : ℕ) (es : List (ℕ × CallPlace C)) → node_in (nodes_in es) c ≡ place_node es c
  node_is c es = lookup-map_values node_at (nat_eq c) es

  pub there_is : (c : ℕ) (es : List (ℕ × CallPlace C)) → has_call (items_in es) c ≡ is_some (place_node es c)
  there_is c es = ap is_some (item_is c es) ∙ by (lookup (nat_eq c) es)
    where
      by : (o : Option (CallPlace C)) → is_some (option_map item_in o) ≡ is_some (option_map node_at o)
      by None = refl
      by (Some p) = refl

  pub item_changes : (c : ℕ) (p : Option (CallPlace C)) (old new : List (ℕ × CallPlace C)) → ChangesPlace c p old new
      → ChangesItem c (option_map item_in p) (items_in old) (items_in new)
  item_changes c p old new change q =
      item_is q new ∙ ap (option_map item_in) (change q) ∙ by (nat_eq c q)
    where
      by : (t : Bool) → option_map item_in (cond t p (lookup (nat_eq q) old)) ≡ cond t (option_map item_in p) (item_of (items_in old) q)
      by true = refl
      by false = sym (item_is q old)

  pub item_lent : (c : ℕ) (old new : List (ℕ × CallPlace C))
      → ChangesPlace c (option_map (with_item None) (lookup (nat_eq c) old)) old new
      → ChangesItem c (lent_out (item_of (items_in old) c)) (items_in old) (items_in new)
  item_lent c old new change q =
      item_changes c _ old new change q
      ∙ ap (λ o. cond (nat_eq c q) o (item_of (items_in old) q)) (by (lookup (nat_eq c) old) ∙ ap lent_out (sym (item_is c old)))
    where
      by : (l : Option (CallPlace C)) → option_map item_in (option_map (with_item None) l) ≡ lent_out (option_map item_in l)
      by None = refl
      by (Some p) = refl

  pub item_given : (c : ℕ) (item : C) (old new : List (ℕ × CallPlace C)) → has_call (items_in old) c ≡ true
      → ChangesPlace c (option_map (with_item (Some item)) (lookup (nat_eq c) old)) old new
      → ChangesItem c (Some (Some item)) (items_in old) (items_in new)
  item_given c item old new there change q =
      item_changes c _ old new change q
      ∙ ap (λ o. cond (nat_eq c q) o (item_of (items_in old) q))
      (by (lookup (nat_eq c) old) (sym (ap is_some (item_is c old)) ∙ there))
    where
      by : (l : Option (CallPlace C)) → is_some (option_map item_in l) ≡ true
          → option_map item_in (option_map (with_item (Some item)) l) ≡ Some (Some item)
      by None e = absurd cc
      by (Some p) e = refl

  -- the node of this call is another, and each other call keeps its own
  pub node_changes : (c : ℕ) (p : Option (CallPlace C)) (old new : List (ℕ × CallPlace C)) → ChangesPlace c p old new
      → (q : ℕ) → place_node new q ≡ cond (nat_eq c q) (option_map node_at p) (place_node old q)
  node_changes c p old new change q = ap (option_map node_at) (change q) ∙ by (nat_eq c q)
    where
      by : (t : Bool) → option_map node_at (cond t p (lookup (nat_eq q) old)) ≡ cond t (option_map node_at p) (place_node old q)
      by true = refl
      by false = refl

  pub node_stays : (c : ℕ) (item : Option C) (old new : List (ℕ × CallPlace C))
      → ChangesPlace c (option_map (with_item item) (lookup (nat_eq c) old)) old new → (q : ℕ) → place_node new q ≡ place_node old q
  node_stays c item old new change q = ap (option_map node_at) (change q) ∙ by (nat_eq c q) refl
    where
      same : (o : Option (CallPlace C)) → option_map node_at (option_map (with_item item) o) ≡ option_map node_at o
      same None = refl
      same (Some p) = refl

      by : (t : Bool) → nat_eq c q ≡ t
          → option_map node_at (cond t (option_map (with_item item) (lookup (nat_eq c) old)) (lookup (nat_eq q) old)) ≡ place_node old q
      by true is = same (lookup (nat_eq c) old) ∙ ap (place_node old) (eqb-true c q is)
      by false is = refl

  -- another item is no other node
  nodes_stay : (c : ℕ) (item : Option C) (p : CallPlace C) (es : List (ℕ × CallPlace C)) → lookup (nat_eq c) es ≡ Some p
      → nodes_in (set_value (nat_eq c) es (with_item item p)) ≡ nodes_in es
  nodes_stay c item p [] is = refl
  nodes_stay c item p (e ∷ es) is = by (nat_eq c e.0) is (nodes_stay c item p es)
    where
      by : (t : Bool) → cond t (Some e.1) (lookup (nat_eq c) es) ≡ Some p
          → (lookup (nat_eq c) es ≡ Some p → nodes_in (set_value (nat_eq c) es (with_item item p)) ≡ nodes_in es)
          → nodes_in (cond t ((e.0, with_item item p) ∷ es) (e ∷ set_value (nat_eq c) es (with_item item p))) ≡ nodes_in (e ∷ es)
      by true is rest = let same : e.1 ≡ p = cc in ap (λ (p : CallPlace C). (e.0, p.node) ∷ nodes_in es) (sym same)
      by false is rest = ap (λ ls. (e.0, e.1.node) ∷ ls) (rest is)

  pub same_nodes : (c : ℕ) (item : Option C) (old new : List (ℕ × CallPlace C))
      → new ≡ option_map_or (λ place. set_value (nat_eq c) old (with_item item place)) (lookup (nat_eq c) old) old
      → nodes_in new ≡ nodes_in old
  same_nodes c item old new is = ap nodes_in is ∙ by (lookup (nat_eq c) old) refl
    where
      by : (p : Option (CallPlace C)) → lookup (nat_eq c) old ≡ p
          → nodes_in (option_map_or (λ place. set_value (nat_eq c) old (with_item item place)) p old) ≡ nodes_in old
      by None e = refl
      by (Some p) e = nodes_stay c item p old e
