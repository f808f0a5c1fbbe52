-- How calls are kept: as nodes of linked lists. For private clauses alone.
use Rattle.std.specs.Prelude.{ℕ, true, cond, nat_eq, ◌≡◌, ◌+◌, ◌<◌, ◌≤◌, ◌++◌, List, [], ◌∷◌, Option, Some, None}
use Rattle.std.specs.Prelude.{option_map, is_some, map, length, slice_set, slice_index_or}
use Rattle.std.specs.Map.{lookup}
use Rattle.fed_links.specs.Lists.{LinkLists, has, stands_in, times_in, total, list_at}
use Rattle.fed_origin.specs.declared.origin.Origin.{Origin}
use Rattle.fed_table.specs.Table.{TableParts, has_call, node_in, nodes_of}
use Rattle.fed_table.specs.declared.place.CallPlace.{CallPlace}

-- lists under their keys, in order; where there are too few lists the last keys have none
abbrev pub keyed : {K : Type 0} → List K → List (List ℕ) → List (K × List ℕ)
keyed [] lists = []
keyed (key ∷ more) [] = (key, []) ∷ keyed more []
keyed (key ∷ more) (calls ∷ rest) = (key, calls) ∷ keyed more rest

-- the call of a node
abbrev pub owner : List ℕ → ℕ → ℕ
owner owners node = slice_index_or owners node 0

-- the calls of nodes with this one more, which is used again or is the next new one
abbrev pub with_owner : ℕ → ℕ → List ℕ → List ℕ
with_owner node call owners = cond (nat_eq node (length owners)) (owners ++ call ∷ []) (slice_set owners node call)

-- a list from this node on
abbrev pub rest_from : Option ℕ → List ℕ → List ℕ
rest_from None nodes = []
rest_from (Some node) [] = []
rest_from (Some node) (other ∷ more) = cond (nat_eq node other) (other ∷ more) (rest_from (Some node) more)

module _ {C : Type 0} where
  -- the node of a call
  abbrev pub place_node : List (ℕ × CallPlace C) → ℕ → Option ℕ
  place_node places call = option_map (λ place. place.node) (lookup (nat_eq call) places)

  abbrev pub items_in : List (ℕ × CallPlace C) → List (ℕ × Option C)
  items_in places = map (λ entry. (entry.0, entry.1.item)) places

  abbrev pub nodes_in : List (ℕ × CallPlace C) → List (ℕ × ℕ)
  nodes_in places = map (λ entry. (entry.0, entry.1.node)) places

  -- this call has another place, and all others have theirs
  abbrev pub ChangesPlace : ℕ → Option (CallPlace C) → List (ℕ × CallPlace C) → List (ℕ × CallPlace C) → Type 0
  ChangesPlace call place old new = (other : ℕ)
      → lookup (nat_eq other) new ≡ cond (nat_eq call other) place (lookup (nat_eq other) old)

  -- the same place with another item, or none
  abbrev pub with_item : Option C → CallPlace C → CallPlace C
  with_item item place = record { node = place.node; item = item }

  -- each node of a page list is that of its call, and each call stands in a page list by its node. There is a call for each node, also for
  -- those that are free
  pub record AreOwned (pages : List (List ℕ)) (free owners : List ℕ) (places : List (ℕ × CallPlace C)) : Type 0 where
    pub owned : (node : ℕ) → stands_in node pages ≡ true → place_node places (owner owners node) ≡ Some node
    pub there : (call node : ℕ) → place_node places call ≡ Some node → (stands_in node pages ≡ true) × (owner owners node ≡ call)
    pub cells : length owners ≡ total pages + length free
    pub within : (node : ℕ) → stands_in node pages ≡ true → node < length owners
    pub free_within : (node : ℕ) → has node free ≡ true → node < length owners

-- lists of calls by number, with the items of the calls, their nodes, and the lists of these
pub record CallLists (C : Type 0) : Type 0 where
  pub pages : List (List ℕ)
  pub waits : List (List ℕ)
  pub items : List (ℕ × Option C)
  pub links : LinkLists
  pub nodes : List (ℕ × ℕ)

module _ {C : Type 0} where
  abbrev pub calls_shown : LinkLists → List ℕ → List (ℕ × CallPlace C) → CallLists C
  calls_shown links owners places =
      record {
        pages = map (map (owner owners)) links.pages;
        waits = map (map (owner owners)) links.waits;
        items = items_in places;
        links = links;
        nodes = nodes_in places;
      }

  -- what is so of lists of calls by number, as of those of a table
  pub record AreCallLists (calls : CallLists C) : Type 0 where
    pub standing : (call : ℕ) → times_in call calls.pages ≡ cond (has_call calls.items call) 1 0
    pub waiting : (call : ℕ) → times_in call calls.waits ≤ cond (has_call calls.items call) 1 0
    pub few : total calls.pages < 4294967296
    pub noded : (call : ℕ) → is_some (node_in calls.nodes call) ≡ has_call calls.items call
    pub apart : (a b node : ℕ) → node_in calls.nodes a ≡ Some node → node_in calls.nodes b ≡ Some node → a ≡ b
    pub page_nodes : (place : ℕ) → list_at calls.links.pages place ≡ nodes_of calls.nodes (list_at calls.pages place)
    pub wait_nodes : (place : ℕ) → list_at calls.links.waits place ≡ nodes_of calls.nodes (list_at calls.waits place)

  abbrev pub table_shown : List ℕ → List Origin → CallLists C → TableParts C
  table_shown pages origins calls =
      record {
        pages = keyed pages calls.pages;
        waits = keyed origins calls.waits;
        items = calls.items;
        links = calls.links;
        nodes = calls.nodes;
      }

  -- there is a list for each page and each origin, and few enough to be numbered
  pub record AreListed (pages : List ℕ) (origins : List Origin) (calls : CallLists C) : Type 0 where
    pub page_lists : length pages ≡ length calls.pages
    pub origin_lists : length origins ≡ length calls.waits
    pub few_pages : length pages < 4294967296
    pub few_origins : length origins < 4294967296
