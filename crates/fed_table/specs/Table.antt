-- Pages with their calls, and their items, as contracts see them.
use Rattle.std.specs.Prelude.{ℕ, Bool, cond, nat_eq, ◌≡◌, ◌<◌, ◌≤◌, List, Option, Some, None, option_and_then, is_some}
use Rattle.std.specs.List.{IsDistinct, filter_map}
use Rattle.std.specs.Map.{lookup, keys_of, values_of}
use Rattle.fed_links.specs.Lists.{LinkLists, list_at}
use Rattle.fed_origin.specs.declared.origin.Origin.{Origin}
use Rattle.fed_origin.specs.Origin.{same_origin}
use Rattle.fed_table.specs.Lists.{has, calls_at, times_in, total}

-- the pages in order of first opening, each with its calls; the provider origins in the order in which they were first waited for, each
-- with the calls that wait for it; each call's item, none where it is lent out; the linked lists of nodes; and each call's node. The order
-- of the items, and of the nodes, says nothing
pub record TableParts (C : Type 0) : Type 0 where
  pub pages : List (ℕ × List ℕ)
  pub waits : List (Origin × List ℕ)
  pub items : List (ℕ × Option C)
  pub links : LinkLists
  pub nodes : List (ℕ × ℕ)

-- whether a page was added
abbrev pub has_page : List (ℕ × List ℕ) → ℕ → Bool
has_page pages page = is_some (lookup (nat_eq page) pages)

-- the calls of a page
abbrev pub page_calls : List (ℕ × List ℕ) → ℕ → List ℕ
page_calls pages page = calls_at (nat_eq page) pages

-- the calls that wait for a provider origin
abbrev pub waiting_for : List (Origin × List ℕ) → Origin → List ℕ
waiting_for waits origin = calls_at (same_origin origin) waits

-- the node of a call, none where it is not in the table
abbrev pub node_in : List (ℕ × ℕ) → ℕ → Option ℕ
node_in nodes call = lookup (nat_eq call) nodes

-- the nodes of calls, in their order
abbrev pub nodes_of : List (ℕ × ℕ) → List ℕ → List ℕ
nodes_of nodes calls = filter_map (node_in nodes) calls

module _ {C : Type 0} where
  -- what is known of a call's item: nothing where the call is not in the table, no item where it is lent out
  abbrev pub item_of : List (ℕ × Option C) → ℕ → Option (Option C)
  item_of items call = lookup (nat_eq call) items

  -- whether a call is in the table
  abbrev pub has_call : List (ℕ × Option C) → ℕ → Bool
  has_call items call = is_some (item_of items call)

  -- the present item of a call
  abbrev pub present_item : List (ℕ × Option C) → ℕ → Option C
  present_item items call = option_and_then (λ item. item) (item_of items call)

  -- the same, once it is lent out
  abbrev pub lent_out : Option (Option C) → Option (Option C)
  lent_out None = None
  lent_out (Some item) = Some None

  -- what is known of this call's item changes, and of no other's
  abbrev pub ChangesItem : ℕ → Option (Option C) → List (ℕ × Option C) → List (ℕ × Option C) → Type 0
  ChangesItem call known old new = (other : ℕ) → item_of new other ≡ cond (nat_eq call other) known (item_of old other)

  -- the items of these calls go, and all others stay
  abbrev pub LosesItems : List ℕ → List (ℕ × Option C) → List (ℕ × Option C) → Type 0
  LosesItems gone old new = (other : ℕ) → item_of new other ≡ cond (has other gone) None (item_of old other)

  -- what is so of each table. No page and no origin stands twice. A call that is in the table stands once in the pages' lists, and no
  -- other call does. A call waits at most once, and only where it is in the table. There are fewer than 2 ^ 32 calls. Just the calls that
  -- are in the table have a node, and no two have one. The page list of the links at a place holds the nodes of the calls of the page at
  -- that place, in their order, and the waiting list those of the calls that wait for the origin at that place; past the last page, and
  -- past the last origin, each list of the links is empty
  pub record IsCallTable (table : TableParts C) : Type 0 where
    pub pages : IsDistinct nat_eq (keys_of table.pages)
    pub origins : IsDistinct same_origin (keys_of table.waits)
    pub standing : (call : ℕ) → times_in call table.pages ≡ cond (has_call table.items call) 1 0
    pub waiting : (call : ℕ) → times_in call table.waits ≤ cond (has_call table.items call) 1 0
    pub few : total table.pages < 4294967296
    pub noded : (call : ℕ) → is_some (node_in table.nodes call) ≡ has_call table.items call
    pub apart : (a b node : ℕ) → node_in table.nodes a ≡ Some node → node_in table.nodes b ≡ Some node → a ≡ b
    pub page_nodes : (place : ℕ) → list_at table.links.pages place ≡ nodes_of table.nodes (list_at (values_of table.pages) place)
    pub wait_nodes : (place : ℕ) → list_at table.links.waits place ≡ nodes_of table.nodes (list_at (values_of table.waits) place)
