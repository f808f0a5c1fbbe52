-- Nodes in lists, as contracts see them.
use Rattle.std.specs.Prelude.{ℕ, Bool, true, false, zero, suc, cond, nat_eq, List, [], ◌∷◌, ◌++◌, Option, Some, None, length, map}
use Rattle.std.specs.Prelude.{replicate, slice_index_or, slice_set, ◌+◌, ◌-◌, ◌<◌, ◌≤◌, ◌≡◌}

-- the page lists, the waiting lists, the free nodes, and how many nodes can be added without memory
pub record LinkLists : Type 0 where
  pub pages : List (List ℕ)
  pub waits : List (List ℕ)
  pub free : List ℕ
  pub spare : ℕ

-- whether a node stands in a list
abbrev pub has : ℕ → List ℕ → Bool
has node [] = false
has node (other ∷ more) = cond (nat_eq node other) true (has node more)

-- whether a node stands in one of the lists
abbrev pub stands_in : ℕ → List (List ℕ) → Bool
stands_in node [] = false
stands_in node (nodes ∷ more) = cond (has node nodes) true (stands_in node more)

-- how often a node stands in a list
abbrev pub times : ℕ → List ℕ → ℕ
times node [] = 0
times node (other ∷ more) = cond (nat_eq node other) 1 0 + times node more

-- how often a node stands in all lists together
abbrev pub times_in : ℕ → List (List ℕ) → ℕ
times_in node [] = 0
times_in node (nodes ∷ more) = times node nodes + times_in node more

-- how many nodes stand in all lists together
abbrev pub total : List (List ℕ) → ℕ
total [] = 0
total (nodes ∷ more) = length nodes + total more

-- what is so of all linked lists. No node stands twice among page lists and free nodes, nor twice among waiting lists; one that waits
-- stands in a page list. There are as many spare nodes as free ones, and fewer than 2 ^ 32 nodes
pub record AreLinkLists (lists : LinkLists) : Type 0 where
  pub once : (node : ℕ) → times_in node lists.pages + times node lists.free ≤ 1
  pub waiting : (node : ℕ) → times_in node lists.waits ≤ times_in node lists.pages
  pub spare : lists.spare ≡ length lists.free
  pub few : total lists.pages + length lists.free < 4294967296

-- the list at a place, and none past the end
abbrev pub list_at : List (List ℕ) → ℕ → List ℕ
list_at lists place = slice_index_or lists place []

-- the lists with a node at the end of the one at a place
abbrev pub with_last : ℕ → ℕ → List (List ℕ) → List (List ℕ)
with_last place node lists = slice_set lists place (list_at lists place ++ node ∷ [])

-- a list without a node
abbrev pub without : ℕ → List ℕ → List ℕ
without node [] = []
without node (other ∷ more) = cond (nat_eq node other) (without node more) (other ∷ without node more)

-- each list without a node
abbrev pub all_without : ℕ → List (List ℕ) → List (List ℕ)
all_without node lists = map (without node) lists

-- the lists, and empty ones after them, so many that there are at least this number
abbrev pub with_empty : ℕ → List (List ℕ) → List (List ℕ)
with_empty count lists = lists ++ replicate (count - length lists) []

-- more free nodes, each before those that were free; their numbers go on from the first
abbrev pub with_free : ℕ → ℕ → List ℕ → List ℕ
with_free zero first free = free
with_free (suc more) first free = with_free more (first + 1) (first ∷ free)

-- the first node of a list
abbrev pub first_of : List ℕ → Option ℕ
first_of [] = None
first_of (node ∷ more) = Some node

-- the node after a node in its list
abbrev pub after_in : List ℕ → ℕ → Option ℕ
after_in [] node = None
after_in (other ∷ more) node = cond (nat_eq node other) (first_of more) (after_in more node)

-- the node before a node in a list that stands after another
abbrev pub before_from : Option ℕ → List ℕ → ℕ → Option ℕ
before_from before [] node = None
before_from before (other ∷ more) node = cond (nat_eq node other) before (before_from (Some other) more node)

-- the node after a node in the list where it stands, if it stands in one
abbrev pub after_among : List (List ℕ) → ℕ → Option ℕ
after_among [] node = None
after_among (nodes ∷ more) node = cond (has node nodes) (after_in nodes node) (after_among more node)

-- the node before a node in the list where it stands, if it stands in one
abbrev pub before_among : List (List ℕ) → ℕ → Option ℕ
before_among [] node = None
before_among (nodes ∷ more) node = cond (has node nodes) (before_from None nodes node) (before_among more node)
