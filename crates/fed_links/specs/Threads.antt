-- What ties stored links to the lists that contracts see. For private clauses alone.
use Rattle.std.specs.Prelude.{ℕ, Bool, true, false, nat_eq, List, [], ◌∷◌, ◌≡◌, ◌+◌, ◌<◌, Option, Some, None, zero, suc, map, length}
use Rattle.std.specs.Prelude.{slice_index_or, ⊤}
use Rattle.fed_links.specs.Lists.{LinkLists, has, list_at, total}
use Rattle.fed_links.specs.declared.node.Slot.{Slot}
use Rattle.fed_links.specs.declared.node.Ends.{Ends}

-- whether two links lead to one node, or both to the end; or whether two numbers of lists are one, or both none
abbrev pub same_link : Option ℕ → Option ℕ → Bool
same_link None None = true
same_link None (Some b) = false
same_link (Some a) None = false
same_link (Some a) (Some b) = nat_eq a b

-- whether a link leads to a node of the list
abbrev pub leads_into : Option ℕ → List ℕ → Bool
leads_into None nodes = false
leads_into (Some node) nodes = has node nodes

-- no node stands twice in a list
abbrev pub AreDistinct : List ℕ → Type 0
AreDistinct [] = ⊤
AreDistinct (node ∷ more) = (has node more ≡ false) × AreDistinct more

-- From a place on, the links forward lead through these nodes to the end, and the links back from each to the one before. None stands for
-- the end on both sides: the link forward from it leads to the first node, the link back to the last.
abbrev pub IsSeam : (Option ℕ → Option ℕ) → (Option ℕ → Option ℕ) → Option ℕ → List ℕ → Type 0
IsSeam forward back place [] = (forward place ≡ None) × (back None ≡ place)
IsSeam forward back place (node ∷ more) =
    (forward place ≡ Some node) × (back (Some node) ≡ place) × IsSeam forward back (Some node) more

-- a link from the end, or from a node
abbrev pub link_from : Option ℕ → (ℕ → Option ℕ) → Option ℕ → Option ℕ
link_from end links None = end
link_from end links (Some node) = links node

-- the list of a number: its nodes are those whose home it is, and the links lead through them
pub record IsThread (first last : Option ℕ) (after before home : ℕ → Option ℕ) (number : ℕ) (nodes : List ℕ) : Type 0 where
  pub seam : IsSeam (link_from first after) (link_from last before) None nodes
  pub distinct : AreDistinct nodes
  pub homes : (node : ℕ) → has node nodes ≡ same_link (home node) (Some number)

-- the ends of a list that has no node
abbrev pub no_ends : Ends
no_ends = record { first = None; last = None }

abbrev pub ends_at : List Ends → ℕ → Ends
ends_at ends number = slice_index_or ends number no_ends

-- all page lists, or all waiting lists. Past the last each list is empty, so no node has its home there
abbrev pub IsFamily : (after before home : ℕ → Option ℕ) → List Ends → List (List ℕ) → Type 0
IsFamily after before home ends lists =
    (number : ℕ) → IsThread (ends_at ends number).first (ends_at ends number).last after before home number (list_at lists number)

-- a node that stands nowhere
abbrev pub blank : Slot
blank = record { node = record { before = None; after = None; wait_before = None; wait_after = None }; page = None; origin = None }

abbrev pub slot_at : List Slot → ℕ → Slot
slot_at slots node = slice_index_or slots node blank

abbrev pub after_at : List Slot → ℕ → Option ℕ
after_at slots node = (slot_at slots node).node.after

abbrev pub before_at : List Slot → ℕ → Option ℕ
before_at slots node = (slot_at slots node).node.before

abbrev pub wait_after_at : List Slot → ℕ → Option ℕ
wait_after_at slots node = (slot_at slots node).node.wait_after

abbrev pub wait_before_at : List Slot → ℕ → Option ℕ
wait_before_at slots node = (slot_at slots node).node.wait_before

abbrev pub page_at : List Slot → ℕ → Option ℕ
page_at slots node = (slot_at slots node).page

abbrev pub origin_at : List Slot → ℕ → Option ℕ
origin_at slots node = (slot_at slots node).origin

-- the free nodes, linked forward, from the first on
abbrev pub AreFree : List Slot → Option ℕ → List ℕ → Type 0
AreFree slots first [] = first ≡ None
AreFree slots first (node ∷ more) =
    (first ≡ Some node) × (node < length slots) × (page_at slots node ≡ None) × AreFree slots (after_at slots node) more

-- at most so many nodes, by links forward from the first
abbrev pub walk : (ℕ → Option ℕ) → ℕ → Option ℕ → List ℕ
walk after zero first = []
walk after (suc most) None = []
walk after (suc most) (Some node) = node ∷ walk after most (after node)

-- what the links show
abbrev pub shown : List Slot → List Ends → List Ends → Option ℕ → ℕ → LinkLists
shown slots pages origins free spare =
    record {
      pages = map (λ ends. walk (after_at slots) (length slots) ends.first) pages;
      waits = map (λ ends. walk (wait_after_at slots) (length slots) ends.first) origins;
      free = walk (after_at slots) (length slots) free;
      spare = spare;
    }

-- the links are those of the lists
pub record AreTied (slots : List Slot) (pages origins : List Ends) (free : Option ℕ) (spare : ℕ) (lists : LinkLists) : Type 0 where
  pub by_page : IsFamily (after_at slots) (before_at slots) (page_at slots) pages lists.pages
  pub by_origin : IsFamily (wait_after_at slots) (wait_before_at slots) (origin_at slots) origins lists.waits
  pub page_count : length lists.pages ≡ length pages
  pub origin_count : length lists.waits ≡ length origins
  pub chain : AreFree slots free lists.free
  pub distinct : AreDistinct lists.free
  pub fits : total lists.pages + length lists.free ≡ length slots
  pub small : length slots < 4294967296
  pub spares : lists.spare ≡ length lists.free
  pub spare_is : spare ≡ lists.spare
  pub alone : (node : ℕ) → page_at slots node ≡ None → origin_at slots node ≡ None
  pub idle : (node : ℕ) → origin_at slots node ≡ None → (wait_before_at slots node ≡ None) × (wait_after_at slots node ≡ None)
