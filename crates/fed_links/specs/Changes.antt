-- What the calls write. For private clauses alone.
use Rattle.std.specs.Prelude.{ℕ, cond, List, [], ◌∷◌, Option, Some, None, slice_set, zero, suc, ◌++◌, length}
use Rattle.fed_links.specs.Threads.{same_link, slot_at, after_at, before_at, wait_after_at, wait_before_at}
use Rattle.fed_links.specs.declared.node.Slot.{Slot}
use Rattle.fed_links.specs.declared.node.Ends.{Ends}

-- a slot with another link forward in its page list
abbrev pub with_after : Option ℕ → Slot → Slot
with_after link slot =
    record {
      node = record { before = slot.node.before; after = link; wait_before = slot.node.wait_before; wait_after = slot.node.wait_after };
      page = slot.page;
      origin = slot.origin;
    }

-- a slot with another link back in its page list
abbrev pub with_before : Option ℕ → Slot → Slot
with_before link slot =
    record {
      node = record { before = link; after = slot.node.after; wait_before = slot.node.wait_before; wait_after = slot.node.wait_after };
      page = slot.page;
      origin = slot.origin;
    }

-- a slot with another link forward in its waiting list
abbrev pub with_wait_after : Option ℕ → Slot → Slot
with_wait_after link slot =
    record {
      node = record { before = slot.node.before; after = slot.node.after; wait_before = slot.node.wait_before; wait_after = link };
      page = slot.page;
      origin = slot.origin;
    }

-- a slot with another link back in its waiting list
abbrev pub with_wait_before : Option ℕ → Slot → Slot
with_wait_before link slot =
    record {
      node = record { before = slot.node.before; after = slot.node.after; wait_before = link; wait_after = slot.node.wait_after };
      page = slot.page;
      origin = slot.origin;
    }

-- the slot that a link leads to is written anew, if it leads to one
abbrev pub with_slot : (Slot → Slot) → List Slot → Option ℕ → List Slot
with_slot change slots None = slots
with_slot change slots (Some node) = slice_set slots node (change (slot_at slots node))

-- the link forward from a place is this, as far as the ends have it: where the place is the end
abbrev pub with_first_link : Ends → Option ℕ → Option ℕ → Ends
with_first_link ends place link = record { first = cond (same_link None place) link ends.first; last = ends.last }

-- the same of the link back
abbrev pub with_last_link : Ends → Option ℕ → Option ℕ → Ends
with_last_link ends place link = record { first = ends.first; last = cond (same_link None place) link ends.last }

-- a node that has just come to a page list, after another
abbrev pub added_slot : Option ℕ → ℕ → Slot
added_slot before page =
    record {
      node = record { before = before; after = None; wait_before = None; wait_after = None };
      page = Some page;
      origin = None;
    }

-- a node that waits, after another
abbrev pub waiting_slot : Option ℕ → ℕ → Slot → Slot
waiting_slot before origin slot =
    record {
      node = record { before = slot.node.before; after = slot.node.after; wait_before = before; wait_after = None };
      page = slot.page;
      origin = Some origin;
    }

-- a node that waits nowhere
abbrev pub idle_slot : Slot → Slot
idle_slot slot =
    record {
      node = record { before = slot.node.before; after = slot.node.after; wait_before = None; wait_after = None };
      page = slot.page;
      origin = None;
    }

-- a free node, before another
abbrev pub free_slot : Option ℕ → Slot
free_slot after =
    record {
      node = record { before = None; after = after; wait_before = None; wait_after = None };
      page = None;
      origin = None;
    }

-- a node comes to the end of a page list
abbrev pub slots_after_add : List Slot → Ends → ℕ → ℕ → List Slot
slots_after_add slots ends page node = with_slot (with_after (Some node)) (slice_set slots node (added_slot ends.last page)) ends.last

-- the ends of a list to whose end a node comes
abbrev pub ends_after_add : Ends → ℕ → Ends
ends_after_add ends node = record { first = cond (same_link None ends.last) (Some node) ends.first; last = Some node }

-- a node waits at the end of a waiting list
abbrev pub slots_after_wait : List Slot → Ends → ℕ → ℕ → List Slot
slots_after_wait slots ends origin node =
    with_slot (with_wait_after (Some node)) (with_slot (waiting_slot ends.last origin) slots (Some node)) ends.last

-- the neighbours of a node in its page list become one another's
abbrev pub slots_after_join : List Slot → ℕ → List Slot
slots_after_join slots node =
    with_slot (with_before (before_at slots node)) (with_slot (with_after (after_at slots node)) slots (before_at slots node))
    (after_at slots node)

-- the ends of a list from which a node goes that stood between these
abbrev pub ends_after_join : Ends → Option ℕ → Option ℕ → Ends
ends_after_join ends before after =
    record { first = cond (same_link None before) after ends.first; last = cond (same_link None after) before ends.last }

-- a node leaves its waiting list
abbrev pub slots_after_leave : List Slot → ℕ → List Slot
slots_after_leave slots node =
    with_slot idle_slot (with_slot (with_wait_before (wait_before_at slots node))
    (with_slot (with_wait_after (wait_after_at slots node)) slots (wait_before_at slots node)) (wait_after_at slots node)) (Some node)

-- so many nodes more, each free before those that were
abbrev pub with_free_slots : ℕ → List Slot → Option ℕ → List Slot × Option ℕ
with_free_slots zero slots free = (slots, free)
with_free_slots (suc more) slots free = with_free_slots more (slots ++ free_slot free ∷ []) (Some (length slots))
