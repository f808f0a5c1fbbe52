-- What the linked lists of pending calls are by a trace, and how many links an event reads or writes at most.
use Rattle.std.specs.Prelude.{◌≡◌, ◌+◌, ◌*◌, ℕ, Bool, cond, nat_eq, List, [], Option, Some, None, is_some, map}
use Rattle.std.specs.List.{list_any}
use Rattle.fed_links.specs.Lists.{LinkLists, list_at}
use Rattle.fed_origin.specs.declared.origin.Origin.{Origin}
use Rattle.fed_origin.specs.Origin.{is_trustworthy}
use Rattle.fed_script.specs.declared.event.Event.{Event}
use Rattle.fed_script.specs.declared.event.Event.TheVariants.{Load, ClosePage, IdpClose}
use Rattle.fed_table.specs.Table.{node_in, nodes_of}
use Rattle.fed_trace.specs.Trace.{Trace, pending, pending_of}
use Rattle.fed_trace.specs.Windows.{pages_loaded, origins_waited, windows_of}
use Rattle.fed_session.specs.Session.{numbers_in}

-- whether a call is pending
abbrev pub is_pending : Trace → ℕ → Bool
is_pending T call = list_any (λ p. nat_eq call p.0) (pending T)

-- Just the pending calls have a node, and no two have one. The page list at a place holds the nodes of the pending calls of the page at
-- that place in the order of first loads, in their order; the waiting list at a place those of the calls whose login window is open, of the
-- provider origin at that place in the order of first windows. Every further list is empty
pub record AreLinked (links : LinkLists) (nodes : List (ℕ × ℕ)) (T : Trace) : Type 0 where
  pub noded : (call : ℕ) → is_some (node_in nodes call) ≡ is_pending T call
  pub apart : (a b node : ℕ) → node_in nodes a ≡ Some node → node_in nodes b ≡ Some node → a ≡ b
  pub page_nodes : (place : ℕ) → list_at links.pages place
      ≡ nodes_of nodes (list_at (map (λ page. numbers_in (pending_of T page)) (pages_loaded T)) place)
  pub wait_nodes : (place : ℕ) → list_at links.waits place ≡ nodes_of nodes (list_at (map (windows_of T) (origins_waited T)) place)

-- the calls that go on where a page says that the user has signed in: by its origin, if it stands, and by the calls that wait for each
abbrev pub resumed_calls : (Origin → List ℕ) → Option Origin → List ℕ
resumed_calls waiting None = []
resumed_calls waiting (Some origin) = cond (is_trustworthy origin) (waiting origin) []

-- how many links an event reads or writes at most, by how many pending calls a page has, and how many calls go on at its page
abbrev pub most_steps : (ℕ → ℕ) → (ℕ → ℕ) → Event → ℕ
most_steps held resumed (Load page url raw) = 20 * held page + 8
most_steps held resumed (ClosePage page) = 20 * held page + 8
most_steps held resumed (IdpClose page) = 20 * resumed page + 8
most_steps held resumed _ = 20
