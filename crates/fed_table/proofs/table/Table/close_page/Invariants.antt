use Rattle.std.proofs.Common.{◌≡◌, ℕ, ◌+◌, ◌*◌, ◌<◌, ◌≤◌, cond, nat_eq, Some, None, length}
use Rattle.std.specs.List.{position}
use Rattle.std.specs.Map.{keys_of}
use Rattle.fed_table.specs.Lists.{has, emptied, all_without_calls}
use Rattle.fed_table.specs.Table.{page_calls, item_of}
use Rattle.fed_table.proofs.table.Table.close_page.Given as goal

-- What is done to the calls that are left is what is done to all.
abbrev pub invariant-loop-call : goal.invariant-loop-call
invariant-loop-call g l =
    record {
      pages : emptied (nat_eq l.page) l.self.pages ≡ emptied (nat_eq l.page) l.fn.self.pages;
      waits : all_without_calls (page_calls l.self.pages l.page) l.self.waits
          ≡ all_without_calls (page_calls l.fn.self.pages l.page) l.fn.self.waits;
      items : (q : ℕ) → cond (has q (page_calls l.self.pages l.page)) None (item_of l.self.items q)
          ≡ cond (has q (page_calls l.fn.self.pages l.page)) None (item_of l.fn.self.items q);
      at : position (nat_eq l.page) (keys_of l.self.pages) ≡ Some l.list;
      count : l.count + length (page_calls l.self.pages l.page) ≡ length (page_calls l.fn.self.pages l.page);
      few : length (page_calls l.fn.self.pages l.page) < 4294967296;
      steps : l.steps + 20 * length (page_calls l.self.pages l.page) ≤ l.fn.steps + 20 * length (page_calls l.fn.self.pages l.page);
    }

abbrev pub decreases-loop-call : goal.decreases-loop-call
decreases-loop-call g l = length (page_calls l.self.pages l.page)
