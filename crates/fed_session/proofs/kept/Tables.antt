-- What is so of all pages and calls stays so.
use Rattle.std.proofs.Common.{◌≡◌, ◌≤◌, ◌+◌, ℕ, Bool, true, false, nat_eq, ◌||◌, List, [], ◌∷◌, ◌++◌, length, Some, None, is_some}
use Rattle.std.proofs.Common.{refl, sym, ap, ◌∙◌, arith, cond, subst}
use Rattle.std.proofs.lemmas.Bool.Decides.{nat_tests}
use Rattle.std.proofs.lemmas.List.{length-append}
use Rattle.std.proofs.lemmas.Map.{length-set_value}
use Rattle.std.specs.Prelude.{Option, IfSome, option_map, option_and_then, unwrap_or}
use Rattle.std.specs.List.{list_any}
use Rattle.std.specs.Map.{lookup, keys_of}
use Rattle.indexmap.specs.IndexMap.{insert_entry, shift_remove_entry}
use Rattle.fed_origin.specs.declared.origin.Origin.{Origin}
use Rattle.fed_origin.specs.Origin.{same_origin}
use Rattle.fed_table.specs.Lists.{has, without, all_without, all_without_calls, with_last, with_key, emptied, stands_in, total, calls_at}
use Rattle.fed_table.specs.Table.{TableParts, has_page, page_calls, item_of, has_call, present_item, lent_out, ChangesItem, LosesItems}
use Rattle.fed_table.specs.Table.{IsCallTable}
use Rattle.fed_table.proofs.closing.Counts.{length-without}
use Rattle.fed_trace.specs.Begun.{is_get}
use Rattle.fed_trace.specs.Call.{Known, kind_of, page_of}
use Rattle.fed_trace.proofs.keyed.Entries.{lookup-set_value, insert_absent}
use Rattle.fed_trace.proofs.keyed.Keyed.{lookup-insert_entry}
use Rattle.fed_session.specs.Session.{TabsParts, item_known, no_table}
use Rattle.fed_session.specs.StepParts.{get_but, awaits, awaited_in}
use Rattle.fed_session.specs.Tabs.{AreTabs, ChangesGet, ChangesKnown, LosesKnown, Ends, Enters, waits_next, Stays, Waits, Leaves, GoesOn}
use Rattle.fed_session.proofs.kept.Loaded.{keys_last}
use Rattle.fed_session.proofs.kept.Waiting.{stands_without, stands_without_calls, stands_last, length_without_calls, length_last}
use Rattle.fed_session.proofs.kept.Waiting.{none_stands}
use Rattle.fed_session.proofs.kept.Waiting.{length_without as waits_without}

abbrev Items : Type 0
Items = List (ℕ × Option (Option Known))

abbrev Lists : Type 0
Lists = List (ℕ × List ℕ)

-- ---- pages of the table

page_emptied : (q page : ℕ) (lists : Lists) → has_page (emptied (nat_eq page) lists) q ≡ has_page lists q
page_emptied q page lists = ap is_some (lookup-set_value q page [] lists) ∙ go (nat_eq q page) (lookup (nat_eq q) lists)
  where
    go : (b : Bool) (found : Option (List ℕ)) → is_some (cond b (option_map (λ calls. []) found) found) ≡ is_some found
    go true None = refl
    go true (Some calls) = refl
    go false found = refl

total_emptied : (page : ℕ) (lists : Lists) → total (emptied (nat_eq page) lists) ≤ total lists
total_emptied page [] = omega arith
total_emptied page (e ∷ lists) = go (nat_eq page e.0) (total_emptied page lists)
  where
    go : (b : Bool) → total (emptied (nat_eq page) lists) ≤ total lists
        → total (cond b ((e.0, []) ∷ lists) (e ∷ emptied (nat_eq page) lists)) ≤ total (e ∷ lists)
    go true rest = omega arith
    go false rest = omega (arith, rest)

total_loses : (call : ℕ) (lists : Lists) → total (all_without call lists) ≤ total lists
total_loses call [] = omega arith
total_loses call (e ∷ lists) = let here = length-without call e.1 in let rest = total_loses call lists in omega (arith, here, rest)

total_key : (page : ℕ) (lists : Lists) → total (lists ++ (page, []) ∷ []) ≡ total lists
total_key page [] = refl
total_key page (e ∷ lists) = ap (λ n. length e.1 + n) (total_key page lists)

none_of : {A : Type 0} (found : Option A) → is_some found ≡ false → found ≡ None
none_of None e = refl
none_of (Some x) e = absurd (cc)

key_stays : (page q : ℕ) (lists : Lists) → has_page lists q ≡ true → has_page (with_key nat_eq page lists) q ≡ true
key_stays page q lists there = go (is_some (lookup (nat_eq page) lists))
  where
    at : (b : Bool) → is_some (cond b (Some []) (lookup (nat_eq q) lists)) ≡ true
    at true = refl
    at false = there

    go : (b : Bool) → has_page (cond b lists (insert_entry nat_eq lists page [])) q ≡ true
    go true = there
    go false = ap is_some (lookup-insert_entry q page [] lists) ∙ at (nat_eq q page)

pub key_there : (page : ℕ) (lists : Lists) → has_page (with_key nat_eq page lists) page ≡ true
key_there page lists = go (is_some (lookup (nat_eq page) lists)) refl
  where
    go : (b : Bool) → is_some (lookup (nat_eq page) lists) ≡ b → has_page (cond b lists (insert_entry nat_eq lists page [])) page ≡ true
    go true is = is
    go false is =
        let own : nat_eq page page ≡ true = grind (arith, nat_tests) in
        ap is_some (lookup-insert_entry page page [] lists) ∙ ap (λ b. is_some (cond b (Some []) (lookup (nat_eq page) lists))) own

length_inserted : {V : Type 0} (key : ℕ) (value : V) (es : List (ℕ × V)) → length (insert_entry nat_eq es key value) ≤ length es + 1
length_inserted key value [] = omega arith
length_inserted {V} key value (e ∷ es) = go (nat_eq key e.0) (length_inserted key value es)
  where
    go : (b : Bool) → length (insert_entry nat_eq es key value) ≤ length es + 1
        → length (cond b ((e.0, value) ∷ es) (e ∷ insert_entry nat_eq es key value)) ≤ length (e ∷ es) + 1
    go true rest = omega arith
    go false rest = omega (arith, rest)

length_keyed : (page : ℕ) (lists : Lists) → length (with_key nat_eq page lists) ≤ length lists + 1
length_keyed page lists = go (is_some (lookup (nat_eq page) lists))
  where
    go : (b : Bool) → length (cond b lists (insert_entry nat_eq lists page [])) ≤ length lists + 1
    go true = omega arith
    go false = length_inserted page [] lists

total_keyed : (page : ℕ) (lists : Lists) → total (with_key nat_eq page lists) ≡ total lists
total_keyed page lists = go (is_some (lookup (nat_eq page) lists)) refl
  where
    go : (b : Bool) → is_some (lookup (nat_eq page) lists) ≡ b → total (cond b lists (insert_entry nat_eq lists page [])) ≡ total lists
    go true is = refl
    go false is = ap total (insert_absent page [] lists (none_of _ is)) ∙ total_key page lists

-- a call goes last
total_last : (page call : ℕ) (lists : Lists) → total (with_last nat_eq page call lists) ≤ total lists + 1
total_last page call [] = omega arith
total_last page call (e ∷ lists) = go (nat_eq page e.0) (total_last page call lists)
  where
    rest : Lists
    rest = insert_entry nat_eq lists page (calls_at (nat_eq page) lists ++ call ∷ [])

    go : (b : Bool) → total rest ≤ total lists + 1
        → total (cond b ((e.0, unwrap_or (cond b (Some e.1) (lookup (nat_eq page) lists)) [] ++ call ∷ []) ∷ lists)
        (e ∷ insert_entry nat_eq lists page (unwrap_or (cond b (Some e.1) (lookup (nat_eq page) lists)) [] ++ call ∷ [])))
        ≤ total (e ∷ lists) + 1
    go true h = let l = length-append e.1 (call ∷ []) in omega (arith, l)
    go false h = omega (arith, h)

page_last : (page call q : ℕ) (lists : Lists) → has_page lists q ≡ true → has_page (with_last nat_eq page call lists) q ≡ true
page_last page call q lists there =
    ap is_some (lookup-insert_entry q page (page_calls lists page ++ call ∷ []) lists) ∙ go (nat_eq q page)
  where
    go : (b : Bool) → is_some (cond b (Some (page_calls lists page ++ call ∷ [])) (lookup (nat_eq q) lists)) ≡ true
    go true = refl
    go false = there

page_without : (call q : ℕ) (lists : Lists) → has_page (all_without call lists) q ≡ has_page lists q
page_without call q [] = refl
page_without call q (e ∷ lists) = go (nat_eq q e.0) (page_without call q lists)
  where
    go : (b : Bool) → has_page (all_without call lists) q ≡ has_page lists q
        → is_some (cond b (Some (without call e.1)) (lookup (nat_eq q) (all_without call lists)))
        ≡ is_some (cond b (Some e.1) (lookup (nat_eq q) lists))
    go true rest = refl
    go false rest = rest

length_without : (call : ℕ) (lists : Lists) → length (all_without call lists) ≡ length lists
length_without call [] = refl
length_without call (e ∷ lists) = let rest = length_without call lists in omega (arith, rest)

-- ---- calls of the table

was_there : (b : Bool) (known old new : Option (Option (Option Known))) → new ≡ cond b known old
    → (is_some known ≡ true → is_some old ≡ true)
    → is_some new ≡ true → is_some old ≡ true
was_there true known old new e only there = only (sym (ap is_some e) ∙ there)
was_there false known old new e only there = sym (ap is_some e) ∙ there

-- ---- calls that were taken

any_more : (call other : ℕ) (taken : List ℕ) → list_any (nat_eq call) taken ≡ true → list_any (nat_eq call) (taken ++ other ∷ []) ≡ true
any_more call other [] h = absurd (cc)
any_more call other (c ∷ taken) h = go (nat_eq call c) h (λ f. any_more call other taken f)
  where
    go : (b : Bool) → b || list_any (nat_eq call) taken ≡ true
        → (list_any (nat_eq call) taken ≡ true → list_any (nat_eq call) (taken ++ other ∷ []) ≡ true)
        → b || list_any (nat_eq call) (taken ++ other ∷ []) ≡ true
    go true h later = refl
    go false h later = later h

any_last : (call : ℕ) (taken : List ℕ) → list_any (nat_eq call) (taken ++ call ∷ []) ≡ true
any_last call [] =
    let own : nat_eq call call ≡ true = grind (arith, nat_tests) in
    ap (λ b. b || false) own
any_last call (c ∷ taken) = go (nat_eq call c) (any_last call taken)
  where
    go : (b : Bool) → list_any (nat_eq call) (taken ++ call ∷ []) ≡ true → b || list_any (nat_eq call) (taken ++ call ∷ []) ≡ true
    go true h = refl
    go false h = h

-- ---- what is so

module _ {pages : List (ℕ × Origin)} {taken : List ℕ} {table : TableParts (Option Known)} {changes : ℕ}
    (h : AreTabs pages taken table changes) where
  -- another table, with no page less and no call more
  kept_table : (table' : TableParts (Option Known)) → ((q : ℕ) → has_page table.pages q ≡ true → has_page table'.pages q ≡ true)
      → ((call : ℕ) → has_call table'.items call ≡ true → has_call table.items call ≡ true)
      → length table'.pages ≤ length table.pages → total table'.pages ≤ total table.pages → length table'.waits ≡ length table.waits
      → ((call : ℕ) (known : Known) → item_known table'.items call ≡ Some known → stands_in call table'.waits ≡ is_some (awaits known))
      → AreTabs pages taken table' changes
  kept_table table' opened begun few_pages few_calls few_origins waiting = record {
    opened = λ q stands. opened q (h.opened q stands);
    begun = λ call there. h.begun call (begun call there);
    few_pages = (let f = h.few_pages in omega (arith, f, few_pages));
    few_calls = (let f = h.few_calls in omega (arith, f, few_calls));
    few_origins = (let f = h.few_origins in omega (arith, f, few_origins));
    waiting = waiting;
  }

  -- the pending calls of a page go
  pub tabs_ended : (table' : TableParts (Option Known)) (page : ℕ) (gone : List ℕ) → table'.pages ≡ emptied (nat_eq page) table.pages
      → LosesItems gone table.items table'.items → table'.waits ≡ all_without_calls gone table.waits → AreTabs pages taken table' changes
  tabs_ended table' page gone is loses waits =
      kept_table table'
      (λ q there. ap (λ lists. has_page lists q) is ∙ page_emptied q page table.pages ∙ there)
      (λ call there. was_there (has call gone) None (item_of table.items call) (item_of table'.items call) (loses call) (λ e. absurd (cc))
      there)
      (let l = ap length is ∙ length-set_value (nat_eq page) table.pages [] in omega (arith, l))
      (let t = total_emptied page table.pages in let e = ap total is in omega (arith, t, e))
      (ap length waits ∙ length_without_calls gone table.waits)
      (λ call known found. at call known (has call gone) refl
      (sym (ap (λ o. option_and_then (λ k. k) (option_and_then (λ k. k) o)) (loses call)) ∙ found))
    where
      at : (call : ℕ) (known : Known) (b : Bool) → has call gone ≡ b
          → option_and_then (λ k. k) (option_and_then (λ k. k) (cond b None (item_of table.items call))) ≡ Some known
          → stands_in call table'.waits ≡ is_some (awaits known)
      at call known true there found = absurd (cc)
      at call known false apart found =
          ap (stands_in call) waits ∙ stands_without_calls call gone table.waits apart ∙ h.waiting call known found

  -- a page is added
  pub tabs_added : (table' : TableParts (Option Known)) (page changes' : ℕ) → table'.pages ≡ with_key nat_eq page table.pages
      → table'.waits ≡ table.waits → table'.items ≡ table.items → changes' ≡ changes + 1 → AreTabs pages taken table' changes'
  tabs_added table' page changes' listed waits items more = record {
    opened = λ q stands. ap (λ lists. has_page lists q) listed ∙ key_stays page q table.pages (h.opened q stands);
    begun = λ call there. h.begun call (sym (ap (λ is. has_call is call) items) ∙ there);
    few_pages =
        (let l = length_keyed page table.pages in let e = ap length listed in let f = h.few_pages in omega (arith, l, e, f, more));
    few_calls = (let l = total_keyed page table.pages in let e = ap total listed in let f = h.few_calls in omega (arith, l, e, f, more));
    few_origins =
        (let e = ap length waits in let f = h.few_origins in omega (arith, e, f, more));
    waiting = λ call known found.
        ap (stands_in call) waits ∙ h.waiting call known (sym (ap (λ is. item_known is call) items) ∙ found);
  }

  -- there may be more
  pub tabs_room : (changes' : ℕ) → changes' ≡ changes + 1 → AreTabs pages taken table changes'
  tabs_room changes' more = record {
    opened = h.opened;
    begun = h.begun;
    few_pages = (let f = h.few_pages in omega (arith, f, more));
    few_calls = (let f = h.few_calls in omega (arith, f, more));
    few_origins = (let f = h.few_origins in omega (arith, f, more));
    waiting = h.waiting;
  }

  -- a page that was loaded stands
  pub tabs_stands : (page : ℕ) (origin : Origin) → has_page table.pages page ≡ true
      → AreTabs (insert_entry nat_eq pages page origin) taken table changes
  tabs_stands page origin there = record {
    opened = λ q stands. at q (nat_eq q page) refl (sym (ap is_some (lookup-insert_entry q page origin pages)) ∙ stands);
    begun = h.begun;
    few_pages = h.few_pages;
    few_calls = h.few_calls;
    few_origins = h.few_origins;
    waiting = h.waiting;
  }
    where
      at : (q : ℕ) (b : Bool) → nat_eq q page ≡ b → is_some (cond b (Some origin) (lookup (nat_eq q) pages)) ≡ true
          → has_page table.pages q ≡ true
      at q true is stands =
          let key : page ≡ q = grind (arith, nat_tests, is) in
          ap (has_page table.pages) (sym key) ∙ there
      at q false is stands = h.opened q stands

  -- a page no longer stands
  pub tabs_closed : (page : ℕ) → AreTabs (shift_remove_entry (nat_eq page) pages) taken table changes
  tabs_closed page = record {
    opened = λ q stands. h.opened q (stood q pages stands);
    begun = h.begun;
    few_pages = h.few_pages;
    few_calls = h.few_calls;
    few_origins = h.few_origins;
    waiting = h.waiting;
  }
    where
      stood : (q : ℕ) (ps : List (ℕ × Origin)) → is_some (lookup (nat_eq q) (shift_remove_entry (nat_eq page) ps)) ≡ true
          → is_some (lookup (nat_eq q) ps) ≡ true
      stood q [] stands = stands
      stood q (p ∷ ps) stands = at (nat_eq page p.0) stands (λ f. stood q ps f)
        where
          front : (own : Bool) → is_some (lookup (nat_eq q) ps) ≡ true → is_some (cond own (Some p.1) (lookup (nat_eq q) ps)) ≡ true
          front true s = refl
          front false s = s

          behind : (own : Bool) → is_some (cond own (Some p.1) (lookup (nat_eq q) (shift_remove_entry (nat_eq page) ps))) ≡ true
              → (is_some (lookup (nat_eq q) (shift_remove_entry (nat_eq page) ps)) ≡ true → is_some (lookup (nat_eq q) ps) ≡ true)
              → is_some (cond own (Some p.1) (lookup (nat_eq q) ps)) ≡ true
          behind true s later = refl
          behind false s later = later s

          at : (b : Bool) → is_some (lookup (nat_eq q) (cond b ps (p ∷ shift_remove_entry (nat_eq page) ps))) ≡ true
              → (is_some (lookup (nat_eq q) (shift_remove_entry (nat_eq page) ps)) ≡ true → is_some (lookup (nat_eq q) ps) ≡ true)
              → is_some (cond (nat_eq q p.0) (Some p.1) (lookup (nat_eq q) ps)) ≡ true
          at true s later = front (nat_eq q p.0) s
          at false s later = behind (nat_eq q p.0) s later

  -- a call is taken
  pub tabs_taken : (call : ℕ) → AreTabs pages (taken ++ call ∷ []) table changes
  tabs_taken call = record {
    opened = h.opened;
    begun = λ other there. any_more other call taken (h.begun other there);
    few_pages = h.few_pages;
    few_calls = h.few_calls;
    few_origins = h.few_origins;
    waiting = h.waiting;
  }

  -- a call that was taken is added
  pub tabs_entered : (table' : TableParts (Option Known)) (page call changes' : ℕ) (item : Option Known)
      → table'.pages ≡ with_last nat_eq page call table.pages → ChangesItem call (Some (Some item)) table.items table'.items
      → changes' ≡ changes + 1 → table'.waits ≡ table.waits → stands_in call table.waits ≡ false → awaited_in item ≡ None
      → AreTabs pages (taken ++ call ∷ []) table' changes'
  tabs_entered table' page call changes' item is changed more waits apart idle = record {
    opened = λ q stands. ap (λ lists. has_page lists q) is ∙ page_last page call q table.pages (h.opened q stands);
    begun = λ other there. at other (nat_eq call other) refl (sym (ap is_some (changed other)) ∙ there);
    few_pages =
        (let l = length_inserted page (page_calls table.pages page ++ call ∷ []) table.pages in let e = ap length is in let f =
        h.few_pages in omega (arith, l, e, f, more));
    few_calls = (let l = total_last page call table.pages in let e = ap total is in let f = h.few_calls in omega (arith, l, e, f, more));
    few_origins = (let e = ap length waits in let f = h.few_origins in omega (arith, e, f, more));
    waiting = λ other known found. waiting_at other known (nat_eq call other) refl
        (sym (ap (λ o. option_and_then (λ k. k) (option_and_then (λ k. k) o)) (changed other)) ∙ found);
  }
    where
      waiting_at : (other : ℕ) (known : Known) (b : Bool) → nat_eq call other ≡ b
          → option_and_then (λ k. k) (option_and_then (λ k. k) (cond b (Some (Some item)) (item_of table.items other))) ≡ Some known
          → stands_in other table'.waits ≡ is_some (awaits known)
      waiting_at other known true same found =
          let key : call ≡ other = grind (arith, nat_tests, same) in
          ap (stands_in other) waits ∙ ap (λ k. stands_in k table.waits) (sym key) ∙ apart
          ∙ sym (ap is_some (ap awaited_in (sym found) ∙ idle))
      waiting_at other known false same found = ap (stands_in other) waits ∙ h.waiting other known found

      at : (other : ℕ) (b : Bool) → nat_eq call other ≡ b → is_some (cond b (Some (Some item)) (item_of table.items other)) ≡ true
          → list_any (nat_eq other) (taken ++ call ∷ []) ≡ true
      at other true same there =
          let key : call ≡ other = grind (arith, nat_tests, same) in
          ap (λ k. list_any (nat_eq other) (taken ++ k ∷ [])) key ∙ any_last other taken
      at other false same there = any_more other call taken (h.begun other there)

  -- what is kept of a call changes
  pub tabs_items : (table' : TableParts (Option Known)) (call : ℕ) (known : Option (Option (Option Known)))
      → table'.pages ≡ table.pages → table'.waits ≡ table.waits → ChangesItem call known table.items table'.items
      → (is_some known ≡ true → has_call table.items call ≡ true)
      → ((k : Known) → option_and_then (λ k. k) (option_and_then (λ k. k) known) ≡ Some k → stands_in call table.waits ≡ is_some (awaits k))
      → AreTabs pages taken table' changes
  tabs_items table' call known is waits changed only waiting =
      kept_table table' (λ q there. ap (λ lists. has_page lists q) is ∙ there)
      (λ other there. at other (nat_eq call other) refl (sym (ap is_some (changed other)) ∙ there))
      (let e = ap length is in omega (arith, e)) (let e = ap total is in omega (arith, e)) (ap length waits)
      (λ other k found. waiting_at other k (nat_eq call other) refl
      (sym (ap (λ o. option_and_then (λ k. k) (option_and_then (λ k. k) o)) (changed other)) ∙ found))
    where
      waiting_at : (other : ℕ) (k : Known) (b : Bool) → nat_eq call other ≡ b
          → option_and_then (λ k. k) (option_and_then (λ k. k) (cond b known (item_of table.items other))) ≡ Some k
          → stands_in other table'.waits ≡ is_some (awaits k)
      waiting_at other k true same found =
          let key : call ≡ other = grind (arith, nat_tests, same) in
          ap (stands_in other) waits ∙ ap (λ q. stands_in q table.waits) (sym key) ∙ waiting k found
      waiting_at other k false same found = ap (stands_in other) waits ∙ h.waiting other k found

      at : (other : ℕ) (b : Bool) → nat_eq call other ≡ b → is_some (cond b known (item_of table.items other)) ≡ true
          → has_call table.items other ≡ true
      at other true same there =
          let key : call ≡ other = grind (arith, nat_tests, same) in
          ap (has_call table.items) (sym key) ∙ only there
      at other false same there = there

  -- a call leaves
  pub tabs_dropped : (table' : TableParts (Option Known)) (call : ℕ) → table'.pages ≡ all_without call table.pages
      → table'.waits ≡ all_without call table.waits → ChangesItem call None table.items table'.items → AreTabs pages taken table' changes
  tabs_dropped table' call is waits changed =
      kept_table table' (λ q there. ap (λ lists. has_page lists q) is ∙ page_without call q table.pages ∙ there)
      (λ other there. was_there (nat_eq call other) None (item_of table.items other) (item_of table'.items other) (changed other)
      (λ e. absurd (cc)) there)
      (let l = ap length is ∙ length_without call table.pages in omega (arith, l))
      (let t = total_loses call table.pages in let e = ap total is in omega (arith, t, e))
      (ap length waits ∙ waits_without call table.waits)
      (λ other k found. waiting_at other k (nat_eq call other) refl
      (sym (ap (λ o. option_and_then (λ k. k) (option_and_then (λ k. k) o)) (changed other)) ∙ found))
    where
      waiting_at : (other : ℕ) (k : Known) (b : Bool) → nat_eq call other ≡ b
          → option_and_then (λ k. k) (option_and_then (λ k. k) (cond b None (item_of table.items other))) ≡ Some k
          → stands_in other table'.waits ≡ is_some (awaits k)
      waiting_at other k true same found = absurd (cc)
      waiting_at other k false same found =
          ap (stands_in other) waits ∙ stands_without other call table.waits same ∙ h.waiting other k found

  -- a call that is lent out waits, or waits no longer
  module _ (table' : TableParts (Option Known)) (call : ℕ) (lent : item_known table.items call ≡ None) where
    waits_changed : (changes' : ℕ) (waits : List (Origin × List ℕ)) → table'.pages ≡ table.pages → table'.waits ≡ waits
        → table'.items ≡ table.items → changes ≤ changes' → length waits ≤ changes'
        → ((other : ℕ) → nat_eq call other ≡ false → stands_in other waits ≡ stands_in other table.waits)
        → AreTabs pages taken table' changes'
    waits_changed changes' waits listed is items more few same = record {
      opened = λ q stands. ap (λ lists. has_page lists q) listed ∙ h.opened q stands;
      begun = λ q there. h.begun q (sym (ap (λ is. has_call is q) items) ∙ there);
      few_pages = (let e = ap length listed in let f = h.few_pages in omega (arith, e, f, more));
      few_calls = (let e = ap total listed in let f = h.few_calls in omega (arith, e, f, more));
      few_origins = (let e = ap length is in omega (arith, e, few));
      waiting = λ other known found.
          let before = sym (ap (λ is. item_known is other) items) ∙ found in
          ap (stands_in other) is ∙ same other (other_call other known before (nat_eq call other) refl) ∙ h.waiting other known before;
    }
      where
        other_call : (other : ℕ) (known : Known) → item_known table.items other ≡ Some known → (b : Bool) → nat_eq call other ≡ b
            → b ≡ false
        other_call other known found true at =
            let key : call ≡ other = grind (arith, nat_tests, at) in
            let none : item_known table.items other ≡ None = ap (item_known table.items) (sym key) ∙ lent in
            absurd (cc)
        other_call other known found false at = refl

    pub tabs_waits : (origin : Origin) (changes' : ℕ) → table'.pages ≡ table.pages
        → table'.waits ≡ with_last same_origin origin call table.waits → table'.items ≡ table.items
        → changes' ≡ changes + 1 → AreTabs pages taken table' changes'
    tabs_waits origin changes' listed is items more =
        waits_changed changes' (with_last same_origin origin call table.waits) listed is items (omega (arith, more))
        (let l = length_last call origin table.waits in let f = h.few_origins in omega (arith, l, f, more))
        (λ other ne. stands_last other call origin table.waits ne)

    pub tabs_unwaits : table'.pages ≡ table.pages → table'.waits ≡ all_without call table.waits → table'.items ≡ table.items
        → AreTabs pages taken table' changes
    tabs_unwaits listed is items =
        waits_changed changes (all_without call table.waits) listed is items (omega arith)
        (let l = waits_without call table.waits in let f = h.few_origins in omega (arith, l, f))
        (λ other ne. stands_without other call table.waits ne)

  -- a call that was never taken is not in the table
  pub not_there : (call : ℕ) → list_any (nat_eq call) taken ≡ false → has_call table.items call ≡ false
  not_there call fresh = at (has_call table.items call) refl
    where
      at : (b : Bool) → has_call table.items call ≡ b → b ≡ false
      at true is = let taken_it : list_any (nat_eq call) taken ≡ true = h.begun call is in absurd (cc)
      at false is = refl

  -- and waits for nothing
  pub not_waiting : IsCallTable table → (call : ℕ) → list_any (nat_eq call) taken ≡ false → stands_in call table.waits ≡ false
  not_waiting lists call fresh =
      none_stands call table.waits
      (let w = lists.waiting call in let none = ap {B = ℕ} (λ b. cond b 1 0) (not_there call fresh) in omega (arith, w, none))

-- ---- what is known

-- of what is handed out nothing is known
pub never_lent : {A : Type 0} (known : Option (Option (Option Known))) (k : Known)
    → option_and_then (λ k. k) (option_and_then (λ k. k) (lent_out known)) ≡ Some k → A
never_lent None k e = absurd (cc)
never_lent (Some item) k e = absurd (cc)

-- what is handed out is no longer known, and was in the table
pub lent_known : (known : Option (Option (Option Known))) → option_and_then (λ k. k) (option_and_then (λ k. k) (lent_out known)) ≡ None
lent_known None = refl
lent_known (Some item) = refl

pub lent_none : (items : Items) (call : ℕ) → item_of items call ≡ Some None → item_known items call ≡ None
lent_none items call lent = ap (λ o. option_and_then (λ k. k) (option_and_then (λ k. k) o)) lent

pub lent_there : (known : Option (Option (Option Known))) → is_some (lent_out known) ≡ true → is_some known ≡ true
lent_there None e = e
lent_there (Some item) e = refl

pub lent_is : (known : Option (Option (Option Known))) (item : Option Known) → option_and_then (λ k. k) known ≡ Some item
    → lent_out known ≡ Some None
lent_is None item e = absurd (cc)
lent_is (Some known) item e = refl

-- what is known of a call as its item changes
pub known_changes : (call : ℕ) (known : Option (Option (Option Known))) (old new : Items) → ChangesItem call known old new
    → ChangesKnown call (option_and_then (λ k. k) (option_and_then (λ k. k) known)) old new
known_changes call known old new changed = λ other.
    ap (λ k. option_and_then (λ k. k) (option_and_then (λ k. k) k)) (changed other) ∙ go other (nat_eq call other)
  where
    go : (other : ℕ) (b : Bool) → option_and_then (λ k. k) (option_and_then (λ k. k) (cond b known (item_of old other)))
        ≡ cond b (option_and_then (λ k. k) (option_and_then (λ k. k) known)) (item_known old other)
    go other true = refl
    go other false = refl

pub known_loses : (gone : List ℕ) (old new : Items) → LosesItems gone old new → LosesKnown gone old new
known_loses gone old new loses = λ other.
    ap (λ k. option_and_then (λ k. k) (option_and_then (λ k. k) k)) (loses other) ∙ go other (has other gone)
  where
    go : (other : ℕ) (b : Bool) → option_and_then (λ k. k) (option_and_then (λ k. k) (cond b None (item_of old other)))
        ≡ cond b None (item_known old other)
    go other true = refl
    go other false = refl

-- ---- in turn

-- the calls of a page end, and then it no longer stands
pub closes_then : (page : ℕ) (old mid inside : TabsParts) (pages : List (ℕ × Origin))
    → Ends page old.pages (emptied (nat_eq page) old.table.pages) old mid → inside ≡ mid
    → pages ≡ shift_remove_entry (nat_eq page) inside.pages
    → Ends page (shift_remove_entry (nat_eq page) old.pages) (emptied (nat_eq page) old.table.pages) old
    (record inside { pages = pages })
closes_then page old mid inside pages ended is removed =
    let e = subst (Ends page old.pages (emptied (nat_eq page) old.table.pages) old) (sym is) ended in
    record {
      pages = removed ∙ ap (shift_remove_entry (nat_eq page)) e.pages;
      listed = e.listed;
      gets = e.gets;
      taken = e.taken;
      waits = e.waits;
      known = e.known;
    }

-- and then it stands with this origin
pub loads_then : (page : ℕ) (origin : Origin) (old mid inside : TabsParts) (pages : List (ℕ × Origin))
    (table : TableParts (Option Known)) → Ends page old.pages (emptied (nat_eq page) old.table.pages) old mid → inside ≡ mid
    → pages ≡ insert_entry nat_eq inside.pages page origin → table.pages ≡ with_key nat_eq page inside.table.pages
    → table.waits ≡ inside.table.waits → table.items ≡ inside.table.items
    → Ends page (insert_entry nat_eq old.pages page origin) (with_key nat_eq page (emptied (nat_eq page) old.table.pages)) old
    (record inside { pages = pages; table = table })
loads_then page origin old mid inside pages table ended is stands listed waits items =
    let e = subst (Ends page old.pages (emptied (nat_eq page) old.table.pages) old) (sym is) ended in
    record {
      pages = stands ∙ ap (λ ps. insert_entry nat_eq ps page origin) e.pages;
      listed = listed ∙ ap (with_key nat_eq page) e.listed;
      gets = e.gets;
      taken = e.taken;
      waits = waits ∙ e.waits;
      known = subst (LosesKnown (page_calls old.table.pages page) old.table.items) (sym items) e.known;
    }

-- the pending calls of a page end
pub ends_from : (page : ℕ) (old inside : TabsParts) (gets : List (ℕ × ℕ)) (table : TableParts (Option Known)) → inside ≡ old
    → table.pages ≡ emptied (nat_eq page) inside.table.pages
    → table.waits ≡ all_without_calls (page_calls inside.table.pages page) inside.table.waits
    → LosesItems (page_calls inside.table.pages page) inside.table.items table.items → ChangesGet page None inside.gets gets
    → Ends page old.pages (emptied (nat_eq page) old.table.pages) old (record inside { gets = gets; table = table })
ends_from page old inside gets table is listed waits items held =
    subst (λ (o : TabsParts). Ends page o.pages (emptied (nat_eq page) o.table.pages) o (record inside { gets = gets; table = table })) is
    (record {
      pages = refl;
      listed = listed;
      gets = held;
      taken = refl;
      waits = waits;
      known = known_loses (page_calls inside.table.pages page) inside.table.items table.items items;
    })

-- this is known of a call from now on
pub stays_from : (call : ℕ) (after : Option Known) (old inside : TabsParts) (table : TableParts (Option Known)) → inside ≡ old
    → table.pages ≡ inside.table.pages → table.waits ≡ inside.table.waits
    → ChangesKnown call after inside.table.items table.items → Stays call after old.table.waits old (record inside { table = table })
stays_from call after old inside table is listed waits known =
    subst (λ (o : TabsParts). Stays call after o.table.waits o (record inside { table = table })) is
    (record { pages = refl; listed = listed; gets = refl; taken = refl; waiting = waits; known = known })

-- and it waits, or waits no longer
pub goes_on_from : (page call : ℕ) (waited : Bool) (kept : Option Known) (old mid new : TabsParts) → is_some kept ≡ true
    → Waits (waits_next waited call (awaited_in kept) old.table.waits) old mid
    → Stays call kept mid.table.waits mid new → GoesOn page call waited kept old new
goes_on_from page call waited None old mid new there is stays = absurd (cc)
goes_on_from page call waited (Some known) old mid new there is stays = record {
  pages = stays.pages ∙ is.pages;
  listed = stays.listed ∙ is.listed;
  gets = stays.gets ∙ is.gets;
  taken = stays.taken ∙ is.taken;
  waiting = stays.waiting ∙ is.waiting;
  known = subst (λ items. ChangesKnown call (Some known) items new.table.items) is.items stays.known;
}

-- a call that is over leaves its page
pub leaves_then : (page call : ℕ) (waited : Bool) (kept : Option Known) (old new : TabsParts) → None ≡ option_map page_of kept
    → Leaves page call old new → GoesOn page call waited kept old new
leaves_then page call waited None old new over leaves = leaves
leaves_then page call waited (Some known) old new over leaves = absurd (cc)

-- a call leaves its page
pub leaves_from : (page call : ℕ) (old inside : TabsParts) (gets : List (ℕ × ℕ)) (table : TableParts (Option Known)) → inside ≡ old
    → table.pages ≡ all_without call inside.table.pages → table.waits ≡ all_without call inside.table.waits
    → ChangesItem call None inside.table.items table.items
    → ChangesGet page (get_but call (lookup (nat_eq page) inside.gets)) inside.gets gets
    → Leaves page call old (record inside { gets = gets; table = table })
leaves_from page call old inside gets table is listed waits items held =
    subst (λ (o : TabsParts). Leaves page call o (record inside { gets = gets; table = table })) is
    (record {
      pages = refl;
      listed = listed;
      gets = held;
      taken = refl;
      waits = waits;
      known = known_changes call None inside.table.items table.items items;
    })

-- a call enters
pub entered_then : (page call : ℕ) (kept : Option Known) (get : Bool) (inside : TabsParts) (gets : List (ℕ × ℕ)) (taken : List ℕ)
    (table : TableParts (Option Known)) → has_page inside.table.pages page ≡ true → list_any (nat_eq call) inside.taken ≡ false
    → ((known : Known) → kept ≡ Some known → get ≡ is_get (kind_of known)) → taken ≡ inside.taken ++ call ∷ []
    → table.pages ≡ with_last nat_eq page call inside.table.pages → table.waits ≡ inside.table.waits
    → ChangesItem call (Some (Some kept)) inside.table.items table.items
    → ChangesGet page (cond get (Some call) (lookup (nat_eq page) inside.gets)) inside.gets gets
    → (known : Known) → kept ≡ Some known → Enters page call known inside (record inside { gets = gets; taken = taken; table = table })
entered_then page call kept get inside gets taken table there fresh kind new listed waits items held known is = record {
  pages = refl;
  listed = listed;
  loaded = ap keys_of listed ∙ keys_last page call inside.table.pages there;
  gets = subst (λ b. ChangesGet page (cond b (Some call) (lookup (nat_eq page) inside.gets)) inside.gets gets) (kind known is) held;
  taken = new;
  waits = waits;
  known = subst (λ k. ChangesKnown call k inside.table.items table.items) is
      (known_changes call (Some (Some kept)) inside.table.items table.items items);
}

pub entered_from : (page call : ℕ) (kept : Option Known) (get : Bool) (old inside : TabsParts) (gets : List (ℕ × ℕ)) (taken : List ℕ)
    (table : TableParts (Option Known)) → inside ≡ old → has_page inside.table.pages page ≡ true
    → list_any (nat_eq call) inside.taken ≡ false
    → ((known : Known) → kept ≡ Some known → get ≡ is_get (kind_of known)) → taken ≡ inside.taken ++ call ∷ []
    → table.pages ≡ with_last nat_eq page call inside.table.pages → table.waits ≡ inside.table.waits
    → ChangesItem call (Some (Some kept)) inside.table.items table.items
    → ChangesGet page (cond get (Some call) (lookup (nat_eq page) inside.gets)) inside.gets gets
    → (known : Known) → kept ≡ Some known → Enters page call known old (record inside { gets = gets; taken = taken; table = table })
entered_from page call kept get old inside gets taken table same there fresh kind new listed waits items held known is =
    subst (λ (o : TabsParts). Enters page call known o (record inside { gets = gets; taken = taken; table = table })) same
    (entered_then page call kept get inside gets taken table there fresh kind new listed waits items held known is)

-- nothing came yet
pub tabs_new : (pages : List (ℕ × Origin)) (taken : List ℕ) (table : TableParts (Option Known)) → pages ≡ []
    → table ≡ no_table → AreTabs pages taken table 0
tabs_new pages taken table no_page empty = record {
  opened = λ q stands.
      let none : is_some (lookup (nat_eq q) pages) ≡ false = ap (λ ps. is_some (lookup (nat_eq q) ps)) no_page in
      absurd (cc);
  begun = λ call there.
      let none : has_call table.items call ≡ false = ap (λ (t : TableParts (Option Known)). has_call t.items call) empty in
      absurd (cc);
  few_pages = (let l = ap (λ (t : TableParts (Option Known)). length t.pages) empty in omega (arith, l));
  few_calls = (let l = ap (λ (t : TableParts (Option Known)). total t.pages) empty in omega (arith, l));
  few_origins = (let l = ap (λ (t : TableParts (Option Known)). length t.waits) empty in omega (arith, l));
  waiting = λ call known found.
      let none : item_known table.items call ≡ None = ap (λ (t : TableParts (Option Known)). item_known t.items call) empty in
      absurd (cc);
}

-- ---- what is handed out

-- what is handed out waits where its window is open
pub waits_after : {pages : List (ℕ × Origin)} {taken : List ℕ} {table : TableParts (Option Known)} {changes : ℕ}
    → AreTabs pages taken table changes → (call : ℕ) (waits : List (Origin × List ℕ)) (handed : Option (Option Known))
    → handed ≡ present_item table.items call → waits ≡ table.waits
    → IfSome handed (λ kept. (known : Known) → kept ≡ Some known → stands_in call waits ≡ is_some (awaits known))
waits_after h call waits None is same = tt
waits_after h call waits (Some kept) is same = λ known found.
    ap (stands_in call) same ∙ h.waiting call known (sym (ap (option_and_then (λ k. k)) is) ∙ found)

pub lent_after : (call : ℕ) (old new : Items) (handed : Option (Option Known)) → handed ≡ present_item old call
    → ChangesItem call (lent_out (item_of old call)) old new → IfSome handed (λ kept. item_of new call ≡ Some None)
lent_after call old new None is changed = tt
lent_after call old new (Some kept) is changed =
    let own : nat_eq call call ≡ true = grind (arith, nat_tests) in
    changed call ∙ ap (λ b. cond b (lent_out (item_of old call)) (item_of old call)) own ∙ lent_is (item_of old call) kept (sym is)

pub begun_after : {pages : List (ℕ × Origin)} {taken : List ℕ} {table : TableParts (Option Known)} {changes : ℕ}
    → AreTabs pages taken table changes → (call : ℕ) (handed : Option (Option Known)) → handed ≡ present_item table.items call
    → IfSome handed (λ kept. list_any (nat_eq call) taken ≡ true)
begun_after h call None is = tt
begun_after {table = table} h call (Some kept) is = h.begun call (there (item_of table.items call) (sym is))
  where
    there : (known : Option (Option (Option Known))) → option_and_then (λ k. k) known ≡ Some kept → is_some known ≡ true
    there None e = absurd (cc)
    there (Some known) e = refl

pub lent_changes : (call : ℕ) (old new : Items) → ChangesItem call (lent_out (item_of old call)) old new → ChangesKnown call None old new
lent_changes call old new changed =
    subst (λ known. ChangesKnown call known old new) (lent_known (item_of old call)) (known_changes call (lent_out (item_of old
    call)) old new changed)
