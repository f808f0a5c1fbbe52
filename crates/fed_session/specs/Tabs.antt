-- What the private clauses say of pages and calls, as these come and go.
use Rattle.std.specs.Prelude.{◌≡◌, ◌≤◌, ℕ, Bool, true, false, cond, nat_eq, List, [], ◌∷◌, ◌++◌, length, Option, Some, None, is_some}
use Rattle.std.specs.List.{list_any}
use Rattle.std.specs.Map.{lookup, keys_of}
use Rattle.indexmap.specs.IndexMap.{shift_remove_entry}
use Rattle.fed_origin.specs.declared.origin.Origin.{Origin}
use Rattle.fed_origin.specs.Origin.{same_origin, is_trustworthy}
use Rattle.fed_status.specs.Shared.{World}
use Rattle.fed_consent.specs.declared.table.ask.Ask.{Ask}
use Rattle.fed_consent.specs.declared.table.input.Input.TheVariants.{Resume}
use Rattle.fed_consent.specs.declared.table.why.Why.TheVariants.{NoPage, PageInsecure, NobodyWaits}
use Rattle.fed_table.specs.Lists.{has, all_without, all_without_calls, with_last, emptied, stands_in, total}
use Rattle.fed_table.specs.Table.{TableParts, has_page, has_call, page_calls, waiting_for}
use Rattle.fed_trace.specs.declared.out.Out.{Out}
use Rattle.fed_trace.specs.Begun.{is_get}
use Rattle.fed_trace.specs.Call.{Known, kind_of, page_of}
use Rattle.fed_trace.specs.Effect.{Ignored}
use Rattle.fed_trace.specs.Records.{records_of}
use Rattle.fed_trace.specs.Row.{resume_effects}
use Rattle.fed_session.specs.Session.{TabsParts, item_known}
use Rattle.fed_session.specs.StepParts.{get_but, awaits, kept_next}

-- what is so of all pages and calls, after so many loads, calls and opened windows: a page that stands was loaded, and a call that is
-- pending was taken; it waits where its login window is open
pub record AreTabs (pages : List (ℕ × Origin)) (taken : List ℕ) (table : TableParts (Option Known)) (changes : ℕ) : Type 0 where
  pub opened : (page : ℕ) → is_some (lookup (nat_eq page) pages) ≡ true → has_page table.pages page ≡ true
  pub begun : (call : ℕ) → has_call table.items call ≡ true → list_any (nat_eq call) taken ≡ true
  pub few_pages : length table.pages ≤ changes
  pub few_calls : total table.pages ≤ changes
  pub few_origins : length table.waits ≤ changes
  pub waiting : (call : ℕ) (known : Known) → item_known table.items call ≡ Some known
      → stands_in call table.waits ≡ is_some (awaits known)

-- what is known of this call changes, and of no other
abbrev pub ChangesKnown : ℕ → Option Known → List (ℕ × Option (Option Known)) → List (ℕ × Option (Option Known)) → Type 0
ChangesKnown call known old new = (other : ℕ) → item_known new other ≡ cond (nat_eq call other) known (item_known old other)

-- of these calls nothing is known any longer
abbrev pub LosesKnown : List ℕ → List (ℕ × Option (Option Known)) → List (ℕ × Option (Option Known)) → Type 0
LosesKnown gone old new = (other : ℕ) → item_known new other ≡ cond (has other gone) None (item_known old other)

-- this page has this pending get, or none, and the others have theirs
abbrev pub ChangesGet : ℕ → Option ℕ → List (ℕ × ℕ) → List (ℕ × ℕ) → Type 0
ChangesGet page get old new = (other : ℕ) → lookup (nat_eq other) new ≡ cond (nat_eq page other) get (lookup (nat_eq other) old)

-- ---- pages

-- the pending calls of a page end; these pages stand then, and these were loaded, with their calls
pub record Ends (page : ℕ) (standing : List (ℕ × Origin)) (lists : List (ℕ × List ℕ)) (old new : TabsParts) : Type 0 where
  pub pages : new.pages ≡ standing
  pub listed : new.table.pages ≡ lists
  pub gets : ChangesGet page None old.gets new.gets
  pub taken : new.taken ≡ old.taken
  pub waits : new.table.waits ≡ all_without_calls (page_calls old.table.pages page) old.table.waits
  pub known : LosesKnown (page_calls old.table.pages page) old.table.items new.table.items

-- the page, which has this origin, if it stands, no longer stands
abbrev pub Closes : ℕ → Option Origin → TabsParts → TabsParts → Type 0
Closes page None old new = new ≡ old
Closes page (Some origin) old new =
    Ends page (shift_remove_entry (nat_eq page) old.pages) (emptied (nat_eq page) old.table.pages) old new

-- ---- a call begins

-- and goes on: it is the last of its page
pub record Enters (page call : ℕ) (begun : Known) (old new : TabsParts) : Type 0 where
  pub pages : new.pages ≡ old.pages
  pub listed : new.table.pages ≡ with_last nat_eq page call old.table.pages
  pub loaded : keys_of new.table.pages ≡ keys_of old.table.pages
  pub gets : ChangesGet page (cond (is_get (kind_of begun)) (Some call) (lookup (nat_eq page) old.gets)) old.gets new.gets
  pub taken : new.taken ≡ old.taken ++ call ∷ []
  pub waits : new.table.waits ≡ old.table.waits
  pub known : ChangesKnown call (Some begun) old.table.items new.table.items

-- a call of the page is taken, of which this is known, where it is pending
abbrev pub Begins : ℕ → ℕ → Option Known → TabsParts → TabsParts → Type 0
Begins page call None old new = new ≡ record old { taken = old.taken ++ call ∷ [] }
Begins page call (Some known) old new = Enters page call known old new

-- the same, if it is taken
abbrev pub BeginsIf : ℕ → ℕ → Option (Option Known) → TabsParts → TabsParts → Type 0
BeginsIf page call None old new = new ≡ old
BeginsIf page call (Some known) old new = Begins page call known old new

-- ---- a call goes on

-- the calls that wait, by whether the call waited, and by the origin for which it waits from now on
abbrev pub waits_next : Bool → ℕ → Option Origin → List (Origin × List ℕ) → List (Origin × List ℕ)
waits_next false call None waits = waits
waits_next false call (Some origin) waits = with_last same_origin origin call waits
waits_next true call None waits = all_without call waits
waits_next true call (Some origin) waits = waits

-- these calls wait from now on, and all else is as it was
pub record Waits (waits : List (Origin × List ℕ)) (old new : TabsParts) : Type 0 where
  pub pages : new.pages ≡ old.pages
  pub listed : new.table.pages ≡ old.table.pages
  pub gets : new.gets ≡ old.gets
  pub taken : new.taken ≡ old.taken
  pub waiting : new.table.waits ≡ waits
  pub items : new.table.items ≡ old.table.items
  pub nodes : new.table.nodes ≡ old.table.nodes

-- this is known of it from now on, and these calls wait
pub record Stays (call : ℕ) (after : Option Known) (waits : List (Origin × List ℕ)) (old new : TabsParts) : Type 0 where
  pub pages : new.pages ≡ old.pages
  pub listed : new.table.pages ≡ old.table.pages
  pub gets : new.gets ≡ old.gets
  pub taken : new.taken ≡ old.taken
  pub waiting : new.table.waits ≡ waits
  pub known : ChangesKnown call after old.table.items new.table.items

-- it is no longer a pending call of the page
pub record Leaves (page call : ℕ) (old new : TabsParts) : Type 0 where
  pub pages : new.pages ≡ old.pages
  pub listed : new.table.pages ≡ all_without call old.table.pages
  pub gets : ChangesGet page (get_but call (lookup (nat_eq page) old.gets)) old.gets new.gets
  pub taken : new.taken ≡ old.taken
  pub waits : new.table.waits ≡ all_without call old.table.waits
  pub known : ChangesKnown call None old.table.items new.table.items

-- one of them, by whether it waited, and by what is known of it then
abbrev pub GoesOn : ℕ → ℕ → Bool → Option Known → TabsParts → TabsParts → Type 0
GoesOn page call waited None old new = Leaves page call old new
GoesOn page call waited (Some known) old new =
    Stays call (Some known) (waits_next waited call (awaits known) old.table.waits) old new

-- a call, of which this is known, if it is pending, takes an input, after which this is known
abbrev pub Takes : ℕ → Option Known → Option Known → TabsParts → TabsParts → Type 0
Takes call None after old new = Stays call None old.table.waits old new
Takes call (Some known) after old new = GoesOn (page_of known) call (is_some (awaits known)) after old new

-- ---- a page says that the user has signed in

-- calls are asked to go on, one after the other: these records are written, and this is what stands then
abbrev pub AreResumed : World → (Ask → List ℕ) → ℕ → List ℕ → TabsParts → List Out → TabsParts → Type 0
AreResumed world cookies line [] old outs new = (outs ≡ []) × (new ≡ old)
AreResumed world cookies line (call ∷ calls) old outs new =
    (rest : List Out) × (mid : TabsParts)
    × (outs ≡ records_of line (resume_effects world cookies (item_known old.table.items) call) ++ rest)
    × Takes call (item_known old.table.items call) (kept_next world (item_known old.table.items call) Resume) old mid
    × AreResumed world cookies line calls mid rest new

-- the calls that wait, of which there has to be one
abbrev pub WaitingResumed : World → (Ask → List ℕ) → ℕ → List ℕ → TabsParts → List Out → TabsParts → Type 0
WaitingResumed world cookies line [] old outs new = (outs ≡ records_of line (Ignored NobodyWaits ∷ [])) × (new ≡ old)
WaitingResumed world cookies line (call ∷ calls) old outs new = AreResumed world cookies line (call ∷ calls) old outs new

-- by whether the page is trustworthy
abbrev pub StandingResumed : World → (Ask → List ℕ) → ℕ → Bool → List ℕ → TabsParts → List Out → TabsParts → Type 0
StandingResumed world cookies line false calls old outs new = (outs ≡ records_of line (Ignored PageInsecure ∷ [])) × (new ≡ old)
StandingResumed world cookies line true calls old outs new = WaitingResumed world cookies line calls old outs new

-- by the origin of the page, if it stands
abbrev pub Resumed : World → (Ask → List ℕ) → ℕ → Option Origin → TabsParts → List Out → TabsParts → Type 0
Resumed world cookies line None old outs new = (outs ≡ records_of line (Ignored NoPage ∷ [])) × (new ≡ old)
Resumed world cookies line (Some origin) old outs new =
    StandingResumed world cookies line (is_trustworthy origin) (waiting_for old.table.waits origin) old outs new
