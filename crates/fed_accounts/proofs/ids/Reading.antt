-- What is kept of the entries of a list, and of the file around it, as they are read.
use Rattle.std.proofs.Common.{◌≡◌, ℕ, List, [], ◌∷◌, Bool, true, false, bytes_eq, Option, Some, None, not, ◌==◌, length, true≢false}
use Rattle.std.proofs.Common.{refl, sym, ap, ◌∙◌, arith}
use Rattle.std.specs.Prelude.{codes, option_and_then, option_map, Result, Ok, Err}
use Rattle.std.proofs.lemmas.Slice.Eq.{bytes_eq-Decides}
use Rattle.json.specs.Token.{Token}
use Rattle.json.specs.Json.{parse_map, after_end_array}
use Rattle.serde_json.specs.Data.{Data, array, object, Items, no_items, item, Members, put}
use Rattle.serde_json.specs.Find.{as_array, as_object}
use Rattle.serde_json.proofs.Views.{get_member-put, get_member-put_other}
use Rattle.fed_io.specs.declared.error.Fault.{Fault}
use Rattle.fed_io.specs.declared.error.Fault.TheVariants.{Step, NoRoom}
use Rattle.fed_json.specs.declared.reading.Invalid.{Invalid}
use Rattle.fed_json.specs.Values.{value_in, items_in, if_done, whole_in, Took, Refused, Takes}
use Rattle.fed_json.proofs.values.Steps.{items_begin, items_next, items_last, items_none}
use Rattle.fed_reply.specs.Members.{member_found, member_of}
use Rattle.fed_reply.specs.Shape.{required}
use Rattle.fed_reply.specs.Steps.{◌>>=◌}
use Rattle.fed_accounts.specs.declared.account.Account.{Account}
use Rattle.fed_accounts.specs.declared.read.Kept.{Kept}
use Rattle.fed_accounts.specs.declared.step.AccountsStep.{AccountsStep}
use Rattle.fed_accounts.specs.declared.step.AccountsStep.TheVariants.{Shape}
use Rattle.fed_accounts.specs.Kept.{kept_entries, kept_list, kept_under, kept_in, ReadsWhole}
use Rattle.fed_accounts.specs.Read.{account_of}
use Rattle.fed_accounts.proofs.ids.Kept.{Keeps, keeps_begin, keeps_refused, keeps_end}
use Rattle.fed_accounts.proofs.lists.Kinds.{no_entries}

-- ---- entries

-- of the entries of a list some were read, and this is kept of them
pub record KeepsRead (login domain : Option (List ℕ)) (depth : ℕ) (start now : List Token) (ids : List (List ℕ)) (kept : List Account)
    : Type 0
  where
    pub before : Items → Items
    pub is : items_in depth start ≡ parse_map before (items_in depth now)
    pub keeps : (left : Items) → Keeps login domain (before left) ids kept left

pub entries_begin : (login domain : Option (List ℕ)) (depth : ℕ) (start : List Token) {ids : List (List ℕ)} {kept : List Account}
    → ids ≡ [] → kept ≡ [] → KeepsRead login domain depth start start ids kept
entries_begin login domain depth start i k =
    record { before = λ ds. ds; is = items_begin depth start; keeps = λ left. keeps_begin login domain left i k }

pub entries_more : {login domain : Option (List ℕ)} {depth : ℕ} {start now left : List Token} {ids new_ids : List (List ℕ)}
    {kept new_kept : List Account} (d : Data) (here : KeepsRead login domain depth start now ids kept) → after_end_array now ≡ None
    → value_in depth now ≡ Some (d, left)
    → ((rest : Items) → Keeps login domain (here.before (item d rest)) new_ids new_kept rest)
    → KeepsRead login domain depth start left new_ids new_kept
entries_more {depth = depth} {start = start} {now = now} {left = left} d here going read keeps =
    record { before = λ ds. here.before (item d ds); is = items_next depth start now left here.before d here.is going read; keeps = keeps }

pub entries_end : {login domain : Option (List ℕ)} {depth : ℕ} {start now left : List Token} {ids : List (List ℕ)}
    {kept : List Account} {some : Bool} → KeepsRead login domain depth start now ids kept → after_end_array now ≡ Some left
    → some ≡ not (length ids == 0)
    → (ds : Items) × (items_in depth start ≡ Some (ds, left))
    × (Ok (record { some = some; accounts = kept }) ≡ kept_entries login domain ds)
entries_end {depth = depth} {start = start} {now = now} {left = left} here over is = (
  here.before no_items,
  items_last depth start now left here.before here.is over,
  sym (keeps_end (here.keeps no_items) refl is),
)

pub entries_refused : {login domain : Option (List ℕ)} {depth : ℕ} {start now left rest : List Token} {ids : List (List ℕ)}
    {kept : List Account} {step : AccountsStep} (d : Data) (ds : Items) → KeepsRead login domain depth start now ids kept
    → after_end_array now ≡ None → value_in depth now ≡ Some (d, left) → Err step ≡ account_of d → items_in depth left ≡ Some (ds, rest)
    → (all : Items) × (items_in depth start ≡ Some (all, rest)) × (Err step ≡ kept_entries login domain all)
entries_refused {depth = depth} {start = start} {now = now} {left = left} d ds here going read is more = (
  here.before (item d ds),
  items_next depth start now left here.before d here.is going read ∙ ap (parse_map (λ l. here.before (item d l))) more,
  sym (keeps_refused (here.keeps (item d ds)) refl is),
)

pub entries_unread : {login domain : Option (List ℕ)} {depth : ℕ} {start now : List Token} {ids : List (List ℕ)} {kept : List Account}
    → KeepsRead login domain depth start now ids kept → after_end_array now ≡ None → value_in depth now ≡ None
    → items_in depth start ≡ None
entries_unread {depth = depth} {start = start} {now = now} here going none =
    items_none depth start now here.before here.is going none

pub entries_unread_more : {login domain : Option (List ℕ)} {depth : ℕ} {start now left : List Token} {ids : List (List ℕ)}
    {kept : List Account} (d : Data) → KeepsRead login domain depth start now ids kept → after_end_array now ≡ None
    → value_in depth now ≡ Some (d, left) → items_in depth left ≡ None
    → items_in depth start ≡ None
entries_unread_more {depth = depth} {start = start} {now = now} {left = left} d here going read none =
    items_next depth start now left here.before d here.is going read ∙ ap (parse_map (λ l. here.before (item d l))) none

-- ---- the list, the members and the file

abbrev Answer : Type 0
Answer = Result (Result Kept AccountsStep) (Fault Invalid)

pub list_by : (login domain : Option (List ℕ)) (part : Option (Items × List Token)) (read : Option (Data × List Token)) (r : Answer)
    (left : List Token) → read ≡ parse_map array part → Takes (λ kept ds. kept ≡ kept_entries login domain ds) part r left
    → Takes (λ kept d. kept ≡ kept_list login domain d) read r left
list_by login domain part read (Ok kept) left is h = (array h.0, is ∙ ap (parse_map array) h.1, h.2)
list_by login domain part read (Err (Step i)) left is h = is ∙ ap (parse_map array) h
list_by login domain part read (Err NoRoom) left is h = tt

pub other_list : (login domain : Option (List ℕ)) (d : Data) → as_array d ≡ None → Err Shape ≡ kept_list login domain d
other_list login domain d none = sym (ap (λ r. r >>= kept_entries login domain) (no_entries d none))

pub file_by : (login domain : Option (List ℕ)) (part : Option (Members × List Token)) (read : Option (Data × List Token)) (r : Answer)
    (left : List Token) → read ≡ parse_map object part → Takes (λ kept ms. kept ≡ kept_under login domain ms) part r left
    → Takes (λ kept d. kept ≡ kept_in login domain d) read r left
file_by login domain part read (Ok kept) left is h = (object h.0, is ∙ ap (parse_map object) h.1, h.2)
file_by login domain part read (Err (Step i)) left is h = is ∙ ap (parse_map object) h
file_by login domain part read (Err NoRoom) left is h = tt

pub other_file : (login domain : Option (List ℕ)) (d : Data) → as_object d ≡ None → Err Shape ≡ kept_in login domain d
other_file login domain d none =
    sym (ap (λ o. required Shape (member_of as_array (codes "accounts") o) >>= kept_entries login domain) none)

-- a list under its name takes the place of what was found before
pub under_name : (login domain : Option (List ℕ)) (name : List ℕ) (d : Data) (ms : Members) → name ≡ codes "accounts"
    → kept_list login domain d ≡ kept_under login domain (put name d ms)
under_name login domain name d ms is =
    sym (ap (λ k. kept_under login domain (put k d ms)) is
    ∙ ap (λ o. required Shape (member_found as_array o) >>= kept_entries login domain) (get_member-put (codes "accounts") d ms))

pub under_other : (login domain : Option (List ℕ)) (name : List ℕ) (d : Data) (ms : Members) → bytes_eq name (codes "accounts") ≡ false
    → kept_under login domain ms ≡ kept_under login domain (put name d ms)
under_other login domain name d ms differs =
    sym (ap (λ o. required Shape (member_found as_array o) >>= kept_entries login domain)
    (get_member-put_other (codes "accounts") name d ms
    (λ is. true≢false (sym ((bytes_eq-Decides name (codes "accounts")).1 (sym is)) ∙ differs))))

-- ---- the whole text

pub whole_done : {X : Type 0} (f : Data → X) (x : X) (ts left : List Token) → Took (λ d. x ≡ f d) (value_in 127 ts) left
    → true ≡ (length left == 0)
    → option_map f (whole_in ts) ≡ Some x
whole_done f x ts [] h done = ap (λ o. option_map f (option_and_then if_done o)) h.1 ∙ ap (λ y. Some y) (sym h.2)
whole_done f x ts (t ∷ left) h done = absurd (grind arith)

pub whole_left : {X : Type 0} (f : Data → X) (x : X) (ts left : List Token) → Took (λ d. x ≡ f d) (value_in 127 ts) left
    → false ≡ (length left == 0)
    → whole_in ts ≡ None
whole_left f x ts [] h done = absurd (grind arith)
whole_left f x ts (t ∷ left) h done = ap (option_and_then if_done) h.1

pub whole_refused : {X : Type 0} (f : Data → X) (ts : List Token) (fault : Fault Invalid) → Refused (value_in 127 ts) fault
    → ReadsWhole f (whole_in ts) (Err fault)
whole_refused f ts (Step i) h = ap (option_and_then if_done) h
whole_refused f ts NoRoom h = tt
