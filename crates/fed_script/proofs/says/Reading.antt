-- What is read of a line from left to right.
use Rattle.std.proofs.Common.{◌≡◌, ℕ, ◌<◌, true, false, cond, List, [], ◌∷◌, length, Option, Some, None, refl, sym, ap, ◌∙◌}
use Rattle.std.proofs.Common.{true≢false}
use Rattle.std.proofs.lemmas.Slice.Eq.{bytes_eq-Decides}
use Rattle.std.proofs.Common as common
use Rattle.std.specs.Prelude.{Result, bytes_eq, codes}
use Rattle.json.specs.Token.{Token}
use Rattle.json.specs.Json.{after_end_array, parse_map}
use Rattle.serde_json.specs.Data.{Data, Num, object, Items, item, Members, put}
use Rattle.serde_json.specs.Find.{get_member}
use Rattle.serde_json.specs.Read.{number_of}
use Rattle.serde_json.proofs.Views.{get_member-put, get_member-put_other}
use Rattle.fed_json.specs.declared.reading.Begun.{Begun}
use Rattle.fed_json.specs.declared.reading.Begun.TheVariants.{Null, Bool, Number, Text, Array, Object}
use Rattle.fed_json.specs.Value.{number_or_negative}
use Rattle.fed_json.specs.Values.{value_in, items_in, Took, IsBegun}
use Rattle.fed_json.proofs.values.Steps.{items_end, items_more, items_stop}
use Rattle.fed_script.specs.declared.said.Said.{Said}
use Rattle.fed_script.specs.declared.cause.LineCause.{LineCause}
use Rattle.fed_script.specs.Get.{ProviderMembers, as_entry, provider_members}
use Rattle.fed_script.specs.Entries.{Entries, with_members, with_entry, with_entries, providers_in, providers_named, providers_after}
use Rattle.fed_script.specs.Said.{shown, Says}
use Rattle.fed_script.proofs.says.Same.{provider_same}
use Rattle.fed_script.proofs.says.Alike.{shown_same}

abbrev option_or : {A : Type 0} → A → Option A → A
option_or d None = d
option_or d (Some a) = a

-- ---- an entry

number_no_entry : (o : Option Num) → as_entry (number_or_negative o) ≡ None
number_no_entry None = refl
number_no_entry (Some n) = refl

-- a value that is no object
pub no_entry : (first : Begun) (d : Data) → IsBegun first d → ((depth : ℕ) → first ≡ Object depth → ⊥) → as_entry d ≡ None
no_entry Null d is other = rw is
no_entry (Bool b) d is other = rw is
no_entry (Number s) d is other = ap as_entry is ∙ number_no_entry (number_of s.now)
no_entry (Text s) d is other = rw is
no_entry (Array depth) d is other = rw is.1
no_entry (Object depth) d is other = absurd (other depth refl)

-- an object
pub entry_read : (said : Said) (ms : Members) (before after : Entries) (entry : Result ProviderMembers LineCause) → Says said (object ms)
    → entry ≡ provider_members (shown said) → after ≡ with_members entry before → after ≡ with_entry (as_entry (object ms)) before
entry_read said ms before after entry says is goes_on =
    goes_on ∙ ap (λ x. with_members x before) (is ∙ provider_same (shown said) (object ms) (shown_same said (object ms) says))

-- ---- the entries that are left of a list

-- the entries after those before are the entries after those now, which are left to read
pub record ReadsOn (depth : ℕ) (start now : List Token) (before after : Entries) : Type 0 where
  pub entries :
      parse_map (λ ds. with_entries ds before) (items_in depth start) ≡ parse_map (λ ds. with_entries ds after) (items_in depth now)

pub reads_none : (depth : ℕ) (start : List Token) (before : Entries) → ReadsOn depth start start before before
reads_none depth start before = record { entries = refl }

twice : (d : Data) (before : Entries) (o : Option (Items × List Token))
    → parse_map (λ ds. with_entries ds before) (parse_map (item d) o) ≡ parse_map (λ ds. with_entries ds (with_entry (as_entry d) before)) o
twice d before None = refl
twice d before (Some p) = refl

module _ (depth : ℕ) (start now left : List Token) (before after : Entries) (so_far : ReadsOn depth start now before after) where
  pub reads_more : (d : Data) (next : Entries) → after_end_array now ≡ None → value_in depth now ≡ Some (d, left)
      → next ≡ with_entry (as_entry d) after → ReadsOn depth start left before next
  reads_more d next going is goes_on =
      record {
        entries =
            so_far.entries ∙ ap (parse_map (λ ds. with_entries ds after)) (items_more depth now left d going is)
            ∙ twice d after (items_in depth left) ∙ ap (λ e. parse_map (λ ds. with_entries ds e) (items_in depth left)) (sym goes_on);
      }

  some_items : (o : Option (Items × List Token)) → parse_map (λ ds. with_entries ds before) o ≡ Some (after, left)
      → Took (λ ds. after ≡ with_entries ds before) o left
  some_items None e = absurd (cc)
  some_items (Some p) e =
      let same = ap (option_or (with_entries p.0 before, p.1)) e in
      (p.0, ap (λ r. Some (p.0, r)) (ap (λ q. q.1) same), sym (ap (λ q. q.0) same))

  pub reads_all : after_end_array now ≡ Some left → Took (λ ds. after ≡ with_entries ds before) (items_in depth start) left
  reads_all over =
      some_items (items_in depth start)
      (so_far.entries ∙ ap (parse_map (λ ds. with_entries ds after)) (items_end depth now left over))

  no_items_there : (o : Option (Items × List Token)) → parse_map (λ ds. with_entries ds before) o ≡ None → o ≡ None
  no_items_there None e = refl
  no_items_there (Some p) e = absurd (cc)

  pub reads_stop : after_end_array now ≡ None → value_in depth now ≡ None → items_in depth start ≡ None
  reads_stop going none =
      no_items_there (items_in depth start)
      (so_far.entries ∙ ap (parse_map (λ ds. with_entries ds after)) (items_stop depth now going none))

-- ---- the members of a line

providers_by : (b : common.Bool) (k : List ℕ) (d : Data) (found : Members) → bytes_eq k (codes "providers") ≡ b
    → cond b (providers_in d) (providers_named (get_member (codes "providers") found))
    ≡ providers_named (get_member (codes "providers") (put k d found))
providers_by true k d found is =
    let same = (bytes_eq-Decides k (codes "providers")).0 is in
    ap providers_named (sym (ap (λ n. get_member n (put k d found)) (sym same) ∙ get_member-put k d found))
providers_by false k d found is =
    ap providers_named (sym (get_member-put_other (codes "providers") k d found
    (λ same. true≢false (sym ((bytes_eq-Decides k (codes "providers")).1 (sym same)) ∙ is))))

-- the providers that members name after one more
pub providers_put : (k : List ℕ) (d : Data) (found : Members) (before after : Result (List ProviderMembers) LineCause)
    → after ≡ providers_after k d before → before ≡ providers_named (get_member (codes "providers") found)
    → after ≡ providers_named (get_member (codes "providers") (put k d found))
providers_put k d found before after is was =
    is ∙ ap (providers_after k d) was ∙ providers_by (bytes_eq k (codes "providers")) k d found refl
