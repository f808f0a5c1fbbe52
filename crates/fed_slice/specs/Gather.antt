-- What the private clauses of `closure`, `in_slice` and `slice_text` name.
use Rattle.std.specs.Prelude.{◌≡◌, ℕ, Bool, false, nat_eq, ◌&&◌, ◌||◌, not, bytes_eq, List, Option, Some, None}
use Rattle.std.specs.List.{list_any}
use Rattle.fed_suffix.specs.Rule.{RuleSet}
use Rattle.fed_script.specs.declared.event.Event.{Event}
use Rattle.fed_script.specs.declared.event.Numbered.{Numbered}
use Rattle.fed_script.specs.Script.{Script}
use Rattle.fed_slice.specs.declared.part.ScriptPart.{ScriptPart}
use Rattle.fed_slice.specs.Closure.{hosts_named, is_among, is_one}
use Rattle.fed_slice.specs.Linked.{is_number}
use Rattle.fed_slice.specs.Part.{Part, has_event}
use Rattle.fed_slice.specs.Slice.{page_in, call_in}

-- ---- numbers

-- the number that is given, if one is, is this one
abbrev pub is_given : ℕ → Option ℕ → Bool
is_given q None = false
is_given q (Some n) = nat_eq q n

-- the number that passes is given, if one does
abbrev pub Gives : (ℕ → Bool) → Option ℕ → Type 0
Gives test given = (q : ℕ) → is_given q given ≡ test q

-- the number that is given, if one is, is among those now
abbrev pub Adds : Option ℕ → List ℕ → List ℕ → Type 0
Adds given old new = (q : ℕ) → is_number new q ≡ (is_number old q || is_given q given)

-- these numbers are those that pass
abbrev pub AreThose : (ℕ → Bool) → List ℕ → Type 0
AreThose test numbers = (q : ℕ) → is_number numbers q ≡ test q

-- ---- parties

-- the lists have the same parties, in whatever order and however often
abbrev pub SameMembers : List (List ℕ) → List (List ℕ) → Type 0
SameMembers a b = (q : List ℕ) → is_one a q ≡ is_one b q

-- the new list has the parties of the old one and this one
abbrev pub AddsParty : List ℕ → List (List ℕ) → List (List ℕ) → Type 0
AddsParty party old new = (q : List ℕ) → is_one new q ≡ (is_one old q || bytes_eq q party)

-- the event names the page number with a host outside of these parties
abbrev pub names_outside : RuleSet → List (List ℕ) → ℕ → Event → Bool
names_outside rules parties page event = list_any (λ host. not (is_among rules parties host)) (hosts_named page event)

-- some event does
abbrev pub is_outside : RuleSet → List (List ℕ) → List Numbered → ℕ → Bool
is_outside rules parties events page = list_any (λ n. names_outside rules parties page n.event) events

-- ---- parts

-- the part that is kept
abbrev pub part_kept : RuleSet → ScriptPart → Part
part_kept rules p =
    record {
      rules = rules;
      parties = p.parties;
      pages = is_number p.pages.keys;
      calls = is_number p.calls.keys;
    }

-- it is that of the script by these parties
pub record IsPartOf (s : Script) (parties : List (List ℕ)) (p : ScriptPart) : Type 0 where
  pub members : SameMembers p.parties parties
  pub pages : AreThose (page_in s parties) p.pages.keys
  pub calls : AreThose (call_in s parties) p.calls.keys

-- the line is that of an event of the part
abbrev pub is_kept_line : Part → Numbered → ℕ → Bool
is_kept_line p n number = has_event p n.event && nat_eq number n.line

abbrev pub is_kept : Part → List Numbered → ℕ → Bool
is_kept p events number = list_any (λ n. is_kept_line p n number) events
