-- Texts under a few names, of a value that is read from left to right.
use Rattle.std.specs.Prelude.{◌≡◌, ℕ, Bool, is_some, List, map, bytes_eq, Option, Some, Result, Ok, Err, if◌then◌else◌}
use Rattle.std.specs.Borrow.{Bor}
use Rattle.serde_json.specs.Data.{Data, Members}
use Rattle.serde_json.specs.Find.{as_str, as_object, get_member}
use Rattle.fed_io.specs.declared.error.Fault.{Fault}
use Rattle.fed_io.specs.Fault.{Refuses}
use Rattle.fed_reply.specs.declared.member.Member.{Member}
use Rattle.fed_reply.specs.declared.member.Member.TheVariants.{Absent}
use Rattle.fed_reply.specs.declared.step.ReplyStep.{ReplyStep}
use Rattle.fed_reply.specs.declared.texts.Asked.{Asked}
use Rattle.fed_reply.specs.Members.{member_map, member_found, text_under}

-- what is found under the names
abbrev pub found_in : List Asked → List (Member (List ℕ))
found_in asked = map (λ a. member_map (λ s. s.now) a.found) asked

-- what a value has under them
abbrev pub texts_under : List Asked → Data → List (Member (List ℕ))
texts_under asked d = map (λ a. text_under a.name.now d) asked

-- what is found of a value, and whether it is an object
abbrev pub Have : List Asked → List Asked → Bool → Data → Type 0
Have before after is_object d = (found_in after ≡ texts_under before d) × (is_object ≡ is_some (as_object d))

-- the value that the whole is, is such a one
abbrev pub IsWhole : (Data → Type 0) → Option Data → Type 0
IsWhole P whole = (d : Data) × (whole ≡ Some d) × P d

-- what is found is what the expected value has, or its step comes
abbrev pub FindsTexts : List Asked → List Asked → Result Data ReplyStep → Result (Unit {0}) (Fault ReplyStep) → Type 0
FindsTexts before after expected (Ok _) = (d : Data) × (expected ≡ Ok d) × (found_in after ≡ texts_under before d)
FindsTexts before after expected (Err fault) = Refuses fault expected

-- ---- for private clauses

-- what members have under the names
abbrev pub members_under : List Asked → Members → List (Member (List ℕ))
members_under asked ms = map (λ a. member_found as_str (get_member a.name.now ms)) asked

abbrev pub HaveMembers : List Asked → List Asked → Members → Type 0
HaveMembers before after ms = found_in after ≡ members_under before ms

-- nothing is found yet
abbrev pub FindNothing : List Asked → Type 0
FindNothing asked = found_in asked ≡ map (λ a. Absent) asked

-- a name with what is found under it
abbrev pub with_found : Member (Bor (List ℕ)) → Asked → Asked
with_found found a = record a { found = found }

-- the same where it has that name
abbrev pub with_named : List ℕ → Member (Bor (List ℕ)) → Asked → Asked
with_named name found a = if bytes_eq a.name.now name then with_found found a else a
