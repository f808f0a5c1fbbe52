-- What a line holds, and what one of its members is read as.
use Rattle.std.specs.Prelude.{⊤, ℕ, Bool, true, false, ◌^◌, nat_lt, List, [], ◌∷◌, Option, Some}
use Rattle.std.specs.Prelude.{None, option_and_then, Result, Ok, Err, if◌then◌else◌}
use Rattle.serde_json.specs.Data.{Data, null}
use Rattle.serde_json.specs.Find.{get, as_str, as_number, as_u64}
use Rattle.url.specs.Parts.{Parts}
use Rattle.fed_json.specs.Value.{value_of}
use Rattle.fed_origin.specs.declared.refusal.UrlRefusal.{UrlRefusal}
use Rattle.fed_origin.specs.declared.origin.Origin.{Origin}
use Rattle.fed_origin.specs.WebUrl.{origin_of, web_url}
use Rattle.fed_script.specs.declared.cause.LineCause.{LineCause}
use Rattle.fed_script.specs.declared.cause.LineCause.TheVariants.{NotJson, Member, BadUrl}
use Rattle.fed_script.specs.declared.cause.MemberName.{MemberName}
use Rattle.fed_script.specs.Cause.{name_text}

-- the next step, unless this one was refused
infixl 10 ◌>>=◌
abbrev pub ◌>>=◌ : {A B E : Type 0} → Result A E → (A → Result B E) → Result B E
(Ok x) >>= f = f x
(Err e) >>= f = Err e

-- the cause where a condition holds
abbrev pub unless : Bool → LineCause → Result ⊤ LineCause
unless true cause = Err cause
unless false cause = Ok tt

-- the value, or the cause where there is none
abbrev pub or_cause : {A : Type 0} → LineCause → Option A → Result A LineCause
or_cause cause None = Err cause
or_cause cause (Some x) = Ok x

-- what f makes of each, or the first cause for which it makes nothing
abbrev pub each : {A B : Type 0} → (A → Result B LineCause) → List A → Result (List B) LineCause
each f [] = Ok []
each f (x ∷ xs) = do
  first ← f x
  further ← each f xs
  Ok (first ∷ further)

-- the JSON value of a line: what `serde_json` reads of a text in UTF-8
abbrev pub json_of : List ℕ → Result Data LineCause
json_of line = or_cause NotJson (value_of line)

-- null counts as absent
abbrev pub unless_null : Option Data → Option Data
unless_null None = None
unless_null (Some null) = None
unless_null (Some d) = Some d

-- a member of an object; other values have none
abbrev pub member_of : MemberName → Data → Option Data
member_of name d = unless_null (get (name_text name) d)

-- a member that must be there and of this kind
abbrev pub required : {A : Type 0} → (Data → Option A) → MemberName → Data → Result A LineCause
required kind name d = or_cause (Member name) (option_and_then kind (member_of name d))

-- what a member was read as
abbrev pub some_of : {A : Type 0} → Result A LineCause → Result (Option A) LineCause
some_of (Ok x) = Ok (Some x)
some_of (Err cause) = Err cause

-- a member that is of this kind where it is there
abbrev pub optional : {A : Type 0} → (Data → Option A) → MemberName → Option Data → Result (Option A) LineCause
optional kind name None = Ok None
optional kind name (Some d) = some_of (or_cause (Member name) (kind d))

-- a text that is one of some words, and what the word stands for
abbrev pub as_word : {A : Type 0} → (List ℕ → Option A) → Data → Option A
as_word words d = option_and_then words (as_str d)

-- a whole number of 64 bits: an integer literal, without a sign
abbrev pub as_whole : Data → Option ℕ
as_whole d = option_and_then as_u64 (as_number d)

-- a number that fits 32 bits
abbrev pub small : ℕ → Option ℕ
small n = if nat_lt n (2 ^ 32) then Some n else None

-- a whole number of 32 bits
abbrev pub as_u32 : Data → Option ℕ
as_u32 d = option_and_then small (as_whole d)

-- what is taken of what `WebUrl::read` answers
abbrev pub good_url : Result Parts UrlRefusal → Result Parts LineCause
good_url (Ok url) = Ok url
good_url (Err refusal) = Err BadUrl

-- the URL of a text
abbrev pub url_of : List ℕ → Result Parts LineCause
url_of text = good_url (web_url text)

-- the origin of the URL of a text
abbrev pub origin_of_text : List ℕ → Result Origin LineCause
origin_of_text text = do
  url ← url_of text
  Ok (origin_of url)
