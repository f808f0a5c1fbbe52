-- How the members of a line begin, for private clauses.
use Rattle.std.specs.Prelude.{◌≡◌, ⊤, ℕ, Bool, true, false, List, [], ◌∷◌, bytes_eq, codes, Option, Some, None, option_and_then}
use Rattle.std.specs.Prelude.{if◌then◌else◌}
use Rattle.std.specs.List.{AllByRecursion}
use Rattle.serde_json.specs.Data.{Data, object, Members}
use Rattle.serde_json.specs.Find.{get, get_member, as_object}
use Rattle.fed_json.specs.declared.reading.Begun.{Begun}
use Rattle.fed_json.specs.declared.reading.Begun.TheVariants.{Null}
use Rattle.fed_script.specs.Said.{MayBegin}
use Rattle.fed_audit.specs.declared.record.Said.{Said}
use Rattle.fed_audit.specs.declared.said.Asked.{Asked}

-- nothing is found under the names
abbrev pub FindNothing : List Asked → Type 0
FindNothing asked = AllByRecursion (λ (a : Asked). a.found ≡ Null) asked

-- the names stay, and how the value begins that members have under each is found
abbrev pub HaveMembers : List Asked → List Asked → Members → Type 0
HaveMembers [] [] ms = ⊤
HaveMembers (b ∷ before) (a ∷ after) ms =
    MayBegin a.found (get_member b.name.now ms) × (a.name ≡ b.name) × HaveMembers before after ms
HaveMembers [] (a ∷ after) ms = ⊥
HaveMembers (b ∷ before) [] ms = ⊥

-- the same of a value, where it is an object
abbrev pub Have : List Asked → List Asked → Bool → Data → Type 0
Have before after true d = (ms : Members) × (d ≡ object ms) × HaveMembers before after ms
Have before after false d = as_object d ≡ None

-- the value that the whole is, is such a one
abbrev pub IsWhole : (Data → Type 0) → Option Data → Type 0
IsWhole P whole = (d : Data) × (whole ≡ Some d) × P d

-- what is found under one name
abbrev pub with_named : List ℕ → Begun → Asked → Asked
with_named name found a = if bytes_eq a.name.now name then record a { found = found } else a

-- the members of a value begin so
pub record Says (s : Said) (d : Data) : Type 0 where
  pub out : MayBegin s.out (get (codes "out") d)
  pub line : MayBegin s.line (get (codes "line") d)
  pub call : MayBegin s.call (get (codes "call") d)
  pub provider : MayBegin s.provider (get (codes "provider") d)
  pub kind : MayBegin s.kind (get (codes "kind") d)
  pub text : MayBegin s.text (get (codes "text") d)
  pub raw : MayBegin s.raw (get (codes "raw") d)
  pub see : MayBegin s.see (get (codes "see") d)
  pub token : MayBegin s.token (get (codes "token") d)
  pub page : MayBegin s.page (get (codes "page") d)
  pub auto : MayBegin s.auto (get (codes "auto") d)

-- those of the value of a line do, or it has no member `out`
abbrev pub SaysLine : Option Data → Option Said → Type 0
SaysLine whole (Some said) = (d : Data) × (whole ≡ Some d) × Says said d
SaysLine whole None = option_and_then (get (codes "out")) whole ≡ None
