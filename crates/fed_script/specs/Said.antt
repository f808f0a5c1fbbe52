-- What a line says under the names that lines have, for private clauses.
use Rattle.std.specs.Prelude.{◌≡◌, ℕ, List, [], ◌∷◌, Option, Some, None, bytes_eq}
use Rattle.std.specs.Prelude.{Result, Ok, Err, ⊤, slice_index_or, if◌then◌else◌}
use Rattle.serde_json.specs.Data.{Data, object, Members, no_members, member}
use Rattle.serde_json.specs.Find.{get}
use Rattle.fed_io.specs.declared.error.Fault.{Fault}
use Rattle.fed_io.specs.declared.error.Fault.TheVariants.{Step, NoRoom}
use Rattle.fed_json.specs.declared.reading.Begun.{Begun}
use Rattle.fed_json.specs.declared.reading.Begun.TheVariants.{Null}
use Rattle.fed_json.specs.Begun.{begun_data}
use Rattle.fed_json.specs.declared.reading.Invalid.{Invalid}
use Rattle.fed_json.specs.Values.{IsBegun}
use Rattle.fed_script.specs.declared.cause.LineCause.{LineCause}
use Rattle.fed_script.specs.declared.cause.MemberName.{MemberName}
use Rattle.fed_script.specs.declared.cause.MemberName.TheVariants as names
use Rattle.fed_script.specs.declared.event.Event.{Event}
use Rattle.fed_script.specs.declared.said.Said.{Said}
use Rattle.fed_script.specs.declared.saying.SaidLine.{SaidLine}
use Rattle.fed_script.specs.Cause.{name_text}
use Rattle.fed_script.specs.Entries.{all_said, entries_seen, providers_named}
use Rattle.fed_script.specs.Get.{ProviderMembers, GetMembers, get_by}
use Rattle.fed_script.specs.Member.{◌>>=◌, json_of, required, as_u32}
use Rattle.fed_script.specs.Options.{option_members}

-- the names, those first that most lines have
abbrev pub all_names : List MemberName
all_names =
    names.Do ∷ names.Page ∷ names.Call ∷ names.Provider ∷ names.Account ∷ names.To ∷ names.Text ∷ names.Url ∷ names.What
    ∷ names.Origin ∷ names.Status ∷ names.Time ∷ names.Providers ∷ names.Mode ∷ names.Activation ∷ names.Context ∷ names.Mediation
    ∷ names.Raw ∷ names.Config ∷ names.Client ∷ names.Hint ∷ names.Nonce ∷ names.LoginHint ∷ names.DomainHint ∷ names.Params
    ∷ names.Fedcm ∷ names.Now ∷ names.Rules ∷ []

-- the first of some names that a text is
abbrev pub named_of : List MemberName → List ℕ → Option MemberName
named_of [] text = None
named_of (name ∷ further) text = if bytes_eq text (name_text name) then Some name else named_of further text

-- the name that a text is
abbrev pub named : List ℕ → Option MemberName
named text = named_of all_names text

-- the place of a name in the order of the type
abbrev pub place : MemberName → ℕ
place names.Do = 0
place names.Fedcm = 1
place names.Now = 2
place names.Rules = 3
place names.What = 4
place names.Origin = 5
place names.Status = 6
place names.Time = 7
place names.Page = 8
place names.Url = 9
place names.Text = 10
place names.Raw = 11
place names.Call = 12
place names.Mediation = 13
place names.Mode = 14
place names.Activation = 15
place names.Context = 16
place names.Providers = 17
place names.Config = 18
place names.Client = 19
place names.Nonce = 20
place names.LoginHint = 21
place names.DomainHint = 22
place names.Params = 23
place names.Provider = 24
place names.To = 25
place names.Account = 26
place names.Hint = 27

-- how the value of a name begins
unfoldable pub under : MemberName → Said → Begun
under name s = slice_index_or s.found (place name) Null

-- no name has a value
abbrev pub IsEmpty : Said → Type 0
IsEmpty s = (name : MemberName) → under name s ≡ Null

abbrev pub members_of : List MemberName → Said → Members
members_of [] s = no_members
members_of (name ∷ further) s = member (name_text name) (begun_data (under name s)) (members_of further s)

-- the object that has these members
unfoldable pub shown : Said → Data
shown s = object (members_of all_names s)

-- a value begins so; null where there is none
abbrev pub MayBegin : Begun → Option Data → Type 0
MayBegin first None = first ≡ Null
MayBegin first (Some d) = IsBegun first d

-- the values of the members of an object begin so
abbrev pub Says : Said → Data → Type 0
Says s d = (name : MemberName) → MayBegin (under name s) (get (name_text name) d)

-- nothing is said
pub record SaysNothing (line : SaidLine) : Type 0 where
  pub members : IsEmpty line.members
  pub providers : all_said (entries_seen line.providers) ≡ providers_named None

-- a line says this
pub record SaysLine (line : SaidLine) (d : Data) : Type 0 where
  pub members : Says line.members d
  pub providers : all_said (entries_seen line.providers) ≡ providers_named (get (name_text names.Providers) d)

-- this was read of a text of this data, unless there was no memory
abbrev pub SaysWhole : SaidLine → Option Data → Result ⊤ (Fault Invalid) → Type 0
SaysWhole said found (Ok done) = (d : Data) × (found ≡ Some d) × SaysLine said d
SaysWhole said found (Err (Step invalid)) = found ≡ None
SaysWhole said found (Err NoRoom) = ⊤

-- this was read of a line, unless there was no memory
abbrev pub Reads : List ℕ → Result ⊤ (Fault LineCause) → SaidLine → Type 0
Reads line (Ok done) said = (d : Data) × (json_of line ≡ Ok d) × SaysLine said d
Reads line (Err (Step cause)) said = json_of line ≡ Err cause
Reads line (Err NoRoom) said = ⊤

-- the members of a get whose providers have these
abbrev pub get_members_by : Data → Result (List ProviderMembers) LineCause → Result GetMembers LineCause
get_members_by d found = do
  page ← required as_u32 names.Page d
  call ← required as_u32 names.Call d
  options ← option_members d
  providers ← found
  Ok (record { page = page; call = call; options = options; providers = providers })

-- the get that a line names whose members say this
abbrev pub get_said : Data → Result (List ProviderMembers) LineCause → Result Event LineCause
get_said d found = get_members_by d found >>= get_by
